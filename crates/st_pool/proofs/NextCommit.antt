-- The books of a pool that is up may go on to a next commit.
use Rattle.std.proofs.Common.{◌≡◌, ℕ, Bool, true, false, ◌&&◌, leb, List, length, Option, Some, None, refl, sym, subst, arith}
use Rattle.std.specs.Prelude.{IfNone}
use Rattle.st_model.specs.declared.call.Call.{Call}
use Rattle.st_pool.specs.declared.reply.PoolReply.{PoolReply}
use Rattle.st_pool.proofs.Answering.{no_flight}
use Rattle.std.proofs.lemmas.Bool.{and_from, and_parts}
use Rattle.std.proofs.lemmas.Bool.Decides.{nat_tests}
use Rattle.st_limits.specs.declared.TheConstants.{MAX_POOL_DEVICES}
use Rattle.st_poolrec.specs.declared.record.PoolRec.{PoolRec}
use Rattle.st_poolrec.specs.Conditions.{most_filesystems, rows_fit}
use Rattle.st_poolrec.specs.Record.{is_record}
use Rattle.st_rack.specs.Device.{State}
use Rattle.st_books.specs.declared.books.Books.{Books}
use Rattle.st_books.specs.Spelled.{IsLater}
use Rattle.st_pool.specs.Known.{IsUp}
use Rattle.st_pool.specs.inner.Plans.{MayCommit, record_with, refusal}

pub up_may : (b : Books) (s seen : State) → IsUp b s seen → MayCommit b
up_may b s seen up = record { valid = up.ready.records.is.valid; bare = up.ready.bare; until = up.ready.last }

-- a record in version 2 may have no fewer filesystems
more : (n : ℕ) (version2 : Bool) → leb n (most_filesystems version2) ≡ true → leb n (most_filesystems true) ≡ true
more n true e = e
more n false e = grind (arith, nat_tests, e)

pub with_valid : (rec : PoolRec) (name : List ℕ) (gone : Bool) → is_record rec ≡ true → is_record (record_with name gone rec) ≡ true
with_valid rec name gone valid =
    let all = and_parts (leb rec.fs_limit (most_filesystems rec.version2)) (leb 1 (length rec.devs) && (leb (length rec.devs) MAX_POOL_DEVICES && (leb (length rec.segments) MAX_POOL_DEVICES && rows_fit rec.devs rec.segments))) valid in
    and_from _ _ (more rec.fs_limit rec.version2 all.0) all.1

pub with_later : (b : Books) (name : List ℕ) (gone : Bool) → IsLater b (record_with name gone b.rec)
with_later b name gone = record { serial = refl; devs = refl; segments = refl; version = refl }

-- a record of the next commit has a spelling
pub next_valid : (b : Books) (flight : Option Call) (rec : PoolRec) (name : List ℕ) (gone : Bool) → (flight ≡ None → MayCommit b) → refusal b flight ≡ None → rec ≡ record_with name gone b.rec → is_record rec ≡ true
next_valid b flight rec name gone may free is = subst (λ (r : PoolRec). is_record r ≡ true) (sym is) (with_valid b.rec name gone (may (no_flight b flight free)).valid)

pub none_so : (o : Option PoolReply) (P : Type 0) → IfNone o P → ((x : PoolReply) → o ≡ Some x → ⊥) → P
none_so None P is other = is
none_so (Some x) P is other = absurd (other x refl)
