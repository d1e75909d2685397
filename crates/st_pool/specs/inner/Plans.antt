-- What an operation takes before its first device call.
use Rattle.std.specs.Prelude.{◌≡◌, ◌==◌, ℕ, ◌≤◌, ◌^◌, Bool, true, false, List, Option, Some, None, bytes_eq, if◌then◌else◌}
use Rattle.st_limits.specs.declared.TheConstants.{MAX_COMMITS}
use Rattle.st_units.specs.declared.cause.Cause.TheVariants.{Maintenance, Worn}
use Rattle.st_poolrec.specs.declared.record.PoolRec.{PoolRec}
use Rattle.st_poolrec.specs.Record as pools
use Rattle.st_model.specs.declared.call.Call.{Call}
use Rattle.st_model.specs.declared.info.PoolInfo.{PoolInfo}
use Rattle.st_model.specs.declared.info.ShownMode.TheVariants as shows
use Rattle.st_model.specs.declared.reply.Given.TheVariants.{Changed}
use Rattle.st_model.specs.declared.reply.Reply.{Reply}
use Rattle.st_model.specs.Answer.{accepted, refused, refused_where}
use Rattle.st_books.specs.declared.books.Books.{Books}
use Rattle.st_books.specs.Spelled.{IsBare, IsNext}
use Rattle.st_pool.specs.declared.planning.Plan.{Plan}
use Rattle.st_pool.specs.declared.planning.Twins.{Twins}

-- the record with this name, gone or not; each commit writes version 2
abbrev pub record_with : List ℕ → Bool → PoolRec → PoolRec
record_with name gone rec = record rec { name = name; gone = gone; version2 = true }

-- the refusal of a call that commits: the pool is down, or has made as many commits as it can
abbrev pub refusal : Books → Option Call → Option Reply
refusal b None = refused_where (b.generation == MAX_COMMITS) Worn
refusal b (Some call) = Some (refused (Maintenance b.rec.name))

-- the answer of a rename that changes nothing
abbrev pub rename_refusal : Books → Option Call → List ℕ → Option Reply
rename_refusal b flight new = if bytes_eq b.rec.name new then Some (accepted (Changed false None)) else refusal b flight

-- Of a pool without filesystems, that is up: its books may go on to the next commit.
pub record MayCommit (b : Books) : Type 0 where
  pub valid : pools.is_record b.rec ≡ true
  pub bare : IsBare b.rec.serial b.generation b.flex
  pub until : b.generation ≤ 2 ^ 48

-- an info of this, twice
pub record AreTwins (info : PoolInfo) (t : Twins) : Type 0 where
  pub own : t.own ≡ info
  pub spare : t.spare ≡ info

-- The plan makes the commit of this record; where a device fails, this call goes into flight.
pub record IsPlan (b : Books) (info : PoolInfo) (rec : PoolRec) (call : Call) (p : Plan) : Type 0 where
  pub next : IsNext b p.next
  pub rec_is : p.next.rec ≡ rec
  pub call_is : p.call ≡ call
  pub down : AreTwins (record info { mode = shows.Down }) p.down
