-- what a pool reads after a snapshot
use Rattle.std.proofs.Common.{◌≡◌, ℕ, ◌+◌, List, [], ◌∷◌, ◌++◌, Bool, true, false, cond, Option, Some, None, option_map, bytes_eq, refl, sym, ap, ◌∙◌}
use Rattle.std.specs.List.{AllByRecursion}
use Rattle.std.proofs.lemmas.Slice.Eq.{bytes_eq-Decides}
use Rattle.st_units.specs.declared.cause.Cause.{Cause}
use Rattle.st_units.specs.declared.cause.Cause.TheVariants.{MappingFull, NameInUse, OverProvision, TooManyFilesystems, Worn}
use Rattle.st_model.specs.declared.reply.Identity.TheVariants.{Filesystem}
use Rattle.st_model.specs.declared.reply.Given.TheVariants.{Changed}
use Rattle.st_model.specs.declared.reply.Reply.{Reply}
use Rattle.st_model.specs.declared.state.FsState.{FsState}
use Rattle.st_model.specs.declared.state.PoolState.{PoolState}
use Rattle.st_model.specs.Answer.{accepted, first_answer, refused, refused_where, unless_answered}
use Rattle.st_model.specs.Checks.{fs_at, in_fs}
use Rattle.st_model.specs.Content.{sector_bytes}
use Rattle.st_model.specs.Look.{Text}
use Rattle.st_model.specs.Step.{changes}
use Rattle.st_model.specs.steps.SnapshotFilesystem.{comes_from, named_answer, snapshot_answers, snapshot_filesystem, snapshot_of, take_snapshot, with_snapshot}
use Rattle.st_model.proofs.Among.{self}
use Rattle.st_model.proofs.Flights.{find_but_last}
use Rattle.st_laws.specs.Reads.{reads_in}

find_last : (name : Text) (fss : List FsState) (y : FsState) → fs_at name fss ≡ None → bytes_eq y.row.name name ≡ true → fs_at name (fss ++ y ∷ []) ≡ Some y
find_last name [] y h e = rw e refl
find_last name (x ∷ fss) y h e = here (bytes_eq x.row.name name) h (λ g. find_last name fss y g e)
  where
    here : (b : Bool) → cond b (Some x) (fs_at name fss) ≡ None → (fs_at name fss ≡ None → fs_at name (fss ++ y ∷ []) ≡ Some y) → cond b (Some x) (fs_at name (fss ++ y ∷ [])) ≡ Some y
    here true h f = absurd cc
    here false h f = f h

-- an answer of the list changes nothing
abbrev pub IsStill : Option Reply → Type 0
IsStill None = Unit {0}
IsStill (Some r) = changes r.result ≡ false

pub still_first : (answers : List (Option Reply)) → AllByRecursion IsStill answers → IsStill (first_answer answers)
still_first [] h = tt
still_first (None ∷ answers) h = still_first answers h.1
still_first (Some r ∷ answers) h = h.0

pub still_where : (b : Bool) (c : Cause) → IsStill (refused_where b c)
still_where true c = refl
still_where false c = tt

still_named : (origin fs : Option FsState) → IsStill (named_answer origin fs)
still_named origin None = tt
still_named origin (Some fs) = here (comes_from origin fs)
  where
    here : (b : Bool) → IsStill (cond b (Some (accepted (Changed false None))) (Some (refused NameInUse)))
    here true = refl
    here false = refl

still_answers : (name : Text) (fs : FsState) (p : PoolState) → AllByRecursion IsStill (snapshot_answers name fs p)
still_answers name fs p = (still_where _ TooManyFilesystems, (still_where _ (OverProvision _ _), (still_where _ (MappingFull _ _), (still_where _ Worn, tt))))

clash : (b : Bool) → b ≡ false → b ≡ true → ⊥
clash b f t = absurd cc

pub snapshot-reads : (origin name : Text) (p : PoolState) (k : ℕ) → changes (snapshot_filesystem origin name p).0.result ≡ true → reads_in name k (snapshot_filesystem origin name p).1 ≡ reads_in origin k p
unfolding snapshot_filesystem
snapshot-reads origin name p k ok = by_name (fs_at name p.filesystems) refl (still_named (fs_at origin p.filesystems) (fs_at name p.filesystems)) ok
  where
    in_one : (fs : FsState) → fs_at origin p.filesystems ≡ Some fs → fs_at name p.filesystems ≡ None → (a : Option Reply) → IsStill a
        → changes (unless_answered a p (accepted (Changed true (Some (Filesystem p.serial p.next_filesystem))), record p { filesystems = with_snapshot fs name p; next_filesystem = p.next_filesystem + 1; commits = p.commits + 1 })).0.result ≡ true
        → reads_in name k (unless_answered a p (accepted (Changed true (Some (Filesystem p.serial p.next_filesystem))), record p { filesystems = with_snapshot fs name p; next_filesystem = p.next_filesystem + 1; commits = p.commits + 1 })).1 ≡ reads_in origin k p
    in_one fs e free (Some r) still ok = absurd (clash (changes r.result) still ok)
    in_one fs e free None still ok =
        ap (option_map (λ (x : FsState). sector_bytes p x k)) (find_last name p.filesystems (snapshot_of fs name p.next_filesystem) free (self name))
        ∙ sym (ap (option_map (λ (x : FsState). sector_bytes p x k)) e)

    by_origin : (o : Option FsState) → fs_at origin p.filesystems ≡ o → fs_at name p.filesystems ≡ None → changes (in_fs (take_snapshot name) p o).0.result ≡ true → reads_in name k (in_fs (take_snapshot name) p o).1 ≡ reads_in origin k p
    by_origin None e free ok = absurd cc
    by_origin (Some fs) e free ok = in_one fs e free (first_answer (snapshot_answers name fs p)) (still_first (snapshot_answers name fs p) (still_answers name fs p)) ok

    by_name : (o : Option FsState) → fs_at name p.filesystems ≡ o → IsStill (named_answer (fs_at origin p.filesystems) o)
        → changes (unless_answered (named_answer (fs_at origin p.filesystems) o) p (in_fs (take_snapshot name) p (fs_at origin p.filesystems))).0.result ≡ true
        → reads_in name k (unless_answered (named_answer (fs_at origin p.filesystems) o) p (in_fs (take_snapshot name) p (fs_at origin p.filesystems))).1 ≡ reads_in origin k p
    by_name None e still ok = by_origin (fs_at origin p.filesystems) refl e ok
    by_name (Some fs) e still ok = answered (named_answer (fs_at origin p.filesystems) (Some fs)) still ok (named_some (comes_from (fs_at origin p.filesystems) fs))
      where
        named_some : (b : Bool) → (cond b (Some (accepted (Changed false None))) (Some (refused NameInUse)) ≡ None) → ⊥
        named_some true h = absurd cc
        named_some false h = absurd cc

        answered : (a : Option Reply) → IsStill a → changes (unless_answered a p (in_fs (take_snapshot name) p (fs_at origin p.filesystems))).0.result ≡ true → (a ≡ None → ⊥)
            → reads_in name k (unless_answered a p (in_fs (take_snapshot name) p (fs_at origin p.filesystems))).1 ≡ reads_in origin k p
        answered None still ok none = absurd (none refl)
        answered (Some r) still ok none = absurd (clash (changes r.result) still ok)

unequal : (a b : Text) → (a ≡ b → ⊥) → bytes_eq a b ≡ false
unequal a b ne = here (bytes_eq a b) refl
  where
    here : (c : Bool) → bytes_eq a b ≡ c → c ≡ false
    here true e = absurd (ne ((bytes_eq-Decides a b).0 e))
    here false e = refl

pub snapshot-other : (origin name : Text) (p : PoolState) (file : Text) (k : ℕ) → (file ≡ name → ⊥) → reads_in file k (snapshot_filesystem origin name p).1 ≡ reads_in file k p
unfolding snapshot_filesystem
snapshot-other origin name p file k ne = by_name (named_answer (fs_at origin p.filesystems) (fs_at name p.filesystems))
  where
    in_one : (fs : FsState) (a : Option Reply) (r : Reply) → reads_in file k (unless_answered a p (r, record p { filesystems = with_snapshot fs name p; next_filesystem = p.next_filesystem + 1; commits = p.commits + 1 })).1 ≡ reads_in file k p
    in_one fs (Some answer) r = refl
    in_one fs None r = ap (option_map (λ (x : FsState). sector_bytes p x k)) (find_but_last (λ (x : FsState). bytes_eq x.row.name file) p.filesystems (snapshot_of fs name p.next_filesystem) (unequal name file (λ e. ne (sym e))))

    by_origin : (o : Option FsState) → reads_in file k (in_fs (take_snapshot name) p o).1 ≡ reads_in file k p
    by_origin None = refl
    by_origin (Some fs) = in_one fs (first_answer (snapshot_answers name fs p)) _

    by_name : (a : Option Reply) → reads_in file k (unless_answered a p (in_fs (take_snapshot name) p (fs_at origin p.filesystems))).1 ≡ reads_in file k p
    by_name (Some r) = refl
    by_name None = by_origin (fs_at origin p.filesystems)
