-- SnapshotFilesystem keeps validity
use Rattle.std.proofs.Common.{◌≡◌, ◌≢◌, ℕ, ◌+◌, ◌≤◌, ◌==◌, ◌&&◌, inl, inr, List, [], ◌∷◌, ◌++◌, length, Bool, true, false, cond, Option, Some, None, bytes_eq, nat_lt, refl, sym, subst, length-append, arith}
use Rattle.std.specs.List.{AllByRecursion, list_any}
use Rattle.std.proofs.lemmas.Grind.{common_steps}
use Rattle.std.proofs.lemmas.Slice.Eq.{bytes_eq-Decides}
use Rattle.st_units.specs.declared.cause.Cause.TheVariants.{MappingFull, NameInUse, OverProvision, TooManyFilesystems, Worn}
use Rattle.st_model.specs.declared.reply.Given.TheVariants.{Changed}
use Rattle.st_model.specs.declared.reply.Reply.{Reply}
use Rattle.st_model.specs.declared.state.FsState.{FsState}
use Rattle.st_model.specs.declared.state.PoolState.{PoolState}
use Rattle.st_model.specs.Answer.{accepted, first_answer, refused, unless_answered}
use Rattle.st_model.specs.Checks.{fs_at, on_fs}
use Rattle.st_model.specs.Look.{Text}
use Rattle.st_model.specs.Step.{changes}
use Rattle.st_model.specs.Sums.{mappings}
use Rattle.st_model.specs.ValidPool.{has_serial, is_marked, IsValidFs, AreFsPair, IsWhole}
use Rattle.st_model.specs.steps.SnapshotFilesystem.{comes_from, named_answer, snapshot_answers, snapshot_filesystem, snapshot_of, take_snapshot, with_snapshot}
use Rattle.st_model.proofs.Among.{IsIn, All-with}
use Rattle.st_model.proofs.Answers0.{IsNoChange, changed-unanswered, no_change_where, none_answers, not_worn, so_not, whole_unless}
use Rattle.st_model.proofs.Lists.{All-end, All-weaker, EachPair-end, none_found}
use Rattle.st_model.proofs.Totals.{total, total-is}
use Rattle.st_model.proofs.ValidCreateFs.{any_more, old_valid}
use Rattle.st_model.proofs.ValidFields.{in_again, in_whole}
use Rattle.st_model.proofs.Whole.{cache_alike}

unequal : (a b : Text) → bytes_eq a b ≡ false → a ≢ b
unequal a b h e = clash (bytes_eq a b) h ((bytes_eq-Decides a b).1 e)
  where
    clash : (b : Bool) → b ≡ false → b ≡ true → ⊥
    clash b f t = absurd cc

not_more : (n limit : ℕ) → nat_lt limit n ≡ false → n ≤ limit
not_more n limit h = grind (arith, common_steps)

same_number : (n : ℕ) → (n == n) ≡ true
same_number n = grind (arith, common_steps)

total_end : (fss : List FsState) (fs : FsState) → total (λ (x : FsState). length x.map) (fss ++ fs ∷ []) ≡ total (λ (x : FsState). length x.map) fss + length fs.map
total_end [] fs = omega arith
total_end (x ∷ fss) fs = let rest = total_end fss fs in omega (arith, rest)

-- a filesystem of the list has its serial there, and is as valid as all are
valid_in : (p : PoolState) (fs : FsState) (xs : List FsState) → IsIn fs xs → AllByRecursion (IsValidFs p) xs → IsValidFs p fs
valid_in p fs [] i h = absurd i
valid_in p fs (x ∷ xs) (inl e) h = subst (IsValidFs p) e h.0
valid_in p fs (x ∷ xs) (inr i) h = valid_in p fs xs i h.1

or_right : (a b : Bool) → b ≡ true → Rattle.std.specs.Prelude.◌||◌ a b ≡ true
or_right true b h = refl
or_right false b h = h

serial_in : (fs : FsState) (xs : List FsState) → IsIn fs xs → has_serial fs.row.serial xs ≡ true
serial_in fs [] i = absurd i
serial_in fs (x ∷ xs) (inl e) = rw (e, same_number fs.row.serial) refl
serial_in fs (x ∷ xs) (inr i) = or_right (x.row.serial == fs.row.serial) _ (serial_in fs xs i)

one_unmarked : (origin : FsState) (name : Text) (k serial : ℕ) → is_marked serial (snapshot_of origin name k ∷ []) ≡ false
one_unmarked origin name k serial = refl

-- each older one is apart from the snapshot
apart_from : (p : PoolState) (name : Text) (origin fs : FsState) → IsValidFs p fs → bytes_eq fs.row.name name ≡ false → AreFsPair fs (snapshot_of origin name p.next_filesystem)
apart_from p name origin fs h free = record { serials = h.below_next; names = unequal fs.row.name name free; marks = λ a b. absurd cc }

snapshot_valid : (p q : PoolState) (name : Text) (origin : FsState) → IsIn origin p.filesystems → IsValidFs p origin → 1 ≤ p.next_filesystem → q.filesystems ≡ with_snapshot origin name p → q.next_filesystem ≡ p.next_filesystem + 1
    → q.next_cell ≡ p.next_cell → q.cells ≡ p.cells → IsValidFs q (snapshot_of origin name p.next_filesystem)
snapshot_valid p q name origin i h one e n c k = record {
  from_one = one;
  below_next = rw n (omega arith);
  size = h.size;
  limit = h.limit;
  origin = (h.below_next, rw e (any_more (λ (x : FsState). x.row.serial == origin.row.serial) p.filesystems (snapshot_of origin name p.next_filesystem ∷ []) (serial_in origin p.filesystems i)));
  mark = tt;
  map = h.map;
  mapped = All-weaker _ _ origin.map (λ entry m. record { within = m.within; from_one = m.from_one; below_next = rw c m.below_next; kept = rw k m.kept }) h.mapped;
}

taken-whole : (name : Text) (origin : FsState) (p : PoolState) → fs_at name p.filesystems ≡ None → IsIn origin p.filesystems → IsWhole p → IsWhole (take_snapshot name origin p).1
taken-whole name origin p free i h =
    let new = snapshot_of origin name p.next_filesystem in
    let q : PoolState = record p { filesystems = with_snapshot origin name p; next_filesystem = p.next_filesystem + 1; commits = p.commits + 1 } in
    whole_unless (first_answer (snapshot_answers name origin p)) p (_, q) h (λ none.
    let all = none_answers (snapshot_answers name origin p) none in
    let few = not_more (length p.filesystems + 1) p.filesystem_limit (so_not _ TooManyFilesystems all.0) in
    let limit = h.limit in
    let full = not_more (mappings p + length origin.map) 32768 (so_not _ (MappingFull (mappings p) (length origin.map)) all.1.1.0) in
    let less = not_worn p all.1.1.1.0 h.commits in
    let cells = h.cell_bounded in
    let serials = h.filesystem_bounded in
    let one = h.filesystem_from_one in
    let longer : length (with_snapshot origin name p) ≡ length p.filesystems + 1 = length-append p.filesystems (new ∷ []) in
    let before = total-is (λ (fs : FsState). length fs.map) p.filesystems in
    let after = total-is (λ (fs : FsState). length fs.map) (with_snapshot origin name p) in
    let sum = total_end p.filesystems new in
    record {
      devices = h.devices;
      ordered = EachPair-end AreFsPair p.filesystems new h.ordered (All-with _ _ _ p.filesystems (λ fs v f. apart_from p name origin fs v f) h.filesystems (none_found _ p.filesystems free));
      filesystems = All-end (IsValidFs q) p.filesystems new (All-weaker _ _ p.filesystems (old_valid p q (new ∷ []) (one_unmarked origin name p.next_filesystem) refl (omega arith) refl refl) h.filesystems)
          (snapshot_valid p q name origin i (valid_in p origin p.filesystems i h.filesystems) one refl refl refl refl);
      count = rw longer (omega (arith, few, limit));
      mappings = omega (arith, before, after, sum, full);
      cell_map = h.cell_map;
      cells = All-weaker _ _ p.cells (λ entry c. record { mapped = any_more (λ (fs : FsState). list_any (λ (e : ℕ × ℕ). e.1 == entry.0) fs.map) p.filesystems (new ∷ []) c.mapped; full = c.full }) h.cells;
      used = h.used;
      allocated = h.allocated;
      cell_from_one = h.cell_from_one;
      cell_bounded = omega (arith, cells);
      filesystem_from_one = omega (arith, one);
      filesystem_bounded = omega (arith, serials);
      commits = omega (arith, less);
      limit = limit;
      cache = cache_alike p q refl refl p.cache h.cache;
    })

none_named : (origin o : Option FsState) → named_answer origin o ≡ None → o ≡ None
none_named origin None h = refl
none_named origin (Some fs) h = one_of (comes_from origin fs) _ _ h
  where
    one_of : (b : Bool) (r t : Reply) → cond b (Some r) (Some t) ≡ None → Some fs ≡ None
    one_of true r t h = absurd cc
    one_of false r t h = absurd cc

pub snapshot-whole : (origin name : Text) (p : PoolState) → IsWhole p → IsWhole (snapshot_filesystem origin name p).1
unfolding snapshot_filesystem
snapshot-whole origin name p h =
    let answer = named_answer (fs_at origin p.filesystems) (fs_at name p.filesystems) in
    whole_unless answer p (on_fs origin (take_snapshot name) p) h (λ none.
    in_whole (take_snapshot name) origin p h (λ fs i. taken-whole name fs p (none_named (fs_at origin p.filesystems) (fs_at name p.filesystems) none) i h))

no_change_named : (origin o : Option FsState) → IsNoChange (named_answer origin o)
no_change_named origin None = tt
no_change_named origin (Some fs) = here (comes_from origin fs)
  where
    here : (b : Bool) → IsNoChange (cond b (Some (accepted (Changed false None))) (Some (refused NameInUse)))
    here true = refl
    here false = refl

taken-again : (name : Text) (origin : FsState) (p q : PoolState) → first_answer (snapshot_answers name origin q) ≡ first_answer (snapshot_answers name origin p)
    → (((take_snapshot name origin p).0.code == 0) && changes (take_snapshot name origin p).0.result) ≡ true → (take_snapshot name origin q).0.code ≡ 0
taken-again name origin p q same h =
    let none : first_answer (snapshot_answers name origin p) ≡ None = changed-unanswered (snapshot_answers name origin p) p _ (no_change_where _ TooManyFilesystems, (no_change_where _ (OverProvision _ _), (no_change_where _ (MappingFull _ _), (no_change_where _ Worn, tt)))) h in
    rw (same, none) refl

-- the pool alone, with all that the answers look at
pub snapshot-again : (origin name : Text) (p q : PoolState) → q.filesystems ≡ p.filesystems → ((fs : FsState) → first_answer (snapshot_answers name fs q) ≡ first_answer (snapshot_answers name fs p))
    → (((snapshot_filesystem origin name p).0.code == 0) && changes (snapshot_filesystem origin name p).0.result) ≡ true → (snapshot_filesystem origin name q).0.code ≡ 0
unfolding snapshot_filesystem
snapshot-again origin name p q e same h =
    subst (λ (l : List FsState). (unless_answered (named_answer (fs_at origin l) (fs_at name l)) q (on_fs origin (take_snapshot name) q)).0.code ≡ 0) (sym e)
    (here (named_answer (fs_at origin p.filesystems) (fs_at name p.filesystems)) (no_change_named (fs_at origin p.filesystems) (fs_at name p.filesystems)) h)
  where
    here : (a : Option Reply) → IsNoChange a → (((unless_answered a p (on_fs origin (take_snapshot name) p)).0.code == 0) && changes (unless_answered a p (on_fs origin (take_snapshot name) p)).0.result) ≡ true
        → (unless_answered a q (on_fs origin (take_snapshot name) q)).0.code ≡ 0
    here None n h = in_again (take_snapshot name) origin p q e (λ fs. taken-again name fs p q (same fs)) h
    here (Some r) n h = absurd cc
