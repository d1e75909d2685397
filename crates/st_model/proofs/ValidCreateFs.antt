-- CreateFilesystems keeps validity, also where its write fails
use Rattle.std.proofs.Common.{◌≡◌, ◌≢◌, ℕ, suc, ◌+◌, ◌%◌, ◌<◌, ◌≤◌, ◌^◌, ◌==◌, ◌&&◌, ◌||◌, not, List, [], ◌∷◌, ◌++◌, length, fold, filter, find, Bool, true, false, cond, Option, Some, None, bytes_eq, nat_le, nat_lt, option_map, unwrap_or, refl, ap, ◌∙◌, length-append, arith}
use Rattle.std.specs.List.{AllByRecursion, list_any, sum_by}
use Rattle.std.proofs.lemmas.Grind.{common_steps}
use Rattle.std.proofs.lemmas.Slice.Eq.{bytes_eq-Decides}
use Rattle.st_units.specs.declared.cause.Cause.{Cause}
use Rattle.st_units.specs.declared.cause.Cause.TheVariants.{BadSize, LimitBelowSize, TooManyFilesystems, OverProvision, Worn}
use Rattle.st_units.specs.declared.rows.FsSpec.{FsSpec}
use Rattle.st_model.specs.declared.call.Call.TheVariants.{CreateFilesystems}
use Rattle.st_model.specs.declared.reply.Given.TheVariants as given
use Rattle.st_model.specs.declared.state.EngineState.{EngineState}
use Rattle.st_model.specs.declared.state.FsState.{FsState}
use Rattle.st_model.specs.declared.state.PoolState.{PoolState}
use Rattle.st_model.specs.Answer.{accepted, refused_by, first_answer}
use Rattle.st_model.specs.Look.{Text}
use Rattle.st_model.specs.Sums.{room}
use Rattle.st_model.specs.ValidPool.{EachPair, IsMark, is_marked, IsValidFs, IsOrigin, IsLimit, IsSize, IsWhole, AreFsPair}
use Rattle.st_model.proofs.Lists.{All-weaker, EachPair-filter, filter-passes, none_found}
use Rattle.st_model.specs.Checks.{fs_at, down}
use Rattle.st_model.specs.Lifted.{on_pool, changed}
use Rattle.st_model.specs.Step.{changes, is_changed}
use Rattle.st_model.specs.Plain.{plain}
use Rattle.st_model.specs.Valid.{IsValid}
use Rattle.st_model.specs.Checks.{is_size, is_no_size, is_below}
use Rattle.st_model.specs.steps.CreateFilesystems.{create_filesystems, to_create, distinct_specs, fs_answers, first_named, new_filesystems, size_of}
use Rattle.st_model.proofs.Among.{up}
use Rattle.st_model.proofs.Answers0.{none_answers, so_not, not_there, not_worn, whole_unless, IsNoChange, changed-unanswered, no_change_where}
use Rattle.st_model.proofs.Kept.{doing-valid, failed-valid}
use Rattle.st_model.proofs.LocalCalls.{create-within}
use Rattle.st_model.proofs.Whole.{cache_alike}

or_more : (b c d : Bool) → (b ≡ true → c ≡ true) → (d || b) ≡ true → (d || c) ≡ true
or_more b c true h e = refl
or_more b c false h e = h e

module _ {X : Type 0} where
  pub All-append : (P : X → Type 0) (xs ys : List X) → AllByRecursion P xs → AllByRecursion P ys → AllByRecursion P (xs ++ ys)
  All-append P [] ys h g = g
  All-append P (x ∷ xs) ys h g = (h.0, All-append P xs ys h.1 g)

  pub EachPair-append : (R : X → X → Type 0) (xs ys : List X) → EachPair R xs → EachPair R ys → AllByRecursion (λ x. AllByRecursion (R x) ys) xs → EachPair R (xs ++ ys)
  EachPair-append R [] ys h g a = g
  EachPair-append R (x ∷ xs) ys h g a = (All-append (R x) xs ys h.0 a.0, EachPair-append R xs ys h.1 g a.1)

  pub any_more : (p : X → Bool) (xs ys : List X) → list_any p xs ≡ true → list_any p (xs ++ ys) ≡ true
  any_more p [] ys h = absurd cc
  any_more p (x ∷ xs) ys h = or_more (list_any p xs) (list_any p (xs ++ ys)) (p x) (any_more p xs ys) h

  none_more : (p : X → Bool) (xs ys : List X) → list_any p xs ≡ false → list_any p ys ≡ false → list_any p (xs ++ ys) ≡ false
  none_more p [] ys h g = g
  none_more p (x ∷ xs) ys h g = here (p x) (list_any p xs) h (λ k. none_more p xs ys k g)
    where
      here : (a b : Bool) → (a || b) ≡ false → (b ≡ false → list_any p (xs ++ ys) ≡ false) → (a || list_any p (xs ++ ys)) ≡ false
      here true b h f = absurd cc
      here false b h f = f h

module _ {X Y : Type 0} where
  all_empty : (R : X → Y → Type 0) (xs : List X) → AllByRecursion (λ x. AllByRecursion (R x) []) xs
  all_empty R [] = tt
  all_empty R (x ∷ xs) = (tt, all_empty R xs)

  put_first : (R : X → Y → Type 0) (y : Y) (ys : List Y) (xs : List X) → AllByRecursion (λ x. R x y) xs → AllByRecursion (λ x. AllByRecursion (R x) ys) xs → AllByRecursion (λ x. AllByRecursion (R x) (y ∷ ys)) xs
  put_first R y ys [] h g = tt
  put_first R y ys (x ∷ xs) h g = ((h.0, g.0), put_first R y ys xs h.1 g.1)

  pub turned : (R : X → Y → Type 0) (xs : List X) (ys : List Y) → AllByRecursion (λ y. AllByRecursion (λ x. R x y) xs) ys → AllByRecursion (λ x. AllByRecursion (R x) ys) xs
  turned R xs [] h = all_empty R xs
  turned R xs (y ∷ ys) h = put_first R y ys xs h.0 (turned R xs ys h.1)

unequal : (a b : Text) → bytes_eq a b ≡ false → a ≢ b
unequal a b h e = clash (bytes_eq a b) h ((bytes_eq-Decides a b).1 e)
  where
    clash : (b : Bool) → b ≡ false → b ≡ true → ⊥
    clash b f t = absurd cc

not_false : (b : Bool) → not b ≡ true → b ≡ false
not_false true h = absurd cc
not_false false h = refl

-- the names of those to be created differ, and none is there
specs_differ : (specs : List FsSpec) → EachPair (λ (a b : FsSpec). a.name ≢ b.name) (distinct_specs specs)
specs_differ [] = tt
specs_differ (spec ∷ specs) = (
  All-weaker _ _ (filter (λ (other : FsSpec). not (bytes_eq spec.name other.name)) (distinct_specs specs)) (λ other h. unequal spec.name other.name (not_false _ h)) (filter-passes _ (distinct_specs specs)),
  EachPair-filter _ _ (distinct_specs specs) (specs_differ specs),
)

new_differ : (specs : List FsSpec) (p : PoolState) → EachPair (λ (a b : FsSpec). a.name ≢ b.name) (to_create specs p)
new_differ specs p = EachPair-filter _ _ (distinct_specs specs) (specs_differ specs)

none_there : (specs : List FsSpec) (p : PoolState) → AllByRecursion (λ (spec : FsSpec). AllByRecursion (λ (fs : FsState). fs.row.name ≢ spec.name) p.filesystems) (to_create specs p)
none_there specs p =
    All-weaker _ _ (to_create specs p)
    (λ spec h. All-weaker _ _ p.filesystems (λ fs g. unequal fs.row.name spec.name g) (none_found _ p.filesystems (not_there (fs_at spec.name p.filesystems) (not_false _ h))))
    (filter-passes _ (distinct_specs specs))

-- a size and a limit that are answered by nothing
record IsFit (spec : FsSpec) : Type 0 where
  size : IsSize (size_of spec)
  limit : IsLimit (size_of spec) spec.limit

three : (a b c : Bool) → (a && b && c) ≡ true → (a ≡ true) × ((b ≡ true) × (c ≡ true))
three true true true h = (refl, (refl, refl))
three true true false h = absurd cc
three true false c h = absurd cc
three false b c h = absurd cc

pub size_is : (n : ℕ) → is_size n ≡ true → IsSize n
size_is n h =
    let all = three (nat_lt 0 n) (n % 128 == 0) (nat_le n (2 ^ 32)) h in
    let some : 0 < n = grind (arith, common_steps) in
    let whole : n % 128 ≡ 0 = grind (arith, common_steps) in
    record { whole = whole; some = omega (arith, some, whole); bounded = grind (arith, common_steps) }

either : (a b : Bool) → (a || b) ≡ false → (a ≡ false) × (b ≡ false)
either true b h = absurd cc
either false b h = (refl, h)

not_true : (b : Bool) → not b ≡ false → b ≡ true
not_true true h = refl
not_true false h = absurd cc

fit : (spec : FsSpec) → (is_no_size spec.size || is_no_size spec.limit) ≡ false → is_below spec.limit (size_of spec) ≡ false → IsFit spec
fit spec h g =
    let all = either (is_no_size spec.size) (is_no_size spec.limit) h in
    record { size = sized spec.size all.0; limit = limited spec.limit all.1 g }
  where
    sized : (o : Option ℕ) → is_no_size o ≡ false → IsSize (unwrap_or o 32768)
    sized None h = record { whole = refl; some = omega arith; bounded = omega arith }
    sized (Some n) h = size_is n (not_true (is_size n) h)

    limited : (o : Option ℕ) → is_no_size o ≡ false → is_below o (size_of spec) ≡ false → IsLimit (size_of spec) o
    limited None h g = tt
    limited (Some n) h g = (size_is n (not_true (is_size n) h), grind (arith, common_steps))

none_named : (test : FsSpec → Bool) (cause : Text → Cause) (specs : List FsSpec) → first_named test cause specs ≡ None → AllByRecursion (λ spec. test spec ≡ false) specs
none_named test cause specs h = none_found test specs (here (find test specs) h)
  where
    here : (o : Option FsSpec) → refused_by (option_map (λ (spec : FsSpec). cause spec.name) o) ≡ None → o ≡ None
    here None h = refl
    here (Some spec) h = absurd cc

all_fit : (specs : List FsSpec) → AllByRecursion (λ (spec : FsSpec). (is_no_size spec.size || is_no_size spec.limit) ≡ false) specs → AllByRecursion (λ (spec : FsSpec). is_below spec.limit (size_of spec) ≡ false) specs → AllByRecursion IsFit specs
all_fit [] h g = tt
all_fit (spec ∷ specs) h g = (fit spec h.0 g.0, all_fit specs h.1 g.1)

new_valid : (q : PoolState) (k : ℕ) (specs : List FsSpec) → 1 ≤ k → k + length specs ≤ q.next_filesystem → AllByRecursion IsFit specs → AllByRecursion (IsValidFs q) (new_filesystems k specs)
new_valid q k [] one room fits = tt
new_valid q k (spec ∷ specs) one room fits = (
  record { from_one = one; below_next = omega (arith, room); size = fits.0.size; limit = fits.0.limit; origin = tt; mark = tt; map = tt; mapped = tt },
  new_valid q (k + 1) specs (omega (arith, one)) (omega (arith, room)) fits.1,
)

-- one of a lower serial and of another name is apart from all new ones
above : (fs : FsState) (k : ℕ) (specs : List FsSpec) → fs.row.serial < k → AllByRecursion (λ (spec : FsSpec). fs.row.name ≢ spec.name) specs → AllByRecursion (AreFsPair fs) (new_filesystems k specs)
above fs k [] low h = tt
above fs k (spec ∷ specs) low h = (record { serials = low; names = h.0; marks = λ a b. absurd cc }, above fs (k + 1) specs (omega (arith, low)) h.1)

new_ordered : (k : ℕ) (specs : List FsSpec) → EachPair (λ (a b : FsSpec). a.name ≢ b.name) specs → EachPair AreFsPair (new_filesystems k specs)
new_ordered k [] h = tt
new_ordered k (spec ∷ specs) h = (above _ (k + 1) specs (omega arith) h.0, new_ordered (k + 1) specs h.1)

new_length : (k : ℕ) (specs : List FsSpec) → length (new_filesystems k specs) ≡ length specs
new_length k [] = refl
new_length k (spec ∷ specs) = ap suc (new_length (k + 1) specs)

new_unmarked : (k : ℕ) (specs : List FsSpec) (serial : ℕ) → is_marked serial (new_filesystems k specs) ≡ false
new_unmarked k [] serial = refl
new_unmarked k (spec ∷ specs) serial = new_unmarked (k + 1) specs serial

pub old_valid : (p q : PoolState) (new : List FsState) → ((serial : ℕ) → is_marked serial new ≡ false) → q.filesystems ≡ p.filesystems ++ new → p.next_filesystem ≤ q.next_filesystem → q.next_cell ≡ p.next_cell → q.cells ≡ p.cells → (fs : FsState) → IsValidFs p fs → IsValidFs q fs
old_valid p q new unmarked e later n c fs h = record {
  from_one = h.from_one;
  below_next = (let b = h.below_next in omega (arith, b, later));
  size = h.size;
  limit = h.limit;
  origin = origin fs.row.origin h.origin;
  mark = mark fs.row.merge fs.row.origin h.mark;
  map = h.map;
  mapped = All-weaker _ _ fs.map (λ entry m. record { within = m.within; from_one = m.from_one; below_next = rw n m.below_next; kept = rw c m.kept }) h.mapped;
}
  where
    origin : (o : Option ℕ) → IsOrigin p.filesystems fs.row.serial o → IsOrigin q.filesystems fs.row.serial o
    origin None h = tt
    origin (Some serial) h = (h.0, rw e (any_more (λ (x : FsState). x.row.serial == serial) p.filesystems new h.1))

    mark : (b : Bool) (o : Option ℕ) → IsMark p.filesystems b o → IsMark q.filesystems b o
    mark false o h = tt
    mark true None h = h
    mark true (Some serial) h = rw e (none_more (λ (x : FsState). x.row.merge && (x.row.serial == serial)) p.filesystems new h (unmarked serial))

few_of : (n limit : ℕ) → nat_lt limit n ≡ false → n ≤ limit
few_of n limit h = grind (arith, common_steps)

all_zero : (n k : ℕ) (specs : List FsSpec) → fold (λ a (fs : FsState). a + length fs.map) n (new_filesystems k specs) ≡ n
all_zero n k [] = refl
all_zero n k (spec ∷ specs) = all_zero (n + 0) (k + 1) specs ∙ omega arith

fold_more : (n k : ℕ) (fss : List FsState) (specs : List FsSpec) → fold (λ a (fs : FsState). a + length fs.map) n (fss ++ new_filesystems k specs) ≡ fold (λ a (fs : FsState). a + length fs.map) n fss
fold_more n k [] specs = all_zero n k specs
fold_more n k (fs ∷ fss) specs = fold_more (n + length fs.map) k fss specs

sum_more : (k : ℕ) (fss : List FsState) (specs : List FsSpec) → sum_by (λ (fs : FsState). length fs.map) (fss ++ new_filesystems k specs) ≡ sum_by (λ (fs : FsState). length fs.map) fss
sum_more k fss specs = fold_more 0 k fss specs

pub create-whole : (specs : List FsSpec) (p : PoolState) → IsWhole p → IsWhole (create_filesystems specs p).1
unfolding create_filesystems
create-whole specs p h =
    let new = to_create specs p in
    let fss = new_filesystems p.next_filesystem new in
    let q : PoolState = record p { filesystems = p.filesystems ++ fss; next_filesystem = p.next_filesystem + length new; commits = p.commits + 1 } in
    whole_unless (first_answer (fs_answers new p)) p (_, q) h (λ none.
    let all = none_answers (fs_answers new p) none in
    let fits = all_fit new (none_named _ BadSize new all.0) (none_named _ LimitBelowSize new all.1.0) in
    let few = few_of (length p.filesystems + length new) p.filesystem_limit (so_not _ TooManyFilesystems all.1.1.0) in
    let limit = h.limit in
    let less = not_worn p all.1.1.1.1.1.0 h.commits in
    let cells = h.cell_bounded in
    let serials = h.filesystem_bounded in
    let one = h.filesystem_from_one in
    let longer : length (p.filesystems ++ fss) ≡ length p.filesystems + length new = length-append p.filesystems fss ∙ ap (λ n. length p.filesystems + n) (new_length p.next_filesystem new) in
    record {
      devices = h.devices;
      ordered = EachPair-append AreFsPair p.filesystems fss h.ordered (new_ordered p.next_filesystem new (new_differ specs p))
          (old_apart p.filesystems h.filesystems (turned (λ (fs : FsState) (spec : FsSpec). fs.row.name ≢ spec.name) p.filesystems new (none_there specs p)));
      filesystems = All-append (IsValidFs q) p.filesystems fss (All-weaker _ _ p.filesystems (old_valid p q fss (new_unmarked p.next_filesystem new) refl (omega arith) refl refl) h.filesystems) (new_valid q p.next_filesystem new one (omega arith) fits);
      count = rw longer (omega (arith, few, limit));
      mappings = rw (sum_more p.next_filesystem p.filesystems new) h.mappings;
      cell_map = h.cell_map;
      cells = All-weaker _ _ p.cells (λ entry c. record { mapped = any_more (λ (fs : FsState). list_any (λ (e : ℕ × ℕ). e.1 == entry.0) fs.map) p.filesystems fss c.mapped; full = c.full }) h.cells;
      used = h.used;
      allocated = h.allocated;
      cell_from_one = h.cell_from_one;
      cell_bounded = omega (arith, cells);
      filesystem_from_one = omega (arith, one);
      filesystem_bounded = omega (arith, serials, few, limit);
      commits = omega (arith, less);
      limit = limit;
      cache = cache_alike p q refl refl p.cache h.cache;
    })
  where
    old_apart : (fs : List FsState) → AllByRecursion (IsValidFs p) fs → AllByRecursion (λ (x : FsState). AllByRecursion (λ (spec : FsSpec). x.row.name ≢ spec.name) (to_create specs p)) fs
        → AllByRecursion (λ (x : FsState). AllByRecursion (AreFsPair x) (new_filesystems p.next_filesystem (to_create specs p))) fs
    old_apart [] a b = tt
    old_apart (x ∷ xs) a b = (above x p.next_filesystem (to_create specs p) a.0.below_next b.0, old_apart xs a.1 b.1)

pub create_fs-valid : (s : EngineState) (pool : Text) (specs : List FsSpec) → IsValid s → IsValid (on_pool pool (create_filesystems specs) s).1
create_fs-valid s pool specs v = doing-valid s pool (create_filesystems specs) (create-within specs) (create-whole specs) v

-- where the write fails
no_change_named : (test : FsSpec → Bool) (cause : Text → Cause) (specs : List FsSpec) → IsNoChange (first_named test cause specs)
no_change_named test cause specs = here (find test specs)
  where
    here : (o : Option FsSpec) → IsNoChange (refused_by (option_map (λ (spec : FsSpec). cause spec.name) o))
    here None = tt
    here (Some spec) = no_change_where true (cause spec.name)

no_change_same : (b : Bool) → IsNoChange (cond b (Some (accepted (given.CreatedFilesystems false []))) None)
no_change_same true = refl
no_change_same false = tt

create-again : (specs : List FsSpec) (p q : PoolState) → first_answer (fs_answers (to_create specs q) q) ≡ first_answer (fs_answers (to_create specs p) p)
    → ((create_filesystems specs p).0.code == 0) && changes (create_filesystems specs p).0.result ≡ true → (create_filesystems specs q).0.code ≡ 0
unfolding create_filesystems
create-again specs p q same h =
    let none : first_answer (fs_answers (to_create specs p) p) ≡ None = changed-unanswered (fs_answers (to_create specs p) p) p _
    (no_change_named (λ (spec : FsSpec). is_no_size spec.size || is_no_size spec.limit) BadSize (to_create specs p), (no_change_named (λ (spec : FsSpec). is_below spec.limit (size_of spec)) LimitBelowSize (to_create specs p), (no_change_where _ TooManyFilesystems, (no_change_where _ (OverProvision _ _), (no_change_same _, (no_change_where _ Worn, tt)))))) h in
    rw (same, none) refl

pub create_fs_failed-valid : (s : EngineState) (pool : Text) (specs : List FsSpec) → is_changed (plain s (CreateFilesystems pool specs)) ≡ true → IsValid s → IsValid (changed pool (down (CreateFilesystems pool specs)) s)
create_fs_failed-valid s pool specs h v =
    failed-valid s pool (CreateFilesystems pool specs) (create_filesystems specs) refl refl refl (λ p halted. halted) (λ n e. e) (λ rows p. refl)
    (λ p good. create-again specs p (up (down (CreateFilesystems pool specs) p)) refl good) h v
