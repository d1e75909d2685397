-- the merge of a valid pool is valid
use Rattle.std.proofs.Common.{◌≡◌, ℕ, ◌+◌, ◌<◌, ◌≤◌, ◌==◌, ◌&&◌, ◌||◌, not, List, [], ◌∷◌, length, Bool, true, false, cond, filter, map, Option, Some, None, refl, sym, ◌∙◌, arith}
use Rattle.std.specs.List.{AllByRecursion, list_any}
use Rattle.std.proofs.lemmas.Grind.{common_steps}
use Rattle.std.proofs.lemmas.List.{length-map}
use Rattle.st_model.specs.declared.state.FsState.{FsState}
use Rattle.st_model.specs.declared.state.PoolState.{PoolState}
use Rattle.st_model.specs.Merged.{merged, merged_filesystems, merged_fs, merged_origin, origin_for, is_origin, leaving, replacer, replaced_by, with_origin}
use Rattle.st_model.specs.ValidPool.{EachPair, has_serial, is_marked, IsOrigin, IsMark, IsValidFs, AreFsPair, IsWhole}
use Rattle.st_model.proofs.Flights.{found-holds}
use Rattle.st_model.proofs.Lists.{All-weaker, All-map, All-filter, EachPair-map, EachPair-filter, filter-passes, found_passes, none_found}
use Rattle.st_model.proofs.Among.{All-with}
use Rattle.st_model.proofs.Replacing.{IsFitting, whole-replaced}
use Rattle.st_model.proofs.Totals.{total, total-is, total-most, total-both, total-none, total-split, total-map, fewer}
use Rattle.st_model.proofs.ValidRename.{EachPair-with}

-- what stays of a row
record IsSameFs (a b : FsState) : Type 0 where
  serial : b.row.serial ≡ a.row.serial
  name : b.row.name ≡ a.row.name
  merge : b.row.merge ≡ a.row.merge

same_fs : (fs : FsState) (r : Option FsState) (o : Option ℕ) → IsSameFs fs (with_origin o (replaced_by fs r))
same_fs fs None o = record { serial = refl; name = refl; merge = refl }
same_fs fs (Some other) o = record { serial = refl; name = refl; merge = refl }

merged_same : (fss : List FsState) (fs : FsState) → IsSameFs fs (merged_fs fss fs)
merged_same fss fs = same_fs fs (replacer fs.row.serial fss) (merged_origin fss fs.row.origin)

not_false : (b : Bool) → not b ≡ true → b ≡ false
not_false true h = absurd cc
not_false false h = refl

both : (a b : Bool) → (a && b) ≡ true → (a ≡ true) × (b ≡ true)
both true true h = (refl, refl)
both true false h = absurd cc
both false b h = absurd cc

equal_numbers : (a b : ℕ) → (a == b) ≡ true → a ≡ b
equal_numbers a b h = grind (arith, common_steps)

none_any : {X : Type 0} (p : X → Bool) (xs : List X) → AllByRecursion (λ x. p x ≡ false) xs → list_any p xs ≡ false
none_any p [] h = refl
none_any p (x ∷ xs) h = rw h.0 (none_any p xs h.1)

-- one that has the serial and isn't marked stays
stays : (fss : List FsState) (f : FsState → FsState) (serial : ℕ) → ((fs : FsState) → (f fs).row.serial ≡ fs.row.serial) → has_serial serial fss ≡ true → is_marked serial fss ≡ false
    → has_serial serial (map f (filter (λ (fs : FsState). not fs.row.merge) fss)) ≡ true
stays [] f serial same h g = absurd cc
stays (fs ∷ fss) f serial same h g = here fs.row.merge (fs.row.serial == serial) refl h g (stays fss f serial same)
  where
    rest : List FsState
    rest = filter (λ (x : FsState). not x.row.merge) fss

    here : (m b : Bool) → (fs.row.serial == serial) ≡ b → (b || has_serial serial fss) ≡ true → ((m && b) || is_marked serial fss) ≡ false
        → (has_serial serial fss ≡ true → is_marked serial fss ≡ false → has_serial serial (map f rest) ≡ true)
        → has_serial serial (map f (cond (not m) (fs ∷ rest) rest)) ≡ true
    here true true e h g t = absurd cc
    here true false e h g t = t h g
    here false true e h g t = rw (same fs, e) refl
    here false false e h g t = rw (same fs, e) (t h g)

origin_stays : (p : PoolState) (fs : FsState) → AllByRecursion (IsValidFs p) p.filesystems → IsOrigin p.filesystems fs.row.serial fs.row.origin
    → IsOrigin (merged_filesystems p.filesystems) fs.row.serial (merged_origin p.filesystems fs.row.origin)
origin_stays p fs all h = of_origin fs.row.origin h
  where
    of_gone : (x : ℕ) → (x < fs.row.serial) × (has_serial x p.filesystems ≡ true) → (o : Option FsState) → leaving x p.filesystems ≡ o → IsOrigin (merged_filesystems p.filesystems) fs.row.serial (origin_for (Some x) o)
    of_gone x h None e =
        (h.0, stays p.filesystems (merged_fs p.filesystems) x (λ y. (merged_same p.filesystems y).serial) h.1 (none_any _ p.filesystems (none_found _ p.filesystems e)))
    of_gone x h (Some gone) e =
        let passes = both gone.row.merge (gone.row.serial == x) (found_passes _ p.filesystems gone e) in
        let valid = found-holds (IsValidFs p) _ p.filesystems gone all e in
        further gone.row.merge gone.row.origin passes.0 valid.origin valid.mark (equal_numbers gone.row.serial x passes.1)
      where
        further : (m : Bool) (o : Option ℕ) → m ≡ true → IsOrigin p.filesystems gone.row.serial o → IsMark p.filesystems m o → gone.row.serial ≡ x → IsOrigin (merged_filesystems p.filesystems) fs.row.serial o
        further false o m i k e = absurd cc
        further true None m i k e = absurd k
        further true (Some y) m i k e =
            let below : y < gone.row.serial = i.0 in
            let above : x < fs.row.serial = h.0 in
            (omega (arith, below, above, e), stays p.filesystems (merged_fs p.filesystems) y (λ z. (merged_same p.filesystems z).serial) i.1 k)

    of_origin : (o : Option ℕ) → IsOrigin p.filesystems fs.row.serial o → IsOrigin (merged_filesystems p.filesystems) fs.row.serial (merged_origin p.filesystems o)
    of_origin None h = tt
    of_origin (Some x) h = of_gone x h (leaving x p.filesystems) refl

abbrev IsValidIfAny : PoolState → Option FsState → Type 0
IsValidIfAny p None = Unit {0}
IsValidIfAny p (Some fs) = IsValidFs p fs

replacer_valid : (p : PoolState) (serial : ℕ) → AllByRecursion (IsValidFs p) p.filesystems → IsValidIfAny p (replacer serial p.filesystems)
replacer_valid p serial all = here (replacer serial p.filesystems) refl
  where
    here : (o : Option FsState) → replacer serial p.filesystems ≡ o → IsValidIfAny p o
    here None e = tt
    here (Some fs) e = found-holds (IsValidFs p) _ p.filesystems fs all e

fits_with : (p : PoolState) (fss : List FsState) (fs : FsState) (r : Option FsState) (o : Option ℕ) → IsValidFs p fs → IsValidIfAny p r → fs.row.merge ≡ false → IsOrigin fss fs.row.serial o → IsFitting p fss (with_origin o (replaced_by fs r))
fits_with p fss fs None o v w m i = record {
  from_one = v.from_one;
  below_next = v.below_next;
  size = v.size;
  limit = v.limit;
  origin = i;
  mark = rw m tt;
  map = v.map;
  mapped = v.mapped;
}
fits_with p fss fs (Some other) o v w m i = record {
  from_one = v.from_one;
  below_next = v.below_next;
  size = w.size;
  limit = w.limit;
  origin = i;
  mark = rw m tt;
  map = w.map;
  mapped = w.mapped;
}

merged_fits : (p : PoolState) → AllByRecursion (IsValidFs p) p.filesystems → AllByRecursion (IsFitting p (merged_filesystems p.filesystems)) (merged_filesystems p.filesystems)
merged_fits p all =
    let unmarked : FsState → Bool = λ (fs : FsState). not fs.row.merge in
    All-map _ (merged_fs p.filesystems) (filter unmarked p.filesystems)
    (All-with _ _ _ (filter unmarked p.filesystems)
    (λ fs v m. fits_with p (merged_filesystems p.filesystems) fs (replacer fs.row.serial p.filesystems) (merged_origin p.filesystems fs.row.origin) v (replacer_valid p fs.row.serial all) (not_false fs.row.merge m) (origin_stays p fs all v.origin))
    (All-filter _ unmarked p.filesystems all) (filter-passes unmarked p.filesystems))

merged_pair : (fss : List FsState) (a b : FsState) → not a.row.merge ≡ true → not b.row.merge ≡ true → AreFsPair a b → AreFsPair (merged_fs fss a) (merged_fs fss b)
merged_pair fss a b m n h =
    let x = merged_same fss a in
    let y = merged_same fss b in
    record {
      serials = rw (x.serial, y.serial) h.serials;
      names = λ e. h.names (sym x.name ∙ e ∙ y.name);
      marks = λ k l. (let off : a.row.merge ≡ false = not_false a.row.merge m in let on : a.row.merge ≡ true = sym x.merge ∙ k in absurd (clash a.row.merge off on));
    }
  where
    clash : (b : Bool) → b ≡ false → b ≡ true → ⊥
    clash b f t = absurd cc

merged_ordered : (fss : List FsState) → EachPair AreFsPair fss → EachPair AreFsPair (merged_filesystems fss)
merged_ordered fss h =
    let unmarked : FsState → Bool = λ (fs : FsState). not fs.row.merge in
    EachPair-map AreFsPair (merged_fs fss) (filter unmarked fss)
    (EachPair-with (λ (fs : FsState). not fs.row.merge ≡ true) AreFsPair _ (filter unmarked fss) (merged_pair fss) (filter-passes unmarked fss) (EachPair-filter AreFsPair unmarked fss h))

-- how many mappings come with what replaces a filesystem
abbrev size_in : Option FsState → ℕ
size_in None = 0
size_in (Some fs) = length fs.map

no_more : (fs : FsState) (r : Option FsState) (o : Option ℕ) → length (with_origin o (replaced_by fs r)).map ≤ length fs.map + size_in r
no_more fs None o = omega arith
no_more fs (Some other) o = omega arith

abbrev replaces : FsState → FsState → Bool
replaces other fs = other.row.merge && is_origin fs.row.serial other.row.origin

-- no other filesystem has the serial
not_origin : (s : ℕ) (fs : FsState) (xs : List FsState) → AllByRecursion (AreFsPair fs) xs → (fs.row.serial == s) ≡ true → AllByRecursion (λ (x : FsState). (x.row.serial == s) ≡ false) xs
not_origin s fs xs h e = All-weaker _ _ xs (λ (x : FsState) a. (let below = a.serials in let same = equal_numbers fs.row.serial s e in differs x.row.serial s (omega (arith, below, same)))) h
  where
    differs : (a b : ℕ) → b < a → (a == b) ≡ false
    differs a b h = grind (arith, common_steps)

flipped : (a b : ℕ) → (a == b) ≡ (b == a)
flipped a b = grind (arith, common_steps)

one_at_most : (other : FsState) (m : Bool) (o : Option ℕ) (xs : List FsState) → EachPair AreFsPair xs → total (λ (x : FsState). cond (m && is_origin x.row.serial o) (length other.map) 0) xs ≤ cond m (length other.map) 0
one_at_most other m o [] h = omega arith
one_at_most other false o (x ∷ xs) h = let rest = one_at_most other false o xs h.1 in omega (arith, rest)
one_at_most other true None (x ∷ xs) h = let rest = one_at_most other true None xs h.1 in omega (arith, rest)
one_at_most other true (Some s) (x ∷ xs) h = here (s == x.row.serial) refl (one_at_most other true (Some s) xs h.1)
  where
    zero_then : AllByRecursion (λ (y : FsState). (s == y.row.serial) ≡ false) xs → total (λ (y : FsState). cond (s == y.row.serial) (length other.map) 0) xs ≡ 0
    zero_then a = total-none _ xs (All-weaker _ _ xs (λ (y : FsState) e. rw e refl) a)

    here : (b : Bool) → (s == x.row.serial) ≡ b → total (λ (y : FsState). cond (s == y.row.serial) (length other.map) 0) xs ≤ length other.map
        → cond b (length other.map) 0 + total (λ (y : FsState). cond (s == y.row.serial) (length other.map) 0) xs ≤ length other.map
    here true e t =
        let none = zero_then (All-weaker _ _ xs (λ (y : FsState) k. flipped s y.row.serial ∙ k) (not_origin s x xs h.0 (flipped x.row.serial s ∙ e))) in
        omega (arith, none)
    here false e t = omega (arith, t)

found_less : (fs other : FsState) (rest : Option FsState) → size_in (cond (replaces other fs) (Some other) rest) ≤ cond (replaces other fs) (length other.map) 0 + size_in rest
found_less fs other rest = here (replaces other fs)
  where
    here : (b : Bool) → size_in (cond b (Some other) rest) ≤ cond b (length other.map) 0 + size_in rest
    here true = omega arith
    here false = omega arith

all_of : {X : Type 0} (P : X → Type 0) (xs : List X) → ((x : X) → P x) → AllByRecursion P xs
all_of P [] f = tt
all_of P (x ∷ xs) f = (f x, all_of P xs f)

-- the replacers together have no more than the marked ones have
replacers_few : (xs fss : List FsState) → EachPair AreFsPair xs → total (λ (x : FsState). size_in (replacer x.row.serial fss)) xs ≤ total (λ (fs : FsState). cond (not fs.row.merge) 0 (length fs.map)) fss
replacers_few xs [] h = let none = total-none (λ (x : FsState). 0) xs (all_of _ xs (λ x. refl)) in omega (arith, none)
replacers_few xs (other ∷ fss) h =
    let rest = replacers_few xs fss h in
    let split = total-both (λ (x : FsState). cond (replaces other x) (length other.map) 0) (λ (x : FsState). size_in (replacer x.row.serial fss)) xs in
    let less = total-most (λ (x : FsState). size_in (replacer x.row.serial (other ∷ fss))) (λ (x : FsState). cond (replaces other x) (length other.map) 0 + size_in (replacer x.row.serial fss)) xs
    (all_of _ xs (λ x. found_less x other (replacer x.row.serial fss))) in
    let one = one_at_most other other.row.merge other.row.origin xs h in
    let same = turned other.row.merge (length other.map) in
    omega (arith, rest, split, less, one, same)
  where
    turned : (b : Bool) (n : ℕ) → cond b n 0 ≡ cond (not b) 0 n
    turned true n = refl
    turned false n = refl

merged_mappings : (fss : List FsState) → EachPair AreFsPair fss → total (λ (fs : FsState). length fs.map) (merged_filesystems fss) ≤ total (λ (fs : FsState). length fs.map) fss
merged_mappings fss h =
    let unmarked : FsState → Bool = λ (fs : FsState). not fs.row.merge in
    let size : FsState → ℕ = λ (fs : FsState). length fs.map in
    let mapped = total-map size (merged_fs fss) (filter unmarked fss) in
    let less = total-most (λ (x : FsState). size (merged_fs fss x)) (λ (x : FsState). size x + size_in (replacer x.row.serial fss)) (filter unmarked fss)
    (all_of _ (filter unmarked fss) (λ x. no_more x (replacer x.row.serial fss) (merged_origin fss x.row.origin))) in
    let split = total-both size (λ (x : FsState). size_in (replacer x.row.serial fss)) (filter unmarked fss) in
    let few = replacers_few (filter unmarked fss) fss (EachPair-filter AreFsPair unmarked fss h) in
    let whole = total-split size unmarked fss in
    omega (arith, mapped, less, split, few, whole)

pub merged-whole : (p : PoolState) → IsWhole p → IsWhole (merged p)
merged-whole p h =
    let fss = merged_filesystems p.filesystems in
    let count = h.count in
    let shorter = fewer (λ (fs : FsState). not fs.row.merge) p.filesystems in
    let same : length fss ≡ length (filter (λ (fs : FsState). not fs.row.merge) p.filesystems) = length-map (filter (λ (fs : FsState). not fs.row.merge) p.filesystems) (merged_fs p.filesystems) in
    let maps = h.mappings in
    let less = merged_mappings p.filesystems h.ordered in
    let before = total-is (λ (fs : FsState). length fs.map) p.filesystems in
    let after = total-is (λ (fs : FsState). length fs.map) fss in
    whole-replaced p fss (merged_ordered p.filesystems h.ordered) (merged_fits p h.filesystems) (omega (arith, count, shorter, same)) (omega (arith, maps, less, before, after)) h
