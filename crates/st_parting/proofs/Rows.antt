-- What the rows of a record are.
use Rattle.std.proofs.Common.{◌≡◌, ◌⊎◌, inl, inr, ℕ, zero, suc, ◌<◌, Bool, true, false, ◌||◌, not, nat_le, List, [], ◌∷◌, length, map, Some, refl, sym, ap, subst, arith}
use Rattle.std.specs.List.{slice_get, list_all, AllByRecursion, IsDistinct}
use Rattle.std.specs.Str.{bytes_eq}
use Rattle.std.proofs.lemmas.Slice.Eq.{bytes_eq-Decides}
use Rattle.std.proofs.lemmas.Bool.{and_parts, cases_Bool}
use Rattle.std.proofs.lemmas.Bool.Decides.{nat_tests}
use Rattle.st_units.specs.declared.rows.DevRow.{DevRow}
use Rattle.st_poolrec.specs.declared.record.PoolRec.{PoolRec}
use Rattle.st_poolrec.specs.Record as pools
use Rattle.st_poolrec.specs.Conditions.{begins_with_data, has_fit_size, has_other_path, have_own_paths, take_in_order}
use Rattle.st_rack.specs.Device.{Path}
use Rattle.st_rack.specs.Calls.{names}
use Rattle.st_parting.proofs.Newest.{some_same, none_some}

pub not_both : (b : Bool) → b ≡ true → b ≡ false → ⊥
not_both b t f = cc

pub equal : (a b : Path) → a ≡ b → bytes_eq a b ≡ true
equal a b e = (bytes_eq-Decides a b).1 e

pub same_path : (a b : Path) → bytes_eq a b ≡ true → a ≡ b
same_path a b e = (bytes_eq-Decides a b).0 e

pub differ : (a b : Path) → (a ≡ b → ⊥) → bytes_eq a b ≡ false
differ a b ne = elim (cases_Bool (bytes_eq a b)) [ inl hit ↦ absurd (ne (same_path a b hit)) | inr miss ↦ miss ]

-- a record has a first row, no two rows of one path, and segments of its rows
pub record IsFit (rec : PoolRec) : Type 0 where
  pub some : 0 < length rec.devs
  pub own : have_own_paths rec.devs ≡ true
  pub in_order : take_in_order 0 rec.segments rec.devs ≡ true

pub fit_of : (rec : PoolRec) → pools.IsPoolRec rec → IsFit rec
fit_of rec is =
    let a = and_parts (nat_le rec.fs_limit _) _ is.valid in
    let b = and_parts (nat_le 1 (length rec.devs)) _ a.1 in
    let c = and_parts (nat_le (length rec.devs) 16) _ b.1 in
    let d = and_parts (nat_le (length rec.segments) 16) _ c.1 in
    let e = and_parts (begins_with_data rec.devs) _ d.1 in
    let f = and_parts (list_all has_fit_size rec.devs) _ e.1 in
    let g = and_parts (have_own_paths rec.devs) _ f.1 in
    record { some = above b.0; own = g.0; in_order = g.1 }
  where
    above : nat_le 1 (length rec.devs) ≡ true → 0 < length rec.devs
    above e = grind (arith, nat_tests)

-- paths that a list names
or_true : (a b : Bool) → (a || b) ≡ true → (a ≡ true) ⊎ (b ≡ true)
or_true true b e = inl refl
or_true false b e = inr e

or_second : (a b : Bool) → b ≡ true → (a || b) ≡ true
or_second true b e = refl
or_second false b e = e

pub named_at : (list : List Path) (p : Path) → names list p ≡ true → (k : ℕ) × (slice_get list k ≡ Some p)
named_at [] p e = absurd (cc)
named_at (q ∷ qs) p e = elim (or_true (bytes_eq q p) (names qs p) e) [
  | inl here ↦ (0, ap (λ (x : Path). Some x) (same_path q p here))
  | inr later ↦ let rest = named_at qs p later in (suc rest.0, rest.1)
]

pub at_named : (list : List Path) (k : ℕ) (p : Path) → slice_get list k ≡ Some p → names list p ≡ true
at_named [] k p at = absurd (none_some p at)
at_named (q ∷ qs) zero p at = ap (λ (b : Bool). b || names qs p) (equal q p (some_same q p at))
at_named (q ∷ qs) (suc k) p at = or_second (bytes_eq q p) (names qs p) (at_named qs k p at)

pub mapped_at : {X Y : Type 0} (f : X → Y) (xs : List X) (k : ℕ) (y : Y) → slice_get (map f xs) k ≡ Some y → (x : X) × (slice_get xs k ≡ Some x) × (f x ≡ y)
mapped_at f [] k y at = absurd (none_some y at)
mapped_at f (x ∷ xs) zero y at = (x, refl, some_same (f x) y at)
mapped_at f (x ∷ xs) (suc k) y at = mapped_at f xs k y at

pub at_mapped : {X Y : Type 0} (f : X → Y) (xs : List X) (k : ℕ) (x : X) → slice_get xs k ≡ Some x → slice_get (map f xs) k ≡ Some (f x)
at_mapped f [] k x at = absurd (none_some x at)
at_mapped f (y ∷ ys) zero x at = ap (λ z. Some (f z)) (some_same y x at)
at_mapped f (y ∷ ys) (suc k) x at = at_mapped f ys k x at

pub all_at : {X : Type 0} (P : X → Type 0) (xs : List X) (k : ℕ) (x : X) → AllByRecursion P xs → slice_get xs k ≡ Some x → P x
all_at P [] k x all at = absurd (none_some x at)
all_at P (y ∷ ys) zero x all at = subst P (some_same y x at) all.0
all_at P (y ∷ ys) (suc k) x all at = all_at P ys k x all.1 at

pub all_by : {X : Type 0} (P : X → Type 0) (xs : List X) → ((k : ℕ) (x : X) → slice_get xs k ≡ Some x → P x) → AllByRecursion P xs
all_by P [] each = tt
all_by P (x ∷ xs) each = (each 0 x refl, all_by P xs (λ k y at. each (suc k) y at))

abbrev pub path_of_row : DevRow → Path
path_of_row row = row.path

-- rows of distinct paths
others_apart : (d : DevRow) (ds : List DevRow) → list_all (has_other_path d) ds ≡ true → AllByRecursion (λ (q : Path). bytes_eq d.path q ≡ false) (map path_of_row ds)
others_apart d [] all = tt
others_apart d (e ∷ es) all =
    let both = and_parts (has_other_path d e) (list_all (has_other_path d) es) all in
    (differ d.path e.path (λ same. refused (bytes_eq e.path d.path) both.0 (equal e.path d.path (sym same))), others_apart d es both.1)
  where
    refused : (b : Bool) → not b ≡ true → b ≡ true → ⊥
    refused b n t = cc

pub rows_distinct : (rows : List DevRow) → have_own_paths rows ≡ true → IsDistinct bytes_eq (map path_of_row rows)
unfolding IsDistinct
rows_distinct [] own = tt
rows_distinct (d ∷ ds) own =
    let both = and_parts (list_all (has_other_path d) ds) (have_own_paths ds) own in
    (others_apart d ds both.0, rows_distinct ds both.1)
