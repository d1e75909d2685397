-- Pools in a list, and devices in a rack.
use Rattle.std.proofs.Common.{◌≡◌, ◌≢◌, inl, inr, ℕ, zero, suc, ◌<◌, ◌≤◌, Bool, true, false, ◌||◌, cond, eqb, List, [], ◌∷◌, Option, Some, None, refl, sym, ◌∙◌, ap, subst, arith}
use Rattle.std.specs.Prelude.{find, is_some, max, ◌==◌}
use Rattle.std.specs.List.{slice_get}
use Rattle.std.specs.Str.{bytes_eq}
use Rattle.std.proofs.lemmas.Bool.{eq-eqb, ne_eqb, cases_lt}
use Rattle.std.proofs.lemmas.Bool.Decides.{nat_tests}
use Rattle.st_units.specs.declared.rows.DevRow.{DevRow}
use Rattle.st_model.specs.declared.state.PoolState.{PoolState}
use Rattle.st_model.specs.Look.{row_of, uses, takes_path, flight_of}
use Rattle.st_rack.specs.Device.{Path, Image}
use Rattle.st_rack.specs.Calls.{Devices, Has, sectors_of}
use Rattle.st_judge.specs.Placing.{has_row}
use Rattle.st_image.specs.Rack.{IsSerial, SerialsRise, greatest_on, greatest_over}
use Rattle.st_parting.proofs.Newest.{some_same, none_some}
use Rattle.st_parting.proofs.Rows.{all_at, equal, same_path}

-- the pool of a serial
abbrev pub pool_of : ℕ → List PoolState → Option PoolState
pool_of p pools = find (λ (q : PoolState). q.serial == p) pools

here : (x : PoolState) (xs : List PoolState) (p : ℕ) → x.serial ≡ p → pool_of p (x ∷ xs) ≡ Some x
here x xs p is = ap (λ (b : Bool). cond b (Some x) (pool_of p xs)) (eq-eqb x.serial p is)

missed : (p : ℕ) (x : PoolState) (xs : List PoolState) → (x.serial ≡ p → ⊥) → pool_of p (x ∷ xs) ≡ pool_of p xs
missed p x xs ne = ap (λ (b : Bool). cond b (Some x) (pool_of p xs)) (ne_eqb x.serial p ne)

pub own_found : (pools : List PoolState) (k : ℕ) (x : PoolState) → SerialsRise pools → slice_get pools k ≡ Some x → IsSerial x.serial × (pool_of x.serial pools ≡ Some x)
own_found [] k x rise at = absurd (none_some x at)
own_found (y ∷ ys) zero x rise at = let same : y ≡ x = some_same y x at in (subst (λ (z : PoolState). IsSerial z.serial) same rise.0, here y ys x.serial (ap (λ (z : PoolState). z.serial) same) ∙ ap (λ (z : PoolState). Some z) same)
own_found (y ∷ ys) (suc k) x rise at =
    let rest = own_found ys k x rise.2 at in
    let less = all_at (λ (q : PoolState). y.serial < q.serial) ys k x rise.1 at in
    (rest.0, missed x.serial y ys (λ e. absurd (omega (arith, less, e))) ∙ rest.1)

-- a pool that is found stands in the list, and has the serial
pub found_at : (p : ℕ) (pools : List PoolState) (x : PoolState) → pool_of p pools ≡ Some x → (k : ℕ) × (slice_get pools k ≡ Some x) × (x.serial ≡ p)
found_at p [] x is = absurd (none_some x is)
found_at p (y ∷ ys) x is = by (eqb y.serial p) refl is (found_at p ys x)
  where
    by : (b : Bool) → eqb y.serial p ≡ b → cond b (Some y) (pool_of p ys) ≡ Some x → (pool_of p ys ≡ Some x → (k : ℕ) × (slice_get ys k ≡ Some x) × (x.serial ≡ p)) → (k : ℕ) × (slice_get (y ∷ ys) k ≡ Some x) × (x.serial ≡ p)
    by true e at later = let same : y ≡ x = some_same y x at in let is : y.serial ≡ p = grind (arith, nat_tests) in (0, at, ap (λ (z : PoolState). z.serial) (sym same) ∙ is)
    by false e at later = let rest = later at in (suc rest.0, rest.1, rest.2)

-- pools in other places have other serials
pub rise_at : (pools : List PoolState) (j k : ℕ) (a b : PoolState) → SerialsRise pools → slice_get pools j ≡ Some a → slice_get pools k ≡ Some b → j < k → a.serial < b.serial
rise_at [] j k a b rise at_a at_b lt = absurd (none_some a at_a)
rise_at (x ∷ xs) zero zero a b rise at_a at_b lt = absurd (omega arith)
rise_at (x ∷ xs) zero (suc k) a b rise at_a at_b lt =
    subst (λ (z : PoolState). z.serial < b.serial) (some_same x a at_a) (all_at (λ (q : PoolState). x.serial < q.serial) xs k b rise.1 at_b)
rise_at (x ∷ xs) (suc j) zero a b rise at_a at_b lt = absurd (omega arith)
rise_at (x ∷ xs) (suc j) (suc k) a b rise at_a at_b lt = rise_at xs j k a b rise.2 at_a at_b (omega (arith, lt))

pub serials_differ : (pools : List PoolState) (j k : ℕ) (a b : PoolState) → SerialsRise pools → slice_get pools j ≡ Some a → slice_get pools k ≡ Some b → j ≢ k → b.serial ≢ a.serial
serials_differ pools j k a b rise at_a at_b ne same = elim (cases_lt j k) [
  | inl lt ↦ let less = rise_at pools j k a b rise at_a at_b lt in absurd (omega (arith, less, same))
  | inr ge ↦ elim (cases_lt k j) [
    | inl lt ↦ let less = rise_at pools k j b a rise at_b at_a lt in absurd (omega (arith, less, same))
    | inr le ↦ absurd (ne (omega (arith, ge, le)))
  ]
]

-- where nothing is found, each item fails the test
pub none_passes : {X : Type 0} (P : X → Bool) (xs : List X) (k : ℕ) (x : X) → find P xs ≡ None → slice_get xs k ≡ Some x → P x ≡ false
none_passes P [] k x none at = absurd (none_some x at)
none_passes P (y ∷ ys) k x none at = by (P y) refl none k at (λ none k at. none_passes P ys k x none at)
  where
    by : (b : Bool) → P y ≡ b → cond b (Some y) (find P ys) ≡ None → (k : ℕ) → slice_get (y ∷ ys) k ≡ Some x → (find P ys ≡ None → (k : ℕ) → slice_get ys k ≡ Some x → P x ≡ false) → P x ≡ false
    by true e is k at later = absurd (cc)
    by false e is zero at later = ap P (sym (some_same y x at)) ∙ e
    by false e is (suc k) at later = later is k at

-- the row of a path
pub row_found : (rows : List DevRow) (p : Path) → is_some (row_of p rows) ≡ true → (j : ℕ) × (row : DevRow) × (slice_get rows j ≡ Some row) × (row.path ≡ p)
row_found [] p e = absurd (cc)
row_found (x ∷ xs) p e = by (bytes_eq x.path p) refl e (row_found xs p)
  where
    by : (b : Bool) → bytes_eq x.path p ≡ b → is_some (cond b (Some x) (row_of p xs)) ≡ true → (is_some (row_of p xs) ≡ true → (j : ℕ) × (row : DevRow) × (slice_get xs j ≡ Some row) × (row.path ≡ p)) → (j : ℕ) × (row : DevRow) × (slice_get (x ∷ xs) j ≡ Some row) × (row.path ≡ p)
    by true is e later = (0, x, refl, same_path x.path p is)
    by false is e later = let rest = later e in (suc rest.0, rest.1, rest.2, rest.3)

pub row_is_found : (rows : List DevRow) (p : Path) (j : ℕ) (row : DevRow) → slice_get rows j ≡ Some row → row.path ≡ p → is_some (row_of p rows) ≡ true
row_is_found [] p j row at is = absurd (none_some row at)
row_is_found (x ∷ xs) p zero row at is = ap (λ (b : Bool). is_some (cond b (Some x) (row_of p xs))) (equal x.path p (ap (λ (r : DevRow). r.path) (some_same x row at) ∙ is))
row_is_found (x ∷ xs) p (suc j) row at is = by (bytes_eq x.path p) (row_is_found xs p j row at is)
  where
    by : (b : Bool) → is_some (row_of p xs) ≡ true → is_some (cond b (Some x) (row_of p xs)) ≡ true
    by true rest = refl
    by false rest = rest

-- what a pool with no call in flight uses
pub uses_rows : (p : Path) (pool : PoolState) → flight_of pool.mode ≡ None → uses p pool ≡ is_some (row_of p pool.devices)
uses_rows p pool none = (λ i. is_some (row_of p pool.devices) || takes_path p (none i)) ∙ or_false (is_some (row_of p pool.devices))
  where
    or_false : (b : Bool) → (b || false) ≡ b
    or_false true = refl
    or_false false = refl

or_second : (a b : Bool) → b ≡ true → (a || b) ≡ true
or_second true b e = refl
or_second false b e = e

pub row_there : (rows : List DevRow) (p : Path) (j : ℕ) (row : DevRow) → slice_get rows j ≡ Some row → row.path ≡ p → has_row rows p ≡ true
row_there [] p j row at is = absurd (none_some row at)
row_there (x ∷ xs) p zero row at is = ap (λ (b : Bool). b || has_row xs p) (equal x.path p (ap (λ (r : DevRow). r.path) (some_same x row at) ∙ is))
row_there (x ∷ xs) p (suc j) row at is = or_second (bytes_eq x.path p) (has_row xs p) (row_there xs p j row at is)

-- the place of a device
pub place_of : (devs : Devices) (p : Path) (n : ℕ) → Has devs p n → (k : ℕ) × (slice_get devs k ≡ Some (p, n))
place_of [] p n has = absurd (none_some n has)
place_of (d ∷ ds) p n has = by (bytes_eq d.0 p) refl has (place_of ds p n)
  where
    by : (b : Bool) → bytes_eq d.0 p ≡ b → cond b (Some d.1) (sectors_of ds p) ≡ Some n → (Has ds p n → (k : ℕ) × (slice_get ds k ≡ Some (p, n))) → (k : ℕ) × (slice_get (d ∷ ds) k ≡ Some (p, n))
    by true e is later =
        let path : d.0 ≡ p = same_path d.0 p e in
        let size : d.1 ≡ n = some_same d.1 n is in
        (0, λ i. Some (path i, size i))
    by false e is later = let rest = later is in (suc rest.0, rest.1)

-- the greatest serial of one device is none above that of all
pub greatest_at : (devs : Devices) (c : Image) (k : ℕ) (d : Path × ℕ) → slice_get devs k ≡ Some d → greatest_on d.1 (c d.0) ≤ greatest_over devs c
greatest_at [] c k d at = absurd (none_some d at)
greatest_at (e ∷ ds) c zero d at = subst (λ (x : Path × ℕ). greatest_on x.1 (c x.0) ≤ max (greatest_on e.1 (c e.0)) (greatest_over ds c)) (some_same e d at) (first (greatest_on e.1 (c e.0)) (greatest_over ds c))
  where
    first : (a b : ℕ) → a ≤ max a b
    first a b = omega arith
greatest_at (e ∷ ds) c (suc k) d at = second (greatest_on d.1 (c d.0)) (greatest_on e.1 (c e.0)) (greatest_over ds c) (greatest_at ds c k d at)
  where
    second : (x a b : ℕ) → x ≤ b → x ≤ max a b
    second x a b le = omega arith
