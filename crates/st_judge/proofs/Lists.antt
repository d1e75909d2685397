-- Tests over lists, by index.
use Rattle.std.proofs.Common.{◌≡◌, inl, inr, ℕ, zero, suc, ◌+◌, ◌<◌, Bool, true, false, ◌&&◌, ◌||◌, List, [], ◌∷◌, map, Option, Some, None, refl, sym, ◌∙◌, ap, subst, arith}
use Rattle.std.specs.List.{slice_get, list_all, list_any}
use Rattle.std.proofs.lemmas.Bool.{and_parts, and_from, cases_lt}

some_same : {X : Type 0} (x y : X) → Some x ≡ Some y → x ≡ y
some_same x y e = cc

none_some : {X : Type 0} (x : X) → None ≡ Some x → ⊥
none_some x e = cc

pub all_at : {X : Type 0} (P : X → Bool) (xs : List X) (k : ℕ) (x : X) → list_all P xs ≡ true → slice_get xs k ≡ Some x → P x ≡ true
all_at P [] k x all at = absurd (none_some x at)
all_at P (y ∷ ys) zero x all at = subst (λ z. P z ≡ true) (some_same y x at) (and_parts (P y) (list_all P ys) all).0
all_at P (y ∷ ys) (suc k) x all at = all_at P ys k x (and_parts (P y) (list_all P ys) all).1 at

pub all_from : {X : Type 0} (P : X → Bool) (xs : List X) → ((k : ℕ) (x : X) → slice_get xs k ≡ Some x → P x ≡ true) → list_all P xs ≡ true
all_from P [] each = refl
all_from P (y ∷ ys) each = and_from (P y) (list_all P ys) (each 0 y refl) (all_from P ys (λ k x at. each (suc k) x at))

or_cases : (a b : Bool) → a ≡ false → b ≡ false → (a || b) ≡ false
or_cases false b refl_a none = none
or_cases true b e none = absurd (cc)

or_second : (a b : Bool) → b ≡ true → (a || b) ≡ true
or_second true b e = refl
or_second false b e = e

pub any_at : {X : Type 0} (P : X → Bool) (xs : List X) (k : ℕ) (x : X) → slice_get xs k ≡ Some x → P x ≡ true → list_any P xs ≡ true
any_at P [] k x at is = absurd (none_some x at)
any_at P (y ∷ ys) zero x at is = ap (λ (b : Bool). b || list_any P ys) (ap P (some_same y x at) ∙ is)
any_at P (y ∷ ys) (suc k) x at is = or_second (P y) (list_any P ys) (any_at P ys k x at is)

pub none_any : {X : Type 0} (P : X → Bool) (xs : List X) → ((k : ℕ) (x : X) → slice_get xs k ≡ Some x → P x ≡ false) → list_any P xs ≡ false
none_any P [] each = refl
none_any P (y ∷ ys) each = or_cases (P y) (list_any P ys) (each 0 y refl) (none_any P ys (λ k x at. each (suc k) x at))

-- an item of a list that was mapped
pub mapped_at : {X Y : Type 0} (f : X → Y) (xs : List X) (k : ℕ) (y : Y) → slice_get (map f xs) k ≡ Some y → (x : X) × (slice_get xs k ≡ Some x) × (f x ≡ y)
mapped_at f [] k y at = absurd (none_some y at)
mapped_at f (x ∷ xs) zero y at = (x, refl, some_same (f x) y at)
mapped_at f (x ∷ xs) (suc k) y at = mapped_at f xs k y at

pub at_mapped : {X Y : Type 0} (f : X → Y) (xs : List X) (k : ℕ) (x : X) → slice_get xs k ≡ Some x → slice_get (map f xs) k ≡ Some (f x)
at_mapped f [] k x at = absurd (none_some x at)
at_mapped f (y ∷ ys) zero x at = ap (λ z. Some (f z)) (some_same y x at)
at_mapped f (y ∷ ys) (suc k) x at = at_mapped f ys k x at

-- what is true of those before one, and of it
pub one_more : {X : Type 0} (P : X → Type 0) (xs : List X) (i : ℕ) (x : X) → slice_get xs i ≡ Some x → ((k : ℕ) (y : X) → k < i → slice_get xs k ≡ Some y → P y) → P x → (k : ℕ) (y : X) → k < i + 1 → slice_get xs k ≡ Some y → P y
one_more P xs i x at old new k y lt yt = elim (cases_lt k i) [
  | inl less ↦ old k y less yt
  | inr from ↦ let same : k ≡ i = omega (arith, lt, from) in subst P (some_same x y (sym at ∙ ap (slice_get xs) (sym same) ∙ yt)) new
]
