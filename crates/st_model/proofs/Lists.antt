-- look-ups in lists
use Rattle.std.proofs.Common.{◌≡◌, List, [], ◌∷◌, ◌++◌, Bool, true, false, ◌||◌, not, cond, filter, Option, Some, None, bytes_eq, map, ◌≢◌, subst, refl}
use Rattle.std.specs.List.{AllByRecursion, find}
use Rattle.std.proofs.lemmas.Slice.Eq.{bytes_eq-Decides}
use Rattle.st_model.specs.Look.{Text, has_path, without, distinct}
use Rattle.st_model.specs.ValidPool.{EachPair}

module _ {X : Type 0} where
  passed_over : (b : Bool) (x : X) (o : Option X) → cond b (Some x) o ≡ None → (b ≡ false) × (o ≡ None)
  passed_over true x o h = absurd cc
  passed_over false x o h = (refl, h)

  -- where nothing is found, the test fails of each item
  pub none_found : (p : X → Bool) (xs : List X) → find p xs ≡ None → AllByRecursion (λ x. p x ≡ false) xs
  none_found p [] h = tt
  none_found p (x ∷ xs) h = let step = passed_over (p x) x (find p xs) h in (step.0, none_found p xs step.1)

  was_found : (b : Bool) (x y : X) (o : Option X) (p : X → Bool) → p x ≡ b → cond b (Some x) o ≡ Some y → (o ≡ Some y → p y ≡ true) → p y ≡ true
  was_found true x y o p e h g = let same : x ≡ y = cc in subst (λ (z : X). p z ≡ true) same e
  was_found false x y o p e h g = g h

  -- what is found passes the test
  pub found_passes : (p : X → Bool) (xs : List X) (y : X) → find p xs ≡ Some y → p y ≡ true
  found_passes p [] y h = absurd cc
  found_passes p (x ∷ xs) y h = was_found (p x) x y (find p xs) p refl h (found_passes p xs y)

  pub All-end : (P : X → Type 0) (xs : List X) (y : X) → AllByRecursion P xs → P y → AllByRecursion P (xs ++ y ∷ [])
  All-end P [] y h g = (g, tt)
  All-end P (x ∷ xs) y h g = (h.0, All-end P xs y h.1 g)

  pub All-weaker : (P Q : X → Type 0) (xs : List X) → ((x : X) → P x → Q x) → AllByRecursion P xs → AllByRecursion Q xs
  All-weaker P Q [] f h = tt
  All-weaker P Q (x ∷ xs) f h = (f x h.0, All-weaker P Q xs f h.1)

  kept_if : (P : X → Type 0) (b : Bool) (x : X) (xs : List X) → P x → AllByRecursion P xs → AllByRecursion P (cond b (x ∷ xs) xs)
  kept_if P true x xs h g = (h, g)
  kept_if P false x xs h g = g

  pub All-filter : (P : X → Type 0) (p : X → Bool) (xs : List X) → AllByRecursion P xs → AllByRecursion P (filter p xs)
  All-filter P p [] h = tt
  All-filter P p (x ∷ xs) h = kept_if P (p x) x (filter p xs) h.0 (All-filter P p xs h.1)

  pub EachPair-end : (R : X → X → Type 0) (xs : List X) (y : X) → EachPair R xs → AllByRecursion (λ x. R x y) xs → EachPair R (xs ++ y ∷ [])
  EachPair-end R [] y h g = (tt, tt)
  EachPair-end R (x ∷ xs) y h g = (All-end (R x) xs y h.0 g.0, EachPair-end R xs y h.1 g.1)

  pairs_if : (R : X → X → Type 0) (b : Bool) (x : X) (xs : List X) → AllByRecursion (R x) xs → EachPair R xs → EachPair R (cond b (x ∷ xs) xs)
  pairs_if R true x xs h g = (h, g)
  pairs_if R false x xs h g = g

  pub EachPair-filter : (R : X → X → Type 0) (p : X → Bool) (xs : List X) → EachPair R xs → EachPair R (filter p xs)
  EachPair-filter R p [] h = tt
  EachPair-filter R p (x ∷ xs) h = pairs_if R (p x) x (filter p xs) (All-filter (R x) p xs h.0) (EachPair-filter R p xs h.1)

  passes_if : (p : X → Bool) (b : Bool) (x : X) (xs : List X) → p x ≡ b → AllByRecursion (λ y. p y ≡ true) xs → AllByRecursion (λ y. p y ≡ true) (cond b (x ∷ xs) xs)
  passes_if p true x xs e h = (e, h)
  passes_if p false x xs e h = h

  -- what is kept passes the test
  pub filter-passes : (p : X → Bool) (xs : List X) → AllByRecursion (λ y. p y ≡ true) (filter p xs)
  filter-passes p [] = tt
  filter-passes p (x ∷ xs) = passes_if p (p x) x (filter p xs) refl (filter-passes p xs)

module _ {X Y : Type 0} where
  pub All-map : (P : Y → Type 0) (f : X → Y) (xs : List X) → AllByRecursion (λ x. P (f x)) xs → AllByRecursion P (map f xs)
  All-map P f [] h = tt
  All-map P f (x ∷ xs) h = (h.0, All-map P f xs h.1)

  pub EachPair-map : (R : Y → Y → Type 0) (f : X → Y) (xs : List X) → EachPair (λ a b. R (f a) (f b)) xs → EachPair R (map f xs)
  EachPair-map R f [] h = tt
  EachPair-map R f (x ∷ xs) h = (All-map (R (f x)) f xs h.0, EachPair-map R f xs h.1)

pub or_cases : (a b : Bool) (Z : Type 0) → (a || b) ≡ true → (a ≡ true → Z) → (b ≡ true → Z) → Z
or_cases true b Z h f g = f refl
or_cases false b Z h f g = g h

-- what holds of each path holds of a path that is among them
pub at_path : (P : Text → Type 0) (path : Text) (paths : List Text) → AllByRecursion P paths → has_path path paths ≡ true → P path
at_path P path [] h e = absurd cc
at_path P path (p ∷ paths) h e =
    or_cases (bytes_eq p path) (has_path path paths) (P path) e (λ same. subst P ((bytes_eq-Decides p path).0 same) h.0) (at_path P path paths h.1)

-- what holds of all the paths holds of each of them taken once
pub All-distinct : (P : Text → Type 0) (paths : List Text) → AllByRecursion P paths → AllByRecursion P (distinct paths)
All-distinct P [] h = tt
All-distinct P (path ∷ paths) h = (h.0, All-filter P (λ p. not (bytes_eq path p)) (distinct paths) (All-distinct P paths h.1))

kept_apart : (p q : Text) → not (bytes_eq p q) ≡ true → p ≢ q
kept_apart p q h e = not_equal (bytes_eq p q) h ((bytes_eq-Decides p q).1 e)
  where
    not_equal : (b : Bool) → not b ≡ true → b ≡ true → ⊥
    not_equal true h e = absurd cc
    not_equal false h e = absurd cc

-- the paths taken once differ
pub distinct-differ : (paths : List Text) → EachPair (λ (a b : Text). a ≢ b) (distinct paths)
distinct-differ [] = tt
distinct-differ (path ∷ paths) = (
  All-weaker _ _ (without path (distinct paths)) (kept_apart path) (filter-passes (λ q. not (bytes_eq path q)) (distinct paths)),
  EachPair-filter _ (λ q. not (bytes_eq path q)) (distinct paths) (distinct-differ paths),
)
