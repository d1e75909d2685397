-- lists of which each item is changed in place
use Rattle.std.proofs.Common.{◌≡◌, List, [], ◌∷◌, Bool, true, false, cond, filter, map, Some, option_map, refl, ap}
use Rattle.std.specs.List.{find, list_any}

module _ {X : Type 0} where
  pub filter_map : (p : X → Bool) (c : X → X) (xs : List X) → ((x : X) → p (c x) ≡ p x) → filter p (map c xs) ≡ map c (filter p xs)
  filter_map p c [] h = refl
  filter_map p c (x ∷ xs) h = rw (h x) (here (p x) (filter_map p c xs h))
    where
      here : (b : Bool) → filter p (map c xs) ≡ map c (filter p xs) → cond b (c x ∷ filter p (map c xs)) (filter p (map c xs)) ≡ map c (cond b (x ∷ filter p xs) (filter p xs))
      here true e = ap (λ t. c x ∷ t) e
      here false e = e

  -- what the test doesn't pass isn't looked at
  pub filter_same : (p : X → Bool) (c : X → X) (xs : List X) → ((x : X) → p (c x) ≡ p x) → ((x : X) → p x ≡ true → c x ≡ x) → filter p (map c xs) ≡ filter p xs
  filter_same p c [] h g = refl
  filter_same p c (x ∷ xs) h g = rw (h x) (here (p x) refl (filter_same p c xs h g))
    where
      here : (b : Bool) → p x ≡ b → filter p (map c xs) ≡ filter p xs → cond b (c x ∷ filter p (map c xs)) (filter p (map c xs)) ≡ cond b (x ∷ filter p xs) (filter p xs)
      here true e s = rw (g x e) (ap (λ t. x ∷ t) s)
      here false e s = s

  pub find_map : (p : X → Bool) (c : X → X) (xs : List X) → ((x : X) → p (c x) ≡ p x) → find p (map c xs) ≡ option_map c (find p xs)
  find_map p c [] h = refl
  find_map p c (x ∷ xs) h = rw (h x) (here (p x) (find_map p c xs h))
    where
      here : (b : Bool) → find p (map c xs) ≡ option_map c (find p xs) → cond b (Some (c x)) (find p (map c xs)) ≡ option_map c (cond b (Some x) (find p xs))
      here true e = refl
      here false e = e

  pub find_unchanged : (p : X → Bool) (c : X → X) (xs : List X) → ((x : X) → p (c x) ≡ p x) → ((x : X) → p x ≡ true → c x ≡ x) → find p (map c xs) ≡ find p xs
  find_unchanged p c [] h g = refl
  find_unchanged p c (x ∷ xs) h g = rw (h x) (here (p x) refl (find_unchanged p c xs h g))
    where
      here : (b : Bool) → p x ≡ b → find p (map c xs) ≡ find p xs → cond b (Some (c x)) (find p (map c xs)) ≡ cond b (Some x) (find p xs)
      here true e s = rw (g x e) refl
      here false e s = s

module _ {X Y : Type 0} where
  pub map_same : (f : X → Y) (c : X → X) (xs : List X) → ((x : X) → f (c x) ≡ f x) → map f (map c xs) ≡ map f xs
  map_same f c [] h = refl
  map_same f c (x ∷ xs) h = rw (h x) (ap (λ t. f x ∷ t) (map_same f c xs h))

  pub any_map : (q : Y → Bool) (f : X → Y) (xs : List X) → list_any q (map f xs) ≡ list_any (λ x. q (f x)) xs
  any_map q f [] = refl
  any_map q f (x ∷ xs) = ap (λ b. Rattle.std.specs.Prelude.◌||◌ (q (f x)) b) (any_map q f xs)
