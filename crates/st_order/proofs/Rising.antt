-- texts rise where each is below the next one
use Rattle.std.proofs.Common.{◌≡◌, ℕ, zero, suc, ◌<◌, arith, List, [], ◌∷◌, ◌≤◌, ◌-◌, length, get_or, map, Bool, true, false, not, eqb, Ordering, Less, Equal, Greater, refl, sym, ap, subst, ◌∙◌}
use Rattle.std.specs.Ordering.{ordering_index}
use Rattle.st_order.specs.Sorted.{Text, IsRising}
use Rattle.st_order.proofs.Order.{text_cmp, below_below, first_at, rising_first, rising_rest, rising_more, rising_none}

pub not_so : false ≡ true → ⊥
not_so h = cc

less_told : (o : Ordering) (unequal : Bool) → o ≡ Less → unequal ≡ not (eqb (ordering_index o) 0) → unequal ≡ true → ⊥
less_told o unequal less told k = let e : true ≡ false = sym k ∙ (told ∙ ap (λ r. not (eqb (ordering_index r) 0)) less) in cc

module _ {X : Type 0} (key : X → Text) where
  abbrev pub Steps : ℕ → List X → Type 0
  Steps n xs = (k : ℕ) (d : X) → suc k < n → text_cmp (key (get_or xs k d)) (key (get_or xs (suc k) d)) ≡ Less

  pub rising_steps : (xs : List X) → IsRising (map key xs) → Steps (length xs) xs
  rising_steps [] h k d lt = absurd (omega (arith, lt))
  rising_steps (x ∷ xs) h zero d lt = first_at key (key x) xs zero d (rising_first key x xs h) (omega (arith, lt))
  rising_steps (x ∷ xs) h (suc k) d lt = rising_steps xs (rising_rest key x xs h) k d (omega (arith, lt))

  pub steps_rise : (xs : List X) → Steps (length xs) xs → IsRising (map key xs)
  steps_rise [] h = rising_none key
  steps_rise (x ∷ []) h = rising_more key x [] tt (rising_none key)
  steps_rise (x ∷ y ∷ xs) h =
      let rest = steps_rise (y ∷ xs) (λ k d lt. h (suc k) d (omega (arith, lt))) in
      let less = h zero x (omega arith) in
      rising_more key x (y ∷ xs) (less, below_below (key x) (key y) (map key xs) less (rising_first key y xs rest)) rest

  one_item : (xs : List X) (k : ℕ) (d e : X) → k < length xs → get_or xs k d ≡ get_or xs k e
  one_item [] k d e lt = absurd (omega (arith, lt))
  one_item (x ∷ xs) zero d e lt = refl
  one_item (x ∷ xs) (suc k) d e lt = one_item xs k d e (omega (arith, lt))

  less_at : (xs : List X) (i : ℕ) (a b : X) → IsRising (map key xs) → 1 ≤ i → i < length xs → a ≡ get_or xs (i - 1) a → b ≡ get_or xs i b → text_cmp (key a) (key b) ≡ Less
  less_at xs zero a b rising one lt first second = absurd (omega (arith, one))
  less_at xs (suc k) a b rising one lt first second =
      let before : suc k - 1 ≡ k = omega arith in
      let a_is : get_or xs k b ≡ a = one_item xs k b a (omega (arith, lt)) ∙ (ap (λ j. get_or xs j a) (sym before) ∙ sym first) in
      ap (λ x. text_cmp (key x) (key b)) (sym a_is) ∙ (ap (λ x. text_cmp (key (get_or xs k b)) (key x)) second ∙ rising_steps xs rising k b lt)

  -- of texts that rise, none is found that isn't below the next one
  pub never : (xs : List X) (i : ℕ) (a b : X) (p q : Text) (o : Ordering) (unequal : Bool) → IsRising (map key xs) → 1 ≤ i → i < length xs
      → a ≡ get_or xs (i - 1) a → b ≡ get_or xs i b → p ≡ key a → q ≡ key b → o ≡ text_cmp p q → unequal ≡ not (eqb (ordering_index o) 0) → unequal ≡ true → ⊥
  never xs i a b p q o unequal rising one lt first second p_is q_is o_is told k =
      less_told o unequal (o_is ∙ (ap (λ t. text_cmp t q) p_is ∙ (ap (text_cmp (key a)) q_is ∙ less_at xs i a b rising one lt first second))) told k
