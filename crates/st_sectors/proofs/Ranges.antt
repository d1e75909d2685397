-- what the numbers of a range give, one after the other
use Rattle.std.proofs.Common.{◌≡◌, ℕ, zero, suc, ◌+◌, List, [], ◌∷◌, ◌++◌, append_assoc, add-one, refl, sym, ap, ◌∙◌, arith}
use Rattle.std.specs.List.{flat_map, range_with_len}

module _ {X : Type 0} (f : ℕ → List X) where
  at_end : (xs : List X) → xs ≡ xs ++ []
  at_end [] = refl
  at_end (x ∷ xs) = ap (λ t. x ∷ t) (at_end xs)

  flat_next : (n a : ℕ) → flat_map f (range_with_len a (suc n)) ≡ flat_map f (range_with_len a n) ++ f (a + n)
  flat_next zero a =
      let same : a ≡ a + 0 = omega arith in
      sym (at_end (f a)) ∙ ap (λ k. f k) same
  flat_next (suc n) a =
      let same : (a + 1) + n ≡ a + suc n = omega arith in
      ap (λ t. f a ++ t) (flat_next n (a + 1) ∙ ap (λ k. flat_map f (range_with_len (a + 1) n) ++ f k) same)
      ∙ sym (append_assoc (f a) (flat_map f (range_with_len (a + 1) n)) (f (a + suc n)))

  pub flat_more : (n a : ℕ) → flat_map f (range_with_len a (n + 1)) ≡ flat_map f (range_with_len a n) ++ f (a + n)
  flat_more n a = ap (λ k. flat_map f (range_with_len a k)) (add-one n) ∙ flat_next n a
