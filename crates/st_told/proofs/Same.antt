-- Lists that agree item by item.
use Rattle.std.proofs.Common.{◌≡◌, ℕ, suc, List, [], ◌∷◌, length, Some, None, refl, ap, arith}
use Rattle.std.specs.List.{slice_get}

pub some_same : {T : Type 0} (a b : T) → Some a ≡ Some b → a ≡ b
some_same a b e = cc

module _ {T : Type 0} where
  pub all_same : (xs ys : List T) → length xs ≡ length ys → ((j : ℕ) (x y : T) → slice_get xs j ≡ Some x → slice_get ys j ≡ Some y → x ≡ y) → xs ≡ ys
  all_same [] [] same each = refl
  all_same [] (y ∷ ys) same each = absurd (cc)
  all_same (x ∷ xs) [] same each = absurd (cc)
  all_same (x ∷ xs) (y ∷ ys) same each =
      let here : x ≡ y = each 0 x y refl refl in
      let fewer : length xs ≡ length ys = cc in
      let rest = all_same xs ys fewer (λ j a b at_a at_b. each (suc j) a b at_a at_b) in
      (λ i. here i ∷ rest i)

pub one_only : {T : Type 0} (xs : List T) (x : T) → length xs ≡ 1 → slice_get xs 0 ≡ Some x → xs ≡ x ∷ []
one_only [] x size at = absurd (cc)
one_only (y ∷ []) x size at = ap (λ z. z ∷ []) (some_same y x at)
one_only (y ∷ (z ∷ zs)) x size at = absurd (omega (arith, size))
