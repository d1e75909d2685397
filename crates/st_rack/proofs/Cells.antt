-- Bytes from an offset on.
use Rattle.std.proofs.Common.{◌≡◌, ℕ, zero, suc, ◌+◌, ◌<◌, ◌≤◌, List, [], ◌∷◌, ◌++◌, length, get_or, take, drop, refl, sym, ◌∙◌, ap, arith, add-zero}
use Rattle.std.proofs.lemmas.List.{drop_more}
use Rattle.st_rack.specs.Device.{cells}

-- those of a list
pub cells_of : (xs : List ℕ) (at n : ℕ) → at + n ≤ length xs → cells (λ i. get_or xs i 0) at n ≡ take n (drop at xs)
cells_of xs at zero le = refl
cells_of xs at (suc n) le =
    let lt : at < length xs = omega arith in
    let rest = cells_of xs (at + 1) n (omega arith) in
    ap (λ (l : List ℕ). get_or xs at 0 ∷ l) rest ∙ sym (ap (λ (l : List ℕ). take (suc n) l) (drop_more xs at 0 lt))

-- they depend on these bytes alone
pub cells_same : (f g : ℕ → ℕ) (at n : ℕ) → ((i : ℕ) → at ≤ i → i < at + n → f i ≡ g i) → cells f at n ≡ cells g at n
cells_same f g at zero same = refl
cells_same f g at (suc n) same =
    let here : f at ≡ g at = same at (omega arith) (omega arith) in
    let rest = cells_same f g (at + 1) n (λ i le lt. same i (omega arith) (omega arith)) in
    (λ i. here i ∷ rest i)

pub length-cells : (f : ℕ → ℕ) (at n : ℕ) → length (cells f at n) ≡ n
length-cells f at zero = refl
length-cells f at (suc n) = omega (arith, length-cells f (at + 1) n)

pub cells-add : (f : ℕ → ℕ) (at m n : ℕ) → cells f at (m + n) ≡ cells f at m ++ cells f (at + m) n
cells-add f at zero n = let e : zero + n ≡ n = omega arith in let z : at + zero ≡ at = omega arith in rw (e, z) refl
cells-add f at (suc m) n =
    let e : suc m + n ≡ suc (m + n) = omega arith in
    let z : at + suc m ≡ at + 1 + m = omega arith in
    rw (e, z) (ap (λ (l : List ℕ). f at ∷ l) (cells-add f (at + 1) m n))

pub get_or-cells : (f : ℕ → ℕ) (at n k : ℕ) → k < n → get_or (cells f at n) k 0 ≡ f (at + k)
get_or-cells f at zero k lt = absurd (omega arith)
get_or-cells f at (suc n) zero lt = let z : at + zero ≡ at = omega arith in rw z refl
get_or-cells f at (suc n) (suc k) lt = let z : at + suc k ≡ at + 1 + k = omega arith in rw z (get_or-cells f (at + 1) n k (omega arith))

-- a list of which each byte stands there
pub cells_is : (f : ℕ → ℕ) (at : ℕ) (xs : List ℕ) → ((k : ℕ) → k < length xs → f (at + k) ≡ get_or xs k 0) → cells f at (length xs) ≡ xs
cells_is f at [] each = refl
cells_is f at (x ∷ xs) each =
    let here : f at ≡ x = ap f (sym (add-zero at)) ∙ each 0 (omega arith) in
    let rest = cells_is f (at + 1) xs (λ k lt. ap f (shift k) ∙ each (suc k) (omega arith)) in
    (λ i. here i ∷ rest i)
  where
    shift : (k : ℕ) → at + 1 + k ≡ at + suc k
    shift k = omega arith
