-- a list is found by walking its ring
use Rattle.std.proofs.Common.{◌≡◌, ℕ, zero, suc, ◌+◌, ◌<◌, ◌≤◌, true, false, List, [], ◌∷◌, length, get_or, eqb, refl, sym, ◌∙◌, ap, subst, arith}
use Rattle.std.specs.List.{IsDistinct, AllByRecursion}
use Rattle.std.proofs.lemmas.Bool.{eq-eqb, ne_eqb, cond-true, cond-false}
use Rattle.std.proofs.lemmas.Map.Steps.{length-le_from_distinct_below}
use Rattle.st_limits.specs.Cache.{has, AreDistinct}
use Rattle.st_limits.proofs.Members.{has_head, has_tail, lacks_parts, differ_by_list}
use Rattle.st_links.specs.Arena.{row}
use Rattle.st_links.specs.Ring.{first_or, follower, walk, rows_from, rows, Linked}
use Rattle.st_links.proofs.Follow.{follower_here, follower_there}
use Rattle.st_links.proofs.Rings.{first_is}

walk_on : (nx : List ℕ) (d : ℕ) (xs : List ℕ) (most : ℕ) → ((y : ℕ) → has y xs ≡ true → get_or nx y 0 ≡ follower d xs y) → has d xs ≡ false → AreDistinct xs → length xs ≤ most → walk nx d most (first_or d xs) ≡ xs
walk_on nx d [] zero at lacks dist fits = refl
walk_on nx d [] (suc most) at lacks dist fits = cond-true (eqb d d) [] (d ∷ walk nx d most (get_or nx d 0)) (eq-eqb d d refl)
walk_on nx d (x ∷ xs) zero at lacks dist fits = absurd (omega arith)
walk_on nx d (x ∷ xs) (suc most) at lacks dist fits =
    let parts = lacks_parts d x xs lacks in
    let next : get_or nx x 0 ≡ first_or d xs = at x (has_head x xs) ∙ follower_here d x xs in
    let rest : walk nx d most (first_or d xs) ≡ xs =
    walk_on nx d xs most
    (λ (y : ℕ) (h : has y xs ≡ true). at y (has_tail y x xs h) ∙ follower_there d x y xs (differ_by_list y x xs h dist.0))
    parts.1 dist.1 (omega arith) in
    cond-false (eqb x d) [] (x ∷ walk nx d most (get_or nx x 0)) (ne_eqb x d (λ (q : x ≡ d). parts.0 (sym q)))
    ∙ ap (λ (y : ℕ). x ∷ walk nx d most y) next
    ∙ ap (λ (ys : List ℕ). x ∷ ys) rest

lacks_each : (x : ℕ) (xs : List ℕ) → has x xs ≡ false → AllByRecursion (λ (y : ℕ). eqb x y ≡ false) xs
lacks_each x [] lacks = tt
lacks_each x (y ∷ ys) lacks = let parts = lacks_parts x y ys lacks in (ne_eqb x y parts.0, lacks_each x ys parts.1)

IsDistinct-from : (xs : List ℕ) → AreDistinct xs → IsDistinct eqb xs
unfolding IsDistinct
IsDistinct-from [] dist = tt
IsDistinct-from (x ∷ xs) dist = (lacks_each x xs dist.0, IsDistinct-from xs dist.1)

-- numbers below n with no two equal are at most n
pub length_of_distinct : (xs : List ℕ) (n : ℕ) → AreDistinct xs → ((y : ℕ) → has y xs ≡ true → y < n) → length xs ≤ n
length_of_distinct xs n dist below = length-le_from_distinct_below xs n (IsDistinct-from xs dist) below

module _ {nx pv hm : List ℕ} {n count : ℕ} {lists : List (List ℕ)} where
  pub walk_is : Linked nx pv hm n count lists → (l : ℕ) → l < count → walk nx (n + l) n (get_or nx (n + l) 0) ≡ row lists l
  walk_is linked l below =
      let ring = linked.rings l below in
      let xs : List ℕ = row lists l in
      ap (walk nx (n + l) n) (first_is ring)
      ∙ walk_on nx (n + l) xs n
      (λ (y : ℕ) (h : has y xs ≡ true). ring.forth y (has_tail y (n + l) xs h) ∙ follower_there (n + l) (n + l) y xs (differ_by_list y (n + l) xs h ring.once.0))
      ring.once.0 ring.once.1 (length_of_distinct xs n ring.once.1 (λ (y : ℕ) (h : has y xs ≡ true). linked.small l y below h))

rows_at : (nx : List ℕ) (n l : ℕ) (lists : List (List ℕ)) → ((i : ℕ) → i < length lists → walk nx (n + (l + i)) n (get_or nx (n + (l + i)) 0) ≡ row lists i) → rows_from nx n l (length lists) ≡ lists
rows_at nx n l [] at = refl
rows_at nx n l (xs ∷ lists) at =
    let W : ℕ → List ℕ = λ (k : ℕ). walk nx (n + k) n (get_or nx (n + k) 0) in
    let here : W l ≡ xs = ap W (omega arith) ∙ at 0 (omega arith) in
    let rest : rows_from nx n (suc l) (length lists) ≡ lists =
    rows_at nx n (suc l) lists (λ (i : ℕ) (h : i < length lists). ap W (omega arith) ∙ at (suc i) (omega arith)) in
    ap (λ (ys : List ℕ). ys ∷ rows_from nx n (suc l) (length lists)) here ∙ ap (λ (zs : List (List ℕ)). xs ∷ zs) rest

-- the lists that the arrays stand for are those that walking finds
pub rows_is : {nx pv hm : List ℕ} {n count : ℕ} {lists : List (List ℕ)} → Linked nx pv hm n count lists → rows nx n count ≡ lists
rows_is {nx} {pv} {hm} {n} {count} {lists} linked =
    let W : ℕ → List ℕ = λ (k : ℕ). walk nx (n + k) n (get_or nx (n + k) 0) in
    ap (rows_from nx n 0) (sym linked.counted)
    ∙ rows_at nx n 0 lists (λ (i : ℕ) (h : i < length lists). ap W (omega arith) ∙ walk_is linked i (subst (λ (k : ℕ). i < k) linked.counted h))
