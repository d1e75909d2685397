-- parts of the blocks of a segment, and of several in a row
use Rattle.std.proofs.Common.{◌≡◌, ℕ, zero, suc, ◌+◌, ◌-◌, ◌<◌, min, List, [], ◌∷◌, ◌++◌, map, length, get_or, take, drop, refl, ap, ◌∙◌, arith}
use Rattle.std.specs.List.{range_with_len}
use Rattle.std.proofs.lemmas.List.{take-map, drop-map}
use Rattle.std.proofs.lemmas.List.FromFn.{length-map-range_with_len, get_or-map-range_with_len}
use Rattle.st_seg.specs.Blocks.{Block, blocks_from}

drop-range : (k a n : ℕ) → drop k (range_with_len a n) ≡ range_with_len (a + k) (n - k)
drop-range zero a n =
    let e : a + 0 ≡ a = omega arith in
    let d : n - 0 ≡ n = omega arith in
    rw (e, d)
drop-range (suc k) a zero =
    let d : 0 - suc k ≡ 0 = omega arith in
    rw d
drop-range (suc k) a (suc n) =
    let e : a + suc k ≡ (a + 1) + k = omega arith in
    let d : suc n - suc k ≡ n - k = omega arith in
    rw (e, d) (drop-range k (a + 1) n)

take-range : (k a n : ℕ) → take k (range_with_len a n) ≡ range_with_len a (min k n)
take-range zero a n =
    let d : min 0 n ≡ 0 = omega arith in
    rw d
take-range (suc k) a zero =
    let d : min (suc k) 0 ≡ 0 = omega arith in
    rw d
take-range (suc k) a (suc n) =
    let d : min (suc k) (suc n) ≡ suc (min k n) = omega arith in
    rw d (ap (λ xs. a ∷ xs) (take-range k (a + 1) n))

pub length-blocks_from : (dev first n : ℕ) → length (blocks_from dev first n) ≡ n
unfolding blocks_from
length-blocks_from dev first n = length-map-range_with_len _ first n

pub part-blocks_from : (count skip dev first n : ℕ) → take count (drop skip (blocks_from dev first n)) ≡ blocks_from dev (first + skip) (min count (n - skip))
unfolding blocks_from
part-blocks_from count skip dev first n =
    let f : ℕ → Block = λ block. (dev, block) in
    ap (take count) (drop-map f skip (range_with_len first n) ∙ ap (map f) (drop-range skip first n)) ∙ (take-map f count _ ∙ ap (map f) (take-range count _ _))

drop-nil : {X : Type 0} → (n : ℕ) → drop {A = X} n [] ≡ []
drop-nil zero = refl
drop-nil (suc n) = refl

take-nil : {X : Type 0} → (n : ℕ) → take {A = X} n [] ≡ []
take-nil zero = refl
take-nil (suc n) = refl

pub part-nil : {X : Type 0} → (count skip : ℕ) → take count (drop {A = X} skip []) ≡ []
part-nil {X} count skip = ap (take count) (drop-nil {X = X} skip) ∙ take-nil {X = X} count

-- a part of two lists in a row: of the first, and then what is left to skip and to take of the second
pub part-append : {X : Type 0} → (count skip : ℕ) (xs ys : List X) → take count (drop skip (xs ++ ys)) ≡ take count (drop skip xs) ++ take (count - (length xs - skip)) (drop (skip - length xs) ys)
part-append {X} count skip [] ys =
    let d : skip - 0 ≡ skip = omega arith in
    let e : count - (0 - skip) ≡ count = omega arith in
    rw (part-nil {X = X} count skip, d, e)
part-append zero skip (x ∷ xs) ys =
    let e : 0 - (suc (length xs) - skip) ≡ 0 = omega arith in
    rw e
part-append (suc count) zero (x ∷ xs) ys =
    let e : suc count - (suc (length xs) - 0) ≡ count - (length xs - 0) = omega arith in
    let d : 0 - suc (length xs) ≡ 0 - length xs = omega arith in
    rw (e, d) (ap (λ zs. x ∷ zs) (part-append count 0 xs ys))
part-append (suc count) (suc skip) (x ∷ xs) ys =
    let e : suc (length xs) - suc skip ≡ length xs - skip = omega arith in
    let d : suc skip - suc (length xs) ≡ skip - length xs = omega arith in
    rw (e, d) (part-append (suc count) skip xs ys)

pub blocks_from-none : (dev first n : ℕ) → n ≡ 0 → blocks_from dev first n ≡ []
unfolding blocks_from
blocks_from-none dev first n h = rw h

pub get_or-blocks_from : (dev first n j : ℕ) (d : Block) → j < n → get_or (blocks_from dev first n) j d ≡ (dev, first + j)
unfolding blocks_from
get_or-blocks_from dev first n j d h = get_or-map-range_with_len (λ block. (dev, block)) first n j (first + j) d h refl

pub drop-blocks_from : (skip dev first n : ℕ) → drop skip (blocks_from dev first n) ≡ blocks_from dev (first + skip) (n - skip)
unfolding blocks_from
drop-blocks_from skip dev first n = drop-map (λ block. (dev, block)) skip (range_with_len first n) ∙ ap (map (λ block. (dev, block))) (drop-range skip first n)
