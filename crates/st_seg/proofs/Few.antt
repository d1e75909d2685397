-- blocks of which none stands twice are at most as many as there are numbers for them
use Rattle.std.proofs.Common.{◌≡◌, ◌≢◌, ℕ, ◌+◌, ◌*◌, ◌<◌, ◌≤◌, List, [], ◌∷◌, map, length, refl, sym, subst, ap₂, ◌∙◌, arith}
use Rattle.std.specs.List.{All, AllPairs}
use Rattle.std.proofs.lemmas.List.{get_or-map, length-map}
use Rattle.std.proofs.lemmas.List.FromFn.{length-map-range_with_len, get_or-map-range_with_len}
use Rattle.std.proofs.lemmas.List.Elements.{All-nil, All-head, All-tail, All-append, All-contains, All-map}
use Rattle.std.proofs.lemmas.Map.Made.{IsDistinct-from_AllPairs}
use Rattle.std.proofs.lemmas.Map.Steps.{length-le_from_distinct_below}
use Rattle.std.proofs.lemmas.Map.Views.{Contains-from_any}
use Rattle.std.proofs.lemmas.Bool.Decides.{Decides-eqb}
use Rattle.st_units.specs.declared.rows.Segment.{Segment}
use Rattle.st_seg.specs.Blocks.{Block, IsSegment, NoneTwice, blocks_from, blocks_in, blocks_of}

-- the numbers of a block fit 16 and 32 bits
abbrev pub IsBlock : Block → Type 0
IsBlock b = (b.0 < 65536) × (b.1 < 4294967296)

code : Block → ℕ
code b = b.0 * 4294967296 + b.1

code_below : (b : Block) → IsBlock b → code b < 281474976710656
unfolding code
code_below b h = omega arith

code_tells : (a b : Block) → IsBlock a → IsBlock b → code a ≡ code b → a ≡ b
unfolding code
code_tells a b h g e =
    let dev : a.0 ≡ b.0 = omega arith in
    let block : a.1 ≡ b.1 = omega arith in
    ap₂ (λ x y. (x, y)) dev block

codes_differ : (blocks : List Block) → NoneTwice blocks → All IsBlock blocks → AllPairs (λ x y. x ≢ y) (map code blocks)
codes_differ blocks h g i j d below within e =
    let short : j < length blocks = omega (arith, length-map blocks code) in
    let first = get_or-map code blocks i (0, 0) d (omega arith) in
    let second = get_or-map code blocks j (0, 0) d short in
    h i j (0, 0) below short (code_tells _ _ (g i (0, 0) (omega arith)) (g j (0, 0) short) (sym first ∙ (e ∙ second)))

pub few_blocks : (blocks : List Block) → NoneTwice blocks → All IsBlock blocks → length blocks ≤ 281474976710656
few_blocks blocks h g =
    let distinct = IsDistinct-from_AllPairs Decides-eqb (map code blocks) (codes_differ blocks h g) in
    let below : All (λ n. n < 281474976710656) (map code blocks) = All-map (λ n. n < 281474976710656) code blocks (λ k d w. code_below _ (g k d w)) in
    let few = length-le_from_distinct_below (map code blocks) 281474976710656 distinct (λ q w. All-contains (λ n. n < 281474976710656) (map code blocks) q below (Contains-from_any (λ x y t. (Decides-eqb x y).0 t) q (map code blocks) w)) in
    omega (arith, length-map blocks code)

pub blocks_fit : (dev first n : ℕ) → dev < 65536 → first + n ≤ 4294967296 → All IsBlock (blocks_from dev first n)
unfolding blocks_from
blocks_fit dev first n h g k d w =
    let f : ℕ → Block = λ block. (dev, block) in
    let short : k < n = omega (arith, length-map-range_with_len f first n) in
    subst IsBlock (sym (get_or-map-range_with_len f first n k (first + k) d short refl)) (h, omega arith)

pub all_fit : (segments : List Segment) → All IsSegment segments → All IsBlock (blocks_of segments)
all_fit [] h = All-nil IsBlock
all_fit (s ∷ rest) h =
    let first = All-head IsSegment s rest h in
    All-append IsBlock (blocks_in s) (blocks_of rest) (blocks_fit s.dev s.first s.blocks first.0 first.2) (all_fit rest (All-tail IsSegment s rest h))
