-- what one more segment makes of the blocks that an allocator has
use Rattle.std.proofs.Common.{◌≡◌, ℕ, ◌+◌, ◌≤◌, List, [], ◌∷◌, ◌++◌, length, take, drop, sym, subst, ap, ◌∙◌, arith}
use Rattle.std.specs.List.{All}
use Rattle.std.proofs.lemmas.List.{append-nil, take-append-drop, length-append}
use Rattle.std.proofs.lemmas.List.Elements.{All-push}
use Rattle.std.proofs.lemmas.Grind.{flat_map-append}
use Rattle.st_units.specs.declared.rows.Segment.{Segment}
use Rattle.st_seg.specs.Blocks.{Block, IsSegment, NoneTwice, blocks_in, blocks_of}
use Rattle.st_seg.specs.Stock.{Stock, added}
use Rattle.st_seg.proofs.Parts.{length-blocks_from}
use Rattle.st_seg.proofs.Few.{few_blocks, all_fit}

pub blocks_of-push : (segments : List Segment) (s : Segment) → blocks_of (segments ++ s ∷ []) ≡ blocks_of segments ++ blocks_in s
blocks_of-push segments s = flat_map-append blocks_in segments (s ∷ []) ∙ ap (λ more. blocks_of segments ++ more) (append-nil (blocks_in s))

-- the condition of `add`, of the blocks themselves
pub still_new : (n : ℕ) (blocks more : List Block) (stock : Stock) → record { taken = take n blocks; free = drop n blocks } ≡ stock → NoneTwice (added stock ++ more) → NoneTwice (blocks ++ more)
still_new n blocks more stock is h =
    let opened : NoneTwice ((take n blocks ++ drop n blocks) ++ more) = subst (λ (s : Stock). NoneTwice (added s ++ more)) (sym is) h in
    subst (λ (bs : List Block). NoneTwice (bs ++ more)) (take-append-drop n blocks) opened

pub few_with_more : (segments : List Segment) (s : Segment) → All IsSegment segments → IsSegment s → NoneTwice (blocks_of segments ++ blocks_in s) → length (blocks_of segments) + s.blocks ≤ 281474976710656
few_with_more segments s h g none_twice =
    let e = blocks_of-push segments s in
    let pushed : NoneTwice (blocks_of (segments ++ s ∷ [])) = subst NoneTwice (sym e) none_twice in
    let few = few_blocks _ pushed (all_fit (segments ++ s ∷ []) (All-push IsSegment segments s h g)) in
    omega (arith, ap length e, length-append (blocks_of segments) (blocks_in s), length-blocks_from s.dev s.first s.blocks)
