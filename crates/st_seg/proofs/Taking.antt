-- what a taking makes of the blocks that an allocator has, and the step of the walk that finds the segments
use Rattle.std.proofs.Common.{◌≡◌, ℕ, zero, suc, ◌+◌, ◌-◌, ◌<◌, List, [], ◌∷◌, ◌++◌, length, get_or, take, drop, Option, Some, None, option_to_list, IfSome, refl, sym, ap, ap₂, ◌∙◌, arith}
use Rattle.std.specs.List.{All}
use Rattle.std.proofs.lemmas.List.{append_assoc, drop-drop, at_drop_more}
use Rattle.std.proofs.lemmas.List.Elements.{All-nil, All-cons}
use Rattle.std.proofs.lemmas.Grind.{flat_map-append}
use Rattle.st_units.specs.declared.rows.Segment.{Segment}
use Rattle.st_seg.specs.Blocks.{Block, IsSegment, blocks_in, blocks_of}
use Rattle.st_seg.specs.Stock.{Stock, after_taking}
use Rattle.st_seg.proofs.Parts.{length-blocks_from, part-append}

take-none : {X : Type 0} → (n : ℕ) → take {A = X} n [] ≡ []
take-none zero = refl
take-none (suc n) = refl

take-add : {X : Type 0} → (t n : ℕ) (xs : List X) → take (t + n) xs ≡ take t xs ++ take n (drop t xs)
take-add zero n xs =
    let e : 0 + n ≡ n = omega arith in
    rw e
take-add {X} (suc t) n [] =
    let e : suc t + n ≡ suc (t + n) = omega arith in
    rw e (sym (take-none {X = X} n))
take-add (suc t) n (x ∷ xs) =
    let e : suc t + n ≡ suc (t + n) = omega arith in
    rw e (ap (λ ys. x ∷ ys) (take-add t n xs))

pub taking_is : (t n : ℕ) (blocks : List Block) (stock : Stock) → record { taken = take t blocks; free = drop t blocks } ≡ stock → record { taken = take (t + n) blocks; free = drop (t + n) blocks } ≡ after_taking stock n
taking_is t n blocks stock is =
    let here : Stock = record { taken = take t blocks; free = drop t blocks } in
    let step : record { taken = take (t + n) blocks; free = drop (t + n) blocks } ≡ after_taking here n = ap₂ (λ (x : List Block) (y : List Block). let s : Stock = record { taken = x; free = y } in s) (take-add t n blocks) (sym (drop-drop n t blocks)) in
    step ∙ ap (λ s. after_taking s n) is

pub All-option : (piece : Option Segment) → IfSome piece IsSegment → All IsSegment (option_to_list piece)
All-option None h = All-nil IsSegment
All-option (Some s) h = All-cons IsSegment s [] h (All-nil IsSegment)

pub part_step : (ranges : List Segment) (i : ℕ) (d : Segment) → i < length ranges → (done piece : List Segment) (left skip : ℕ) (whole : List Block)
    → blocks_of piece ≡ take left (drop skip (blocks_in (get_or ranges i d)))
    → blocks_of done ++ take left (drop skip (blocks_of (drop i ranges))) ≡ whole
    → blocks_of (done ++ piece) ++ take (left - ((get_or ranges i d).blocks - skip)) (drop (skip - (get_or ranges i d).blocks) (blocks_of (drop (i + 1) ranges))) ≡ whole
part_step ranges i d h done piece left skip whole piece_is so_far =
    let r = get_or ranges i d in
    let rest = blocks_of (drop (i + 1) ranges) in
    let here : blocks_of (drop i ranges) ≡ blocks_in r ++ rest = at_drop_more blocks_of ranges i d h in
    let len : length (blocks_in r) ≡ r.blocks = length-blocks_from r.dev r.first r.blocks in
    let after : ℕ → List Block = λ n. take (left - (n - skip)) (drop (skip - n) rest) in
    let part : take left (drop skip (blocks_in r ++ rest)) ≡ take left (drop skip (blocks_in r)) ++ after r.blocks = part-append left skip (blocks_in r) rest ∙ ap (λ n. take left (drop skip (blocks_in r)) ++ after n) len in
    let split : blocks_of (done ++ piece) ≡ blocks_of done ++ take left (drop skip (blocks_in r)) = flat_map-append blocks_in done piece ∙ ap (λ bs. blocks_of done ++ bs) piece_is in
    ap (λ bs. bs ++ after r.blocks) split
    ∙ (append_assoc (blocks_of done) (take left (drop skip (blocks_in r))) (after r.blocks)
    ∙ (ap (λ bs. blocks_of done ++ bs) (sym (ap (λ bs. take left (drop skip bs)) here ∙ part))
    ∙ so_far))
