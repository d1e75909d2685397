-- runs of a table: how they are joined, and where each of them begins and ends
use Rattle.std.proofs.Common.{◌≡◌, ℕ, zero, suc, ◌+◌, ◌<◌, ◌≤◌, List, [], ◌∷◌, ◌++◌, length, get_or, take, sym, subst, ap, ◌∙◌, arith}
use Rattle.std.specs.List.{All}
use Rattle.std.specs.List.Sorted.{IsNonDecreasingBy}
use Rattle.std.proofs.lemmas.List.{append-nil, length-append}
use Rattle.std.proofs.lemmas.List.Elements.{All-nil, All-cons}
use Rattle.std.proofs.lemmas.List.{take_more}
use Rattle.std.proofs.lemmas.List.Elements.{All-append}
use Rattle.std.proofs.lemmas.List.Folds.{length-flat_map-take}
use Rattle.std.proofs.lemmas.Grind.{flat_map-append}
use Rattle.st_units.specs.declared.rows.Segment.{Segment}
use Rattle.st_seg.specs.Blocks.{Block, IsSegment, NoneTwice, blocks_in, blocks_of}
use Rattle.st_seg.proofs.Parts.{length-blocks_from}
use Rattle.st_seg.proofs.Few.{IsBlock, blocks_fit, all_fit, few_blocks}
use Rattle.st_seg.proofs.Adding.{blocks_of-push}
use Rattle.st_linear.specs.declared.table.Run.{Run}
use Rattle.st_linear.specs.Runs.{AreRuns, blocks_of_runs}

pub length-run : (run : Run) (runs : List Run) → length (blocks_of_runs (run ∷ runs)) ≡ run.segment.blocks + length (blocks_of_runs runs)
length-run run runs = omega (arith, length-append (blocks_in run.segment) (blocks_of_runs runs), length-blocks_from run.segment.dev run.segment.first run.segment.blocks)

pub AreRuns-append : (start : ℕ) (xs ys : List Run) → AreRuns start xs → AreRuns (start + length (blocks_of_runs xs)) ys → AreRuns start (xs ++ ys)
AreRuns-append start [] ys h g =
    let e : start + 0 ≡ start = omega arith in
    subst (λ n. AreRuns n ys) e g
AreRuns-append start (run ∷ xs) ys h g =
    let e : start + length (blocks_of_runs (run ∷ xs)) ≡ (start + run.segment.blocks) + length (blocks_of_runs xs) = omega (arith, length-run run xs) in
    (h.0, h.1, AreRuns-append (start + run.segment.blocks) xs ys h.2 (subst (λ n. AreRuns n ys) e g))

-- where the k-th run begins
pub run_start : (start : ℕ) (runs : List Run) (k : ℕ) (d : Run) → AreRuns start runs → k < length runs → (get_or runs k d).start ≡ start + length (blocks_of_runs (take k runs))
run_start start [] k d h w = absurd (omega arith)
run_start start (run ∷ runs) zero d h w = omega (arith, h.0)
run_start start (run ∷ runs) (suc k) d h w = omega (arith, run_start (start + run.segment.blocks) runs k d h.2 (omega arith), length-run run (take k runs))

-- where the k-th run ends, and so the next begins
pub run_end : (start : ℕ) (runs : List Run) (k : ℕ) (d : Run) → AreRuns start runs → k < length runs → (get_or runs k d).start + (get_or runs k d).segment.blocks ≡ start + length (blocks_of_runs (take (k + 1) runs))
run_end start [] k d h w = absurd (omega arith)
run_end start (run ∷ runs) zero d h w =
    let e : length (blocks_of_runs (take (0 + 1) (run ∷ runs))) ≡ run.segment.blocks = ap length (append-nil (blocks_in run.segment)) ∙ length-blocks_from run.segment.dev run.segment.first run.segment.blocks in
    omega (arith, h.0, e)
run_end start (run ∷ runs) (suc k) d h w =
    let e : suc k + 1 ≡ suc (k + 1) = omega arith in
    rw e (omega (arith, run_end (start + run.segment.blocks) runs k d h.2 (omega arith), length-run run (take (k + 1) runs)))

pub runs_are_segments : (start : ℕ) (runs : List Run) → AreRuns start runs → All (λ (run : Run). IsSegment run.segment) runs
runs_are_segments start [] h = All-nil (λ (run : Run). IsSegment run.segment)
runs_are_segments start (run ∷ runs) h = All-cons (λ (run : Run). IsSegment run.segment) run runs h.1 (runs_are_segments (start + run.segment.blocks) runs h.2)

starts_from : (start : ℕ) (runs : List Run) → AreRuns start runs → All (λ (run : Run). start ≤ run.start) runs
starts_from start runs h k d w = omega (arith, run_start start runs k d h w)

pub starts_rise : (start : ℕ) (runs : List Run) → AreRuns start runs → IsNonDecreasingBy (λ (run : Run). run.start) runs
starts_rise start [] h i j d below w = absurd (omega arith)
starts_rise start (run ∷ runs) h zero zero d below w = omega arith
starts_rise start (run ∷ runs) h zero (suc j) d below w = omega (arith, h.0, starts_from (start + run.segment.blocks) runs h.2 j d (omega arith))
starts_rise start (run ∷ runs) h (suc i) zero d below w = absurd (omega arith)
starts_rise start (run ∷ runs) h (suc i) (suc j) d below w = starts_rise (start + run.segment.blocks) runs h.2 i j d (omega arith) (omega arith)

-- one more segment, as a run
run_pushed : (runs : List Run) (run : Run) → blocks_of_runs (runs ++ run ∷ []) ≡ blocks_of_runs runs ++ blocks_in run.segment
run_pushed runs run = flat_map-append (λ (run : Run). blocks_in run.segment) runs (run ∷ []) ∙ ap (λ more. blocks_of_runs runs ++ more) (append-nil (blocks_in run.segment))

length_pushed : (runs : List Run) (run : Run) → length (blocks_of_runs (runs ++ run ∷ [])) ≡ length (blocks_of_runs runs) + run.segment.blocks
length_pushed runs run = omega (arith, ap length (run_pushed runs run), length-append (blocks_of_runs runs) (blocks_in run.segment), length-blocks_from run.segment.dev run.segment.first run.segment.blocks)

pub next_pushed : (runs : List Run) (run : Run) (next start n : ℕ) → next ≡ start + length (blocks_of_runs runs) → n ≡ run.segment.blocks → next + n ≡ start + length (blocks_of_runs (runs ++ run ∷ []))
next_pushed runs run next start n is here = omega (arith, length_pushed runs run)

pub blocks_pushed : (segments : List Segment) (i : ℕ) (run : Run) (d : Segment) → i < length segments → run.segment ≡ get_or segments i d → (runs : List Run) → blocks_of_runs runs ≡ blocks_of (take i segments) → blocks_of_runs (runs ++ run ∷ []) ≡ blocks_of (take (i + 1) segments)
blocks_pushed segments i run d h is runs so_far =
    let s = get_or segments i d in
    let there : blocks_of (take (i + 1) segments) ≡ blocks_of (take i segments) ++ blocks_in s = ap blocks_of (take_more segments i d h) ∙ blocks_of-push (take i segments) s in
    run_pushed runs run ∙ (ap (λ bs. bs ++ blocks_in run.segment) so_far ∙ (ap (λ r. blocks_of (take i segments) ++ blocks_in r) is ∙ sym there))

pub next_fits : (segments : List Segment) (i : ℕ) (d : Segment) → i < length segments → (runs : List Run) → blocks_of_runs runs ≡ blocks_of (take i segments) → (next start n : ℕ) → next ≡ start + length (blocks_of_runs runs) → n ≡ (get_or segments i d).blocks → next + n ≤ start + length (blocks_of segments)
next_fits segments i d h runs so_far next start n is here =
    let s = get_or segments i d in
    omega (arith, ap length so_far, length-flat_map-take blocks_in segments i d h, length-blocks_from s.dev s.first s.blocks)

-- a table and more segments have few blocks, and where they are joined their blocks are
runs_fit : (start : ℕ) (runs : List Run) → AreRuns start runs → All IsBlock (blocks_of_runs runs)
runs_fit start [] h = All-nil IsBlock
runs_fit start (run ∷ runs) h =
    let s = run.segment in
    All-append IsBlock (blocks_in s) (blocks_of_runs runs) (blocks_fit s.dev s.first s.blocks h.1.0 h.1.2) (runs_fit (start + s.blocks) runs h.2)

pub table_fits : (runs : List Run) (segments : List Segment) (value : List Block) → AreRuns 0 runs → All IsSegment segments → blocks_of_runs runs ≡ value → NoneTwice (value ++ blocks_of segments) → length (blocks_of_runs runs) + length (blocks_of segments) ≤ 281474976710656
table_fits runs segments value h g is none_twice =
    let opened : NoneTwice (blocks_of_runs runs ++ blocks_of segments) = subst (λ (bs : List Block). NoneTwice (bs ++ blocks_of segments)) (sym is) none_twice in
    let few = few_blocks (blocks_of_runs runs ++ blocks_of segments) opened (All-append IsBlock (blocks_of_runs runs) (blocks_of segments) (runs_fit 0 runs h) (all_fit segments g)) in
    omega (arith, length-append (blocks_of_runs runs) (blocks_of segments))

pub joined : (xs ys : List Run) (segments read : List Segment) (value : List Block) → blocks_of_runs xs ≡ value → blocks_of_runs ys ≡ blocks_of read → read ≡ segments → blocks_of_runs (xs ++ ys) ≡ value ++ blocks_of segments
joined xs ys segments read value here there same =
    flat_map-append (λ (run : Run). blocks_in run.segment) xs ys ∙ (ap (λ bs. bs ++ blocks_of_runs ys) here ∙ ap (λ bs. value ++ bs) (there ∙ ap blocks_of same))
