-- the place of a block, by the run that it lies in; places of different blocks differ
use Rattle.std.proofs.Common.{◌≡◌, ◌≢◌, inl, inr, ℕ, zero, suc, ◌+◌, ◌-◌, ◌*◌, ◌<◌, ◌≤◌, List, [], ◌∷◌, ◌++◌, length, get_or, take, Some, refl, sym, subst, ap, ap₂, ◌∙◌, arith}
use Rattle.std.specs.List.Sorted.{IsPartitionPoint}
use Rattle.std.specs.Option.{option_map}
use Rattle.std.proofs.lemmas.List.{take_all}
use Rattle.std.proofs.lemmas.List.Concat.{get_or-flat_map}
use Rattle.std.proofs.lemmas.Bool.{cases_lt, cases_order}
use Rattle.std.proofs.lemmas.Option.{slice_get-get_or}
use Rattle.st_seg.specs.Blocks.{Block, IsSegment, NoneTwice, blocks_in}
use Rattle.st_seg.proofs.Parts.{length-blocks_from, get_or-blocks_from}
use Rattle.st_linear.specs.declared.table.Run.{Run}
use Rattle.st_linear.specs.Places.{place_of, place_at}
use Rattle.st_linear.specs.Runs.{AreRuns, blocks_of_runs}
use Rattle.st_linear.proofs.Runs.{run_start, run_end, runs_are_segments}

-- what is known of the run in which a block of a table lies
pub record LiesIn (value : List Block) (block : ℕ) (run : Run) : Type 0 where
  pub low : run.start ≤ block
  pub high : block < run.start + run.segment.blocks
  pub segment : IsSegment run.segment
  pub place : place_at value block ≡ Some (place_of (run.segment.dev, run.segment.first + (block - run.start)))

Parts : List Run → ℕ → ℕ → Type 0
Parts runs block n = IsPartitionPoint (λ (run : Run). run.start ≤ block) (λ (run : Run). block < run.start) runs n

some_runs : (runs : List Run) (n block : ℕ) → AreRuns 0 runs → Parts runs block n → block < length (blocks_of_runs runs) → 0 < n
unfolding Parts
some_runs [] n block h parted below = absurd (omega arith)
some_runs (run ∷ runs) zero block h parted below = absurd (omega (arith, parted.1 0 run (omega arith) (omega arith), h.0))
some_runs (run ∷ runs) (suc n) block h parted below = omega arith

-- the block lies before the end of the last run that begins at it or before it
ends_behind : (runs : List Run) (k block : ℕ) (d : Run) → AreRuns 0 runs → k < length runs → Parts runs block (k + 1) → block < length (blocks_of_runs runs) → block < (get_or runs k d).start + (get_or runs k d).segment.blocks
unfolding Parts
ends_behind runs k block d h within parted below =
    elim (cases_lt (k + 1) (length runs)) [
      | inl more ↦ omega (arith, parted.1 (k + 1) d (omega arith) more, run_start 0 runs (k + 1) d h more, run_end 0 runs k d h within)
      | inr last ↦ omega (arith, run_end 0 runs k d h within, ap (λ rs. length (blocks_of_runs rs)) (take_all (k + 1) runs last))
    ]

place_at-is : (blocks : List Block) (b : ℕ) (d : Block) → b < length blocks → place_at blocks b ≡ Some (place_of (get_or blocks b d))
place_at-is blocks b d h = ap (option_map place_of) (slice_get-get_or blocks b d h)

block_of_run : (runs : List Run) (k block : ℕ) (d : Run) → AreRuns 0 runs → k < length runs → (get_or runs k d).start ≤ block → block < (get_or runs k d).start + (get_or runs k d).segment.blocks
    → get_or (blocks_of_runs runs) block (0, 0) ≡ ((get_or runs k d).segment.dev, (get_or runs k d).segment.first + (block - (get_or runs k d).start))
block_of_run runs k block d h within low high =
    let run = get_or runs k d in
    let s = run.segment in
    let short : block - run.start < length (blocks_in s) = omega (arith, length-blocks_from s.dev s.first s.blocks) in
    let at : block ≡ length (blocks_of_runs (take k runs)) + (block - run.start) = omega (arith, run_start 0 runs k d h within) in
    ap (λ n. get_or (blocks_of_runs runs) n (0, 0)) at
    ∙ (get_or-flat_map (λ (run : Run). blocks_in run.segment) runs k (block - run.start) d (0, 0) within short
    ∙ get_or-blocks_from s.dev s.first s.blocks (block - run.start) (0, 0) (omega arith))

pub some_run_before : (runs read : List Run) (value : List Block) (n block : ℕ) → AreRuns 0 runs → blocks_of_runs runs ≡ value → read ≡ runs → block < length value
    → IsPartitionPoint (λ (run : Run). run.start ≤ block) (λ (run : Run). block < run.start) read n → 0 < n
unfolding Parts
some_run_before runs read value n block h is same below parted =
    some_runs runs n block h (subst (λ (rs : List Run). Parts rs block n) same parted) (omega (arith, ap length is))

pub lies_in : (runs read : List Run) (value : List Block) (n block : ℕ) (run : Run) → AreRuns 0 runs → blocks_of_runs runs ≡ value → read ≡ runs → block < length value
    → IsPartitionPoint (λ (run : Run). run.start ≤ block) (λ (run : Run). block < run.start) read n → n ≤ length read → run ≡ get_or runs (n - 1) run → LiesIn value block run
unfolding Parts
lies_in runs read value n block run h is same below parted within at =
    let there : Parts runs block n = subst (λ (rs : List Run). Parts rs block n) same parted in
    let inside : block < length (blocks_of_runs runs) = omega (arith, ap length is) in
    let some : 0 < n = some_runs runs n block h there inside in
    let k = n - 1 in
    let last : k < length runs = omega (arith, ap length same) in
    let next : n ≡ k + 1 = omega arith in
    let low : (get_or runs k run).start ≤ block = there.0 k run (omega arith) (omega arith) in
    let high : block < (get_or runs k run).start + (get_or runs k run).segment.blocks = ends_behind runs k block run h last (subst (λ m. Parts runs block m) next there) inside in
    let found = block_of_run runs k block run h last low high in
    let place : place_at value block ≡ Some (place_of ((get_or runs k run).segment.dev, (get_or runs k run).segment.first + (block - (get_or runs k run).start))) =
    ap (λ bs. place_at bs block) (sym is) ∙ (place_at-is (blocks_of_runs runs) block (0, 0) inside ∙ ap (λ b. Some (place_of b)) found) in
    let found_run : LiesIn value block (get_or runs k run) = record { low = low; high = high; segment = runs_are_segments 0 runs h k run last; place = place } in
    subst (LiesIn value block) (sym at) found_run

place_of_tells : (a b : Block) → place_of a ≡ place_of b → a ≡ b
place_of_tells a b e =
    let dev : a.0 ≡ b.0 = ap (λ p. p.0) e in
    let sectors : 256 + 128 * a.1 ≡ 256 + 128 * b.1 = ap (λ p. p.1) e in
    let block : a.1 ≡ b.1 = omega arith in
    ap₂ (λ x y. (x, y)) dev block

pub places_apart : (blocks : List Block) → NoneTwice blocks → (b c : ℕ) → b < length blocks → c < length blocks → b ≢ c → place_at blocks b ≢ place_at blocks c
places_apart blocks h b c first second differ e =
    let x = get_or blocks b (0, 0) in
    let y = get_or blocks c (0, 0) in
    let both : Some (place_of x) ≡ Some (place_of y) = sym (place_at-is blocks b (0, 0) first) ∙ (e ∙ place_at-is blocks c (0, 0) second) in
    let place : place_of x ≡ place_of y = cc in
    let same : x ≡ y = place_of_tells x y place in
    elim (cases_order b c) [
      | inl equal ↦ differ equal
      | inr other ↦ elim other [ inl below ↦ h b c (0, 0) below second same | inr above ↦ h c b (0, 0) above first (sym same) ]
    ]

pub places_stay : (blocks more : List Block) (b : ℕ) → b < length blocks → place_at (blocks ++ more) b ≡ place_at blocks b
places_stay [] more b h = absurd (omega arith)
places_stay (x ∷ blocks) more zero h = refl
places_stay (x ∷ blocks) more (suc b) h = places_stay blocks more b (omega arith)
