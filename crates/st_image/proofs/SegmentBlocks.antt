-- The blocks of a data tier's segments are the first blocks that the pool's devices have for data.
use Rattle.std.proofs.Common.{◌≡◌, ℕ, zero, suc, ◌+◌, ◌-◌, Bool, true, false, cond, eqb, List, [], ◌∷◌, ◌++◌, length, take, drop, refl, sym, ap, ◌∙◌, arith}
use Rattle.std.specs.Prelude.{min}
use Rattle.std.proofs.lemmas.List.{append-nil}
use Rattle.std.proofs.lemmas.List.Concat.{flat_map-append, flat_map-cons}
use Rattle.std.proofs.lemmas.Bool.Decides.{nat_tests}
use Rattle.st_units.specs.declared.rows.DevRow.{DevRow}
use Rattle.st_units.specs.declared.rows.Segment.{Segment}
use Rattle.st_units.specs.declared.rows.Tier.{Tier}
use Rattle.st_units.specs.declared.rows.Tier.TheVariants.{DataTier, CacheTier}
use Rattle.st_limits.specs.Sums.{usable_blocks}
use Rattle.st_seg.specs.Blocks.{Block, blocks_from, blocks_in, blocks_of}
use Rattle.st_seg.proofs.Parts.{length-blocks_from, part-blocks_from, part-append, blocks_from-none}
use Rattle.st_datatier.specs.Tier.{first_block_of}
use Rattle.st_datatier.specs.Segments.{segment_at, segment_rows}
use Rattle.st_image.specs.RowBlocks.{row_blocks}

one_segment : (at k : ℕ) → blocks_of (segment_at at k) ≡ blocks_from at (first_block_of at) k
one_segment at k = by (eqb k 0) refl
  where
    seg : Segment
    seg = record { dev = at; first = first_block_of at; blocks = k }

    by : (b : Bool) → eqb k 0 ≡ b → blocks_of (cond b [] (seg ∷ [])) ≡ blocks_from at (first_block_of at) k
    by true e = let none : k ≡ 0 = grind (arith, nat_tests) in sym (blocks_from-none at (first_block_of at) k none)
    by false e = flat_map-cons blocks_in seg [] ∙ append-nil (blocks_from at (first_block_of at) k)

take_two : (n : ℕ) (xs ys : List Block) (u : ℕ) → length xs ≡ u → take n (xs ++ ys) ≡ take n xs ++ take (n - u) ys
take_two n xs ys u size =
    let left : n - (length xs - 0) ≡ n - u = omega (arith, size) in
    let none : 0 - length xs ≡ 0 = omega arith in
    part-append n 0 xs ys ∙ (λ i. take n xs ++ take (left i) (drop (none i) ys))

pub segment_blocks : (at n : ℕ) (rows : List DevRow) → blocks_of (segment_rows at n rows) ≡ take n (row_blocks at rows)
segment_blocks at n [] = sym (nothing n)
  where
    nothing : (n : ℕ) → take {A = Block} n [] ≡ []
    nothing zero = refl
    nothing (suc k) = refl
segment_blocks at n (row ∷ rows) = by row.tier (λ k. segment_blocks (at + 1) k rows)
  where
    by : (t : Tier) → ((k : ℕ) → blocks_of (segment_rows (at + 1) k rows) ≡ take k (row_blocks (at + 1) rows)) → blocks_of (segment_rows at n (record row { tier = t } ∷ rows)) ≡ take n (row_blocks at (record row { tier = t } ∷ rows))
    by DataTier later =
        let left : n - min n (usable_blocks row.sectors - first_block_of at) ≡ n - (usable_blocks row.sectors - first_block_of at) = omega arith in
        let front : take n (blocks_from at (first_block_of at) (usable_blocks row.sectors - first_block_of at)) ≡ blocks_from at (first_block_of at) (min n (usable_blocks row.sectors - first_block_of at)) =
        part-blocks_from n 0 at (first_block_of at) (usable_blocks row.sectors - first_block_of at) ∙ (λ i. blocks_from at (zero_more (first_block_of at) i) (min n (zero_less (usable_blocks row.sectors - first_block_of at) i))) in
        flat_map-append blocks_in (segment_at at (min n (usable_blocks row.sectors - first_block_of at))) (segment_rows (at + 1) (n - min n (usable_blocks row.sectors - first_block_of at)) rows)
        ∙ (λ i. one_segment at (min n (usable_blocks row.sectors - first_block_of at)) i ++ later (n - min n (usable_blocks row.sectors - first_block_of at)) i)
        ∙ (λ i. sym front i ++ take (left i) (row_blocks (at + 1) rows))
        ∙ sym (take_two n (blocks_from at (first_block_of at) (usable_blocks row.sectors - first_block_of at)) (row_blocks (at + 1) rows) (usable_blocks row.sectors - first_block_of at) (length-blocks_from at (first_block_of at) (usable_blocks row.sectors - first_block_of at)))
      where
        zero_more : (k : ℕ) → k + 0 ≡ k
        zero_more k = omega arith

        zero_less : (k : ℕ) → k - 0 ≡ k
        zero_less k = omega arith
    by CacheTier later = later (n - 0) ∙ ap (λ (k : ℕ). take k (row_blocks (at + 1) rows)) (zero_less n)
      where
        zero_less : (k : ℕ) → k - 0 ≡ k
        zero_less k = omega arith
