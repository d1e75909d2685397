-- the blocks that are allocated fit the pool's devices
use Rattle.std.proofs.Common.{◌≡◌, ℕ, ◌+◌, ◌-◌, ◌≤◌, List, [], ◌∷◌, true, ◌||◌, ◌&&◌, length, ap, ◌∙◌, arith}
use Rattle.std.specs.Prelude.{nat_le, nat_lt, ◌==◌}
use Rattle.std.proofs.lemmas.Bool.{and_parts}
use Rattle.std.proofs.lemmas.List.{length-append}
use Rattle.std.proofs.lemmas.List.Concat.{flat_map-cons}
use Rattle.st_units.specs.declared.rows.DevRow.{DevRow}
use Rattle.st_units.specs.declared.rows.Segment.{Segment}
use Rattle.st_units.specs.declared.rows.Tier.{Tier}
use Rattle.st_units.specs.declared.rows.Tier.TheVariants.{DataTier, CacheTier}
use Rattle.st_limits.specs.Sums.{room, usable_blocks}
use Rattle.st_seg.specs.Blocks.{blocks_in, blocks_of}
use Rattle.st_seg.proofs.Parts.{length-blocks_from}
use Rattle.st_poolrec.specs.Conditions.{begins_with_data, ends_device, first_block, is_part, take_in_order}
use Rattle.st_model.specs.Sums.{data_tier, sectors_in}
use Rattle.st_model.proofs.Totals.{total, total-is}
use Rattle.st_sound.proofs.Lists.{eq_of, le_of}

count : (s : Segment) (ss : List Segment) → length (blocks_of (s ∷ ss)) ≡ s.blocks + length (blocks_of ss)
count s ss =
    let size = length-append (blocks_in s) (blocks_of ss) in
    let own = length-blocks_from s.dev s.first s.blocks in
    ap length (flat_map-cons blocks_in s ss) ∙ omega (arith, size, own)

-- the blocks of the data devices in these rows
abbrev all_of : List DevRow → ℕ
all_of rows = total usable_blocks (sectors_in (data_tier rows))

part : (at : ℕ) (d : DevRow) (s : Segment) → is_part at d s ≡ true → (s.first ≡ first_block at) × (s.first + s.blocks ≤ usable_blocks d.sectors)
part at d s e =
    let a = and_parts (s.dev == at) _ e in
    let b = and_parts (s.first == first_block at) (nat_lt 0 s.blocks && nat_le (s.first + s.blocks) (usable_blocks d.sectors)) a.1 in
    let c = and_parts (nat_lt 0 s.blocks) (nat_le (s.first + s.blocks) (usable_blocks d.sectors)) b.1 in
    (eq_of s.first (first_block at) b.0, le_of (s.first + s.blocks) (usable_blocks d.sectors) c.1)

none_of : (segs : List Segment) → segs ≡ [] → length (blocks_of segs) ≡ 0
none_of segs e = ap (λ (l : List Segment). length (blocks_of l)) e

fits : (at : ℕ) (segs : List Segment) (rows : List DevRow) → take_in_order at segs rows ≡ true → length (blocks_of segs) ≤ all_of rows
fits at [] rows taken = omega arith
fits at (s ∷ ss) [] taken = absurd cc
fits at (s ∷ ss) (d ∷ ds) taken = by d.tier taken (λ rest. fits (at + 1) ss ds rest) (λ rest. fits (at + 1) (s ∷ ss) ds rest)
  where
    by : (t : Tier) → take_in_order at (s ∷ ss) (record d { tier = t } ∷ ds) ≡ true → (take_in_order (at + 1) ss ds ≡ true → length (blocks_of ss) ≤ all_of ds)
        → (take_in_order (at + 1) (s ∷ ss) ds ≡ true → length (blocks_of (s ∷ ss)) ≤ all_of ds) → length (blocks_of (s ∷ ss)) ≤ all_of (record d { tier = t } ∷ ds)
    by DataTier e later pass =
        let both = and_parts (is_part at d s) (((length ss == 0) || ends_device d s) && take_in_order (at + 1) ss ds) e in
        let rest = and_parts ((length ss == 0) || ends_device d s) (take_in_order (at + 1) ss ds) both.1 in
        let own = part at d s both.0 in
        let more = later rest.1 in
        let size = count s ss in
        omega (arith, own.1, more, size)
    by CacheTier e later pass = pass e

pub allotted : (segs : List Segment) (rows : List DevRow) → begins_with_data rows ≡ true → take_in_order 0 segs rows ≡ true → length (blocks_of segs) ≤ room (sectors_in (data_tier rows))
allotted segs rows begins taken = let sum = total-is usable_blocks (sectors_in (data_tier rows)) in let low = first segs rows begins taken in omega (arith, sum, low)
  where
    first : (segs : List Segment) (rows : List DevRow) → begins_with_data rows ≡ true → take_in_order 0 segs rows ≡ true → length (blocks_of segs) ≤ all_of rows - 26
    first [] rows b t = omega arith
    first (s ∷ ss) [] b t = absurd cc
    first (s ∷ ss) (d ∷ ds) b t = by d.tier b t
      where
        by : (k : Tier) → begins_with_data (record d { tier = k } ∷ ds) ≡ true → take_in_order 0 (s ∷ ss) (record d { tier = k } ∷ ds) ≡ true → length (blocks_of (s ∷ ss)) ≤ all_of (record d { tier = k } ∷ ds) - 26
        by DataTier b e =
            let both = and_parts (is_part 0 d s) (((length ss == 0) || ends_device d s) && take_in_order 1 ss ds) e in
            let rest = and_parts ((length ss == 0) || ends_device d s) (take_in_order 1 ss ds) both.1 in
            let own = part 0 d s both.0 in
            let more = fits 1 ss ds rest.1 in
            let size = count s ss in
            omega (arith, own.0, own.1, more, size)
        by CacheTier b e = absurd cc
