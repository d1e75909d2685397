-- The blocks of a tier's devices, and how many they are.
use Rattle.std.proofs.Common.{◌≡◌, ℕ, ◌+◌, ◌<◌, ◌≤◌, List, [], ◌∷◌, ◌++◌, length, get_or, take, sym, ◌∙◌, ap, arith}
use Rattle.std.specs.List.{sum_by}
use Rattle.std.proofs.lemmas.List.{length-map, length-take, map_more}
use Rattle.std.proofs.lemmas.List.Sums.{sum_by-append, sum_by-cons}
use Rattle.st_units.specs.declared.rows.DevRow.{DevRow}
use Rattle.st_units.specs.declared.rows.Segment.{Segment}
use Rattle.st_limits.specs.Sums.{IsDeviceSize, usable_blocks}
use Rattle.st_seg.specs.Blocks.{blocks_in, blocks_of, blocks_from}
use Rattle.st_seg.proofs.Adding.{blocks_of-push}
use Rattle.st_linear.specs.Devices.{blocks_of_devices}
use Rattle.st_linear.proofs.Devices.{devices-push}
use Rattle.st_cachetier.specs.Tier.{AreCacheRows, capacity_of, row_blocks, sectors_of}

pub row_size : (rows : List DevRow) (i : ℕ) (row : DevRow) → AreCacheRows rows → i < length rows → row ≡ get_or rows i row → (62 ≤ usable_blocks row.sectors) × (usable_blocks row.sectors ≤ 33554432)
row_size rows i row sound lt is =
    let size : IsDeviceSize (get_or rows i row).sectors = sound.sizes i row lt in
    let same : row.sectors ≡ (get_or rows i row).sectors = ap (λ (r : DevRow). r.sectors) is in
    (omega (arith, size.0, same), omega (arith, size.1, same))

pub one_more_sum : (rows : List DevRow) (i : ℕ) (row : DevRow) → i < length rows → row ≡ get_or rows i row → capacity_of (take (i + 1) rows) ≡ capacity_of (take i rows) + usable_blocks row.sectors
one_more_sum rows i row lt is =
    let last : ℕ = (get_or rows i row).sectors in
    ap (sum_by usable_blocks) (map_more (λ (r : DevRow). r.sectors) rows i row lt)
    ∙ sum_by-append usable_blocks (sectors_of (take i rows)) (last ∷ [])
    ∙ ap (λ (n : ℕ). capacity_of (take i rows) + n) (sum_by-cons usable_blocks last [] ∙ (let none : usable_blocks last + sum_by usable_blocks [] ≡ usable_blocks last = omega arith in none))
    ∙ ap (λ (r : DevRow). capacity_of (take i rows) + usable_blocks r.sectors) (sym is)

pub one_more_block : (rows : List DevRow) (i : ℕ) (row : DevRow) (segs : List Segment) (s : Segment) → i < length rows → row ≡ get_or rows i row → s ≡ record { dev = i; first = 0; blocks = usable_blocks row.sectors }
    → blocks_of segs ≡ row_blocks (take i rows) → blocks_of (segs ++ s ∷ []) ≡ row_blocks (take (i + 1) rows)
one_more_block rows i row segs s lt is s_is so_far =
    let last : ℕ = (get_or rows i row).sectors in
    let number : i ≡ 0 + length (sectors_of (take i rows)) = omega (arith, length-map (take i rows) (λ (r : DevRow). r.sectors), length-take i rows) in
    let own : blocks_in s ≡ blocks_from (0 + length (sectors_of (take i rows))) 0 (usable_blocks last) =
    ap blocks_in s_is ∙ (λ k. blocks_from (number k) 0 (usable_blocks ((is k).sectors))) in
    blocks_of-push segs s
    ∙ (λ k. so_far k ++ own k)
    ∙ sym (devices-push (sectors_of (take i rows)) 0 last)
    ∙ ap (blocks_of_devices 0) (sym (map_more (λ (r : DevRow). r.sectors) rows i row lt))
