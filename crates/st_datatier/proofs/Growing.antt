-- what the calls of a tier make of its blocks
use Rattle.std.proofs.Common.{◌≡◌, ℕ, ◌+◌, ◌-◌, ◌<◌, ◌≤◌, List, [], ◌∷◌, ◌++◌, map, length, get_or, take, sym, subst, ap, ◌∙◌, arith}
use Rattle.std.specs.List.{All}
use Rattle.std.proofs.lemmas.List.{append_assoc, length-append, length-map, get_or-map, map_more, length-take-le}
use Rattle.st_units.specs.declared.rows.DevRow.{DevRow}
use Rattle.st_seg.specs.Blocks.{Block, NoneTwice, blocks_from}
use Rattle.st_seg.specs.Stock.{Stock, added}
use Rattle.st_limits.specs.Sums.{IsDeviceSize, usable_blocks, room}
use Rattle.st_datatier.specs.Tier.{Tier, data_blocks, free_of, first_block_of, sectors_of}
use Rattle.st_datatier.proofs.Devices.{data_apart, data_blocks-push, length-data_blocks}

-- the blocks of one more device
pub blocks_pushed : (sectors : List ℕ) (size : ℕ) (blocks : List Block) (dev first n : ℕ) → All IsDeviceSize sectors → blocks ≡ data_blocks sectors → dev ≡ length sectors → first ≡ first_block_of dev → n ≡ usable_blocks size → blocks ++ blocks_from dev first (n - first) ≡ data_blocks (sectors ++ size ∷ [])
blocks_pushed sectors size blocks dev first n h is dev_is first_is n_is =
    ap (λ bs. bs ++ blocks_from dev first (n - first)) is
    ∙ (ap (λ m. data_blocks sectors ++ blocks_from dev first (m - first)) n_is
    ∙ (ap (λ k. data_blocks sectors ++ blocks_from dev k (usable_blocks size - k)) first_is
    ∙ (ap (λ m. data_blocks sectors ++ blocks_from m (first_block_of m) (usable_blocks size - first_block_of m)) dev_is
    ∙ sym (data_blocks-push sectors size h))))

pub pushed_apart : (sectors : List ℕ) (size : ℕ) (blocks : List Block) → blocks ≡ data_blocks (sectors ++ size ∷ []) → NoneTwice blocks
pushed_apart sectors size blocks is = subst NoneTwice (sym is) (data_apart (sectors ++ size ∷ []))

-- the rows, one by one
pub row_size : (rows : List DevRow) (i : ℕ) (row : DevRow) → i < length rows → row ≡ get_or rows i row → All IsDeviceSize (sectors_of rows) → IsDeviceSize row.sectors
row_size rows i row h is g =
    let there : IsDeviceSize (get_or rows i row).sectors = subst IsDeviceSize (get_or-map (λ (row : DevRow). row.sectors) rows i row 0 h) (g i 0 (omega (arith, length-map rows (λ (row : DevRow). row.sectors)))) in
    subst (λ (r : DevRow). IsDeviceSize r.sectors) (sym is) there

pub one_more_row : (before now : List ℕ) (rows : List DevRow) (i : ℕ) (row : DevRow) → i < length rows → row ≡ get_or rows i row → now ≡ before ++ sectors_of (take i rows) → now ++ row.sectors ∷ [] ≡ before ++ sectors_of (take (i + 1) rows)
one_more_row before now rows i row h is so_far =
    let f : DevRow → ℕ = λ row. row.sectors in
    ap (λ xs. xs ++ row.sectors ∷ []) so_far
    ∙ (append_assoc before (map f (take i rows)) (row.sectors ∷ [])
    ∙ (ap (λ (r : DevRow). before ++ (map f (take i rows) ++ r.sectors ∷ [])) is
    ∙ ap (λ xs. before ++ xs) (sym (map_more f rows i row h))))

-- what is in use and what is free are the room
pub tier_room : (sectors : List ℕ) (stock : Stock) (table : List Block) (tier : Tier) → record { sectors = sectors; allocated = length table } ≡ tier → stock.taken ≡ table → added stock ≡ data_blocks sectors → tier.allocated + length stock.free ≡ room tier.sectors
tier_room sectors stock table tier is taken_is added_is =
    let sectors_is : sectors ≡ tier.sectors = ap (λ (t : Tier). t.sectors) is in
    let allocated_is : length table ≡ tier.allocated = ap (λ (t : Tier). t.allocated) is in
    let all : length stock.taken + length stock.free ≡ room sectors = sym (length-append stock.taken stock.free) ∙ (ap length added_is ∙ length-data_blocks sectors) in
    omega (arith, all, ap length taken_is, ap room sectors_is)

pub tier_free : (sectors : List ℕ) (stock : Stock) (table : List Block) (tier : Tier) → record { sectors = sectors; allocated = length table } ≡ tier → stock.taken ≡ table → added stock ≡ data_blocks sectors → free_of tier ≡ length stock.free
tier_free sectors stock table tier is taken_is added_is = omega (arith, tier_room sectors stock table tier is taken_is added_is)

pub few_left : (before now : List ℕ) (rows : List DevRow) (i : ℕ) → i < length rows → length before + length rows ≤ 16 → now ≡ before ++ sectors_of (take i rows) → length now < 16
few_left before now rows i h few so_far =
    omega (arith, ap length so_far, length-append before (sectors_of (take i rows)), length-map (take i rows) (λ (row : DevRow). row.sectors), length-take-le i rows (omega arith))
