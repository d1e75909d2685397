use Rattle.std.proofs.Common.{◌≡◌, ◌≤◌, ◌+◌, ◌*◌, ◌^◌, drop, fold}
use Rattle.std.specs.List.{AllByRecursion, sum_by}
use Rattle.st_units.specs.declared.rows.DevRow.{DevRow}
use Rattle.st_limits.specs.Sums.{usable_blocks}
use Rattle.st_model.specs.Sums.{cache_rows, sectors_in}
use Rattle.st_told.proofs.telling.cache_capacity.Given as goal

-- the blocks so far, with those of the rest, make the whole; and they are few
abbrev pub invariant-loop-row : goal.invariant-loop-row
invariant-loop-row l =
    (fold (λ a n. a + usable_blocks n) l.blocks (sectors_in (cache_rows (drop l.row-index l.rows))) ≡ sum_by usable_blocks (sectors_in (cache_rows l.rows)))
    × (l.blocks ≤ l.row-index * 2 ^ 32)
    × AllByRecursion (λ (row : DevRow). row.sectors ≤ 2 ^ 32) (drop l.row-index l.rows)
