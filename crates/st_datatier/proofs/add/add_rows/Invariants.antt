use Rattle.std.proofs.Common.{◌≡◌, ◌++◌, take}
use Rattle.std.specs.List.{All}
use Rattle.st_seg.specs.Stock.{added}
use Rattle.st_limits.specs.Sums.{IsDeviceSize}
use Rattle.st_datatier.specs.Tier.{data_blocks, sectors_of}
use Rattle.st_datatier.proofs.add.add_rows.Given as goal

abbrev pub invariant-loop-row : goal.invariant-loop-row
invariant-loop-row l = record {
  sectors : l.sectors.items ≡ l.initial.sectors.items ++ sectors_of (take l.row-index l.rows);
  sizes : All IsDeviceSize l.sectors.items;
  blocks : added l.free ≡ data_blocks l.sectors.items;
  taken : l.free.taken ≡ l.initial.free.taken;
}
