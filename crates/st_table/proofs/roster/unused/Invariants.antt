use Rattle.std.proofs.Common.{◌≡◌, ◌++◌, drop, map, None}
use Rattle.std.specs.List.{AllByRecursion}
use Rattle.st_table.specs.declared.device.Device.{Device}
use Rattle.st_table.specs.inner.Sound.{row_in}
use Rattle.st_table.proofs.roster.unused.Given as goal

abbrev pub invariant-loop-row : goal.invariant-loop-row
invariant-loop-row l = record {
  rows : map row_in l.devices.items ++ drop l.row-index l.rows ≡ l.rows;
  unused : AllByRecursion (λ (device : Device). device.user ≡ None) l.devices.items;
}
