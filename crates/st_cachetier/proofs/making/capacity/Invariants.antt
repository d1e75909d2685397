use Rattle.std.proofs.Common.{◌≡◌, ◌*◌, ◌≤◌, take}
use Rattle.st_cachetier.specs.Tier.{capacity_of}
use Rattle.st_cachetier.proofs.making.capacity.Given as goal

abbrev pub invariant-loop-row : goal.invariant-loop-row
invariant-loop-row l = record {
  sum : l.sum ≡ capacity_of (take l.row-index l.rows);
  low : l.row-index ≤ l.sum;
  high : l.sum ≤ 33554432 * l.row-index;
}
