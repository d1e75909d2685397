use Rattle.std.proofs.Common.{◌≡◌, true, take}
use Rattle.std.specs.List.{list_all}
use Rattle.st_waking.specs.Readies.{fits_in}
use Rattle.st_waking.proofs.sizes.all_fit.Given as goal

abbrev pub invariant-loop-index : goal.invariant-loop-index
invariant-loop-index g l = record {
  fit : list_all (fits_in l.table.devices) (take l.index (g.R.Rack.devs l.rack)) ≡ true;
}
