use Rattle.std.proofs.Common.{◌≡◌, ◌≤◌, ◌<◌, ◌-◌, ℕ, length, get_or, true}
use Rattle.st_shelf.specs.Shelf.{comes_before}
use Rattle.st_shelf.proofs.shelf.place_for.Given as goal

abbrev pub invariant-loop-place : goal.invariant-loop-place
invariant-loop-place g l = record {
  within : l.place ≤ length l.devices;
  before : (k : ℕ) (d : _) → k < l.place → comes_before (g.D.Device.path_of (get_or l.devices k d)) l.dev ≡ true;
}

abbrev pub decreases-loop-place : goal.decreases-loop-place
decreases-loop-place g l = length l.devices - l.place
