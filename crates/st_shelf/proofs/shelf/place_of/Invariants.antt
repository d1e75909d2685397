use Rattle.std.proofs.Common.{◌≡◌, ◌≤◌, ◌<◌, ◌-◌, ℕ, length, get_or, true, false}
use Rattle.st_shelf.specs.Shelf.{comes_before}
use Rattle.st_shelf.proofs.shelf.place_of.Given as goal

abbrev pub invariant-loop-low : goal.invariant-loop-low
invariant-loop-low g l = record {
  order : l.low ≤ l.high;
  within : l.high ≤ length l.devices;
  before : (k : ℕ) (d : _) → k < l.low → comes_before (g.D.Device.path_of (get_or l.devices k d)) l.dev ≡ true;
  after : (k : ℕ) (d : _) → l.high ≤ k → k < length l.devices → comes_before (g.D.Device.path_of (get_or l.devices k d)) l.dev ≡ false;
}

abbrev pub decreases-loop-low : goal.decreases-loop-low
decreases-loop-low g l = l.high - l.low
