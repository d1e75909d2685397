use Rattle.std.proofs.Common.{◌≡◌, ◌+◌, ◌-◌, ◌<◌, ◌≤◌, length, get_or}
use Rattle.st_thinmap.specs.declared.uses.Use.{Use}
use Rattle.st_thinmap.specs.inner.Rank.{rank}
use Rattle.st_thinmap.specs.inner.Uses.{place}
use Rattle.st_thinmap.proofs.uses.gap.Given as goal

abbrev pub invariant-loop-low : goal.invariant-loop-low
invariant-loop-low l = record {
  from : l.from ≤ l.low;
  order : l.low ≤ l.high;
  most : l.high ≤ length l.uses + l.taken;
  rank : rank place l.low l.uses ≡ l.low - l.taken;
  high : (d : Use) → l.high - l.taken < length l.uses → l.high < (get_or l.uses (l.high - l.taken) d).place;
}

abbrev pub decreases-loop-low : goal.decreases-loop-low
decreases-loop-low l = l.high - l.low
