use Rattle.std.proofs.Common.{◌≡◌, ◌∷◌, ◌++◌, drop}
use Rattle.st_limits.specs.Cache.{without}
use Rattle.st_sectors.proofs.cache.in_front.Given as goal

abbrev pub invariant-loop-other : goal.invariant-loop-other
invariant-loop-other l = l.list ++ without l.cell (drop l.other-index l.cells) ≡ l.cell ∷ without l.cell l.cells
