use Rattle.std.proofs.Common.{◌≡◌, ◌≤◌, ◌+◌, cond, drop, fold, map}
use Rattle.st_limits.specs.Sums.{needed, takes_cell}
use Rattle.st_model.specs.Content.{Stretch}
use Rattle.st_writing.proofs.cells.needed.Given as goal

-- how many there were, with those of the rest, make the whole; and they are few
abbrev pub invariant-loop-stretch : goal.invariant-loop-stretch
invariant-loop-stretch l =
    (fold (λ a block. a + cond (takes_cell l.mapped l.cells block) 1 0) l.count (map (λ (s : Stretch). s.block) (drop l.stretch-index l.stretches)) ≡ needed l.mapped l.cells (map (λ (s : Stretch). s.block) l.stretches))
    × (l.count ≤ l.stretch-index)
