use Rattle.std.proofs.Common.{◌≡◌, ◌≤◌, ◌+◌, nat_eq, cond, drop, fold, map, is_none}
use Rattle.std.specs.Map.{lookup}
use Rattle.st_limits.specs.Sums.{more}
use Rattle.st_model.specs.Content.{Stretch}
use Rattle.st_writing.proofs.cells.more.Given as goal

-- how many there were, with those of the rest, make the whole; and they are few
abbrev pub invariant-loop-stretch : goal.invariant-loop-stretch
invariant-loop-stretch l =
    (fold (λ a block. a + cond (is_none (lookup (nat_eq block) l.mapped)) 1 0) l.count (map (λ (s : Stretch). s.block) (drop l.stretch-index l.stretches)) ≡ more l.mapped (map (λ (s : Stretch). s.block) l.stretches))
    × (l.count ≤ l.stretch-index)
