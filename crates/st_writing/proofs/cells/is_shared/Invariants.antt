use Rattle.std.proofs.Common.{◌≡◌, ◌≤◌, ◌+◌, nat_eq, cond, drop, fold, count_by}
use Rattle.st_writing.proofs.cells.is_shared.Given as goal

-- how many there were, with those of the rest, make the whole; and they are few
abbrev pub invariant-loop-other : goal.invariant-loop-other
invariant-loop-other l = (fold (λ a x. a + cond (nat_eq l.cell x) 1 0) l.count (drop l.other-index l.cells) ≡ count_by (nat_eq l.cell) l.cells) × (l.count ≤ l.other-index)
