use Rattle.std.proofs.Common.{◌≡◌, ◌++◌, drop}
use Rattle.st_units.proofs.list.ItemList.copy.Given as goal

-- what was copied, and what is left, make the whole
abbrev pub invariant-loop-item : goal.invariant-loop-item
invariant-loop-item g l = l.list ++ drop l.item-index l.items ≡ l.items
