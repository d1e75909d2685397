use Rattle.std.proofs.Common.{◌≡◌, ◌++◌}
use Rattle.std.specs.List.Sorted.{IsStrictlySortedBy}
use Rattle.std.specs.Map.{keys_of}
use Rattle.std.specs.Ordering.{nat_cmp}
use Rattle.st_model.proofs.number_map.NumberMap+Bytes.copy.Given as goal

abbrev pub invariant-loop-number : goal.invariant-loop-number
invariant-loop-number l = IsStrictlySortedBy nat_cmp (keys_of (l.copy ++ l.number-iterator)) × (l.copy ++ l.number-iterator ≡ l.self)
