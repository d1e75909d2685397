use Rattle.std.proofs.Common.{◌≡◌, ◌+◌, ◌-◌, ◌^◌, min, option_map, take}
use Rattle.std.specs.List.{sum_by}
use Rattle.st_book.specs.View.{or_zero}
use Rattle.st_book.proofs.lent.faults_of.Given as goal

abbrev pub invariant-loop-cell : goal.invariant-loop-cell
invariant-loop-cell g l = l.sum ≡ min (or_zero (option_map g.T.Board.fault_count l.table) + sum_by g.C.Cell.fault_count (take l.cell-index l.cells)) (2 ^ 64 - 1)
