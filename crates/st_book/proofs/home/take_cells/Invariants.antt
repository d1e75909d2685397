use Rattle.std.proofs.Common.{◌≡◌, ◌+◌, ◌≤◌, length}
use Rattle.st_book.proofs.Sorting.{Sorted, Divided}
use Rattle.st_book.proofs.home.take_cells.Given as goal

abbrev pub invariant-loop : goal.invariant-loop
invariant-loop g l = record {
  counted : l.i + length l.part.items ≡ l.counter;
  places : 16 ≤ length l.cells.items + l.cells.room;
  part_places : 16 ≤ length l.part.items + l.part.room;
  sorted : Sorted g.C.Cell.state l.want l.initial.cells.items l.cells.items l.part.items l.i;
  divided : Divided g.C.Cell.is_kept g.C.Cell.fault_count l.initial.cells.items l.cells.items l.part.items;
}
