use Rattle.std.proofs.Common.{◌≡◌, ◌+◌, length}
use Rattle.st_book.proofs.ready.let_go.Given as goal

abbrev pub invariant-loop : goal.invariant-loop
invariant-loop g l = length l.spares.items + l.counter ≡ length l.initial.spares.items
