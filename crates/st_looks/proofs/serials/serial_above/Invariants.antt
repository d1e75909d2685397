use Rattle.st_looks.proofs.Naming.{NextUpTo}
use Rattle.st_looks.proofs.serials.serial_above.Given as goal

abbrev pub invariant-loop-i : goal.invariant-loop-i
invariant-loop-i l = record {
  next : NextUpTo l.above l.looks l.i l.next;
}
