use Rattle.std.proofs.Common.{arith}
use Rattle.test_table.proofs.Three.{none_below}
use Rattle.test_table.proofs.filesystems.three.Goals as goal

pub insert-requires : goal.insert-requires
insert-requires c = none_below c.make-table.result _ c.make-table.ensures

pub insert-requires-2 : goal.insert-requires-2
insert-requires-2 c = c.in_ok-insert.ensures c.in_ok-middle.middle.serial (omega (arith, c.in_ok-oldest.ensures, c.in_ok-middle.ensures))

pub insert-requires-3 : goal.insert-requires-3
insert-requires-3 c = c.in_ok-insert-2.ensures c.in_ok-youngest.youngest.serial (omega (arith, c.in_ok-middle.ensures, c.in_ok-youngest.ensures))
