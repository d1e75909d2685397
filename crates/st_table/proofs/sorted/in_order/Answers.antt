use Rattle.std.proofs.Common.{refl}
use Rattle.st_model.specs.Look.{Text}
use Rattle.st_order.proofs.Order.{rising_none}
use Rattle.st_table.proofs.sorted.in_order.Goals as goal

pub loop-path-init : goal.loop-path-init
loop-path-init c = rw c.make-list.ensures (record { rising = rising_none (λ (t : Text). t); same = λ p. refl })
