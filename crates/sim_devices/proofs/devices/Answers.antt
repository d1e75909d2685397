use Rattle.std.proofs.Common.{refl}
use Rattle.sim_devices.proofs.Ours.{ours_none}
use Rattle.sim_devices.proofs.devices.Goals as goal

pub loop-i-init : goal.loop-i-init
loop-i-init c = rw c.new-list.ensures.items (ours_none, refl)
