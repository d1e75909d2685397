use Rattle.std.proofs.Common.{◌≡◌, take}
use Rattle.sim_devices.specs.Devices.{AreOurs, the_devices}
use Rattle.sim_devices.proofs.devices.Given as goal

abbrev pub invariant-loop-i : goal.invariant-loop-i
invariant-loop-i l = AreOurs l.list.items × (l.list.items ≡ take l.i the_devices)
