use Rattle.std.proofs.Common.{◌≡◌, ◌++◌, drop}
use Rattle.st_table.proofs.roster.copy_devices.Given as goal

abbrev pub invariant-loop-device : goal.invariant-loop-device
invariant-loop-device l = l.copy.items ++ drop l.device-index l.devices ≡ l.devices
