use Rattle.std.proofs.Common.{◌≡◌, ◌++◌, drop, map, is_none}
use Rattle.std.specs.Prelude.{filter}
use Rattle.st_table.specs.declared.device.Device.{Device}
use Rattle.st_table.specs.inner.Sound.{path_in}
use Rattle.st_table.proofs.roster.unmarked.Given as goal

abbrev pub invariant-loop-device : goal.invariant-loop-device
invariant-loop-device l = l.list ++ map path_in (filter (λ (device : Device). is_none device.user) (drop l.device-index l.devices)) ≡ map path_in (filter (λ (device : Device). is_none device.user) l.devices)
