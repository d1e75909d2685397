use Rattle.std.proofs.Common.{◌≡◌, vec_len, vec_capacity}
use Rattle.st_memrack.specs.Ends.{CycleEnds}
use Rattle.st_memrack.proofs.Zip.{UpTo}
use Rattle.st_memrack.proofs.one_device.cycle_all.Given as goal

abbrev pub invariant-loop-i : goal.invariant-loop-i
invariant-loop-i l = UpTo (CycleEnds l.fn.pick) l.i l.fn.devices.items l.devices.items × (vec_len l.devices ≡ vec_len l.fn.devices) × (vec_capacity l.devices ≡ vec_capacity l.fn.devices)
