use Rattle.std.proofs.Common.{◌≡◌, ◌+◌, ◌-◌, ◌≤◌, ◌++◌, take, drop, vec_len, vec_capacity}
use Rattle.st_rack.specs.Calls.{names}
use Rattle.st_shelf.proofs.Leave.{keep, out}
use Rattle.st_shelf.proofs.shelf.take_out.Given as goal

abbrev pub invariant-loop-i : goal.invariant-loop-i
invariant-loop-i g l = record {
  stay : take l.i l.devices.items ++ keep g.D.Device.path_of (names l.fn.list) (drop l.i l.devices.items) ≡ keep g.D.Device.path_of (names l.fn.list) l.fn.devices.items;
  go : l.part.items ++ out g.D.Device.path_of (names l.fn.list) (drop l.i l.devices.items) ≡ out g.D.Device.path_of (names l.fn.list) l.fn.devices.items;
  capacity : vec_capacity l.fn.devices ≤ vec_capacity l.devices;
  room : vec_len l.devices + vec_len l.part ≤ vec_capacity l.part;
  count : vec_len l.devices + vec_len l.part ≡ vec_len l.fn.devices;
  within : l.i ≤ vec_len l.devices;
}

abbrev pub decreases-loop-i : goal.decreases-loop-i
decreases-loop-i g l = vec_len l.devices - l.i
