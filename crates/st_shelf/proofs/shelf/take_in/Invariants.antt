use Rattle.std.proofs.Common.{◌≡◌, ◌+◌, ◌≤◌, vec_len, vec_capacity}
use Rattle.st_shelf.specs.Shelf.{join_in}
use Rattle.st_shelf.proofs.shelf.take_in.Given as goal

abbrev pub invariant-loop-device : goal.invariant-loop-device
invariant-loop-device g l = record {
  items : join_in g.D.Device.path_of l.devices.items l.others.items ≡ join_in g.D.Device.path_of l.fn.devices.items l.fn.others.items;
  len : vec_len l.devices + vec_len l.others ≡ vec_len l.fn.devices + vec_len l.fn.others;
  room : vec_len l.devices + vec_len l.others ≤ vec_capacity l.devices;
  capacity : vec_capacity l.fn.devices ≤ vec_capacity l.devices;
}

abbrev pub decreases-loop-device : goal.decreases-loop-device
decreases-loop-device g l = vec_len l.others
