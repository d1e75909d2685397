use Rattle.std.proofs.Common.{◌+◌, ◌≤◌, length, vec_len, vec_capacity}
use Rattle.st_sparse.specs.Sparse.{sparse_path, sparse_size, sparse_state, sparse_reads}
use Rattle.std.specs.List.{AllByRecursion}
use Rattle.st_memrack.specs.Blank.{Filled, IsUnarmed}
use Rattle.st_memrack.proofs.memrack.blank_devices.Given as goal

abbrev pub invariant-loop-left : goal.invariant-loop-left
invariant-loop-left l = record {
  filled : Filled sparse_path sparse_size sparse_state sparse_reads l.devs l.left l.devices.items;
  unarmed : AllByRecursion IsUnarmed l.devices.items;
  within : l.left ≤ length l.devs;
  room : vec_len l.devices + l.left ≤ vec_capacity l.devices;
}

abbrev pub decreases-loop-left : goal.decreases-loop-left
decreases-loop-left l = l.left
