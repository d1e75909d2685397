use Rattle.std.proofs.Common.{◌+◌, ◌≤◌, length, vec_len, vec_capacity}
use Rattle.st_memrack.specs.Slab.{slab_path, slab_size, slab_state, slab_reads}
use Rattle.st_memrack.specs.Blank.{Filled}
use Rattle.st_memrack.proofs.nofault.blank_slabs.Given as goal

abbrev pub invariant-loop-left : goal.invariant-loop-left
invariant-loop-left l = record {
  filled : Filled slab_path slab_size slab_state slab_reads l.devs l.left l.slabs.items;
  within : l.left ≤ length l.devs;
  room : vec_len l.slabs + l.left ≤ vec_capacity l.slabs;
}

abbrev pub decreases-loop-left : goal.decreases-loop-left
decreases-loop-left l = l.left
