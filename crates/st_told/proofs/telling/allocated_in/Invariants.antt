use Rattle.std.proofs.Common.{◌≡◌, ◌*◌, ◌^◌, ◌≤◌, length, take}
use Rattle.st_seg.specs.Blocks.{blocks_of}
use Rattle.st_told.proofs.telling.allocated_in.Given as goal

abbrev pub invariant-loop-i : goal.invariant-loop-i
invariant-loop-i l = record {
  sum : l.sum ≡ length (blocks_of (take l.i l.segments));
  small : l.sum ≤ l.i * 2 ^ 32;
}
