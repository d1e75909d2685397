use Rattle.std.proofs.Common.{◌≡◌, ◌-◌, ◌≤◌, length, take}
use Rattle.st_rack.specs.Device.{cells}
use Rattle.st_blocks.specs.Blocks.{content_of}
use Rattle.st_blocks.proofs.blocks.Blocks.read.Given as goal

abbrev pub invariant-loop-done : goal.invariant-loop-done
invariant-loop-done l = record {
  within : l.done ≤ length l.buf;
  len : length l.buf ≡ length l.fn.buf;
  front : take l.done l.buf ≡ cells (content_of l.fn.self) l.fn.at l.done;
}

abbrev pub decreases-loop-done : goal.decreases-loop-done
decreases-loop-done l = length l.initial.buf - l.done
