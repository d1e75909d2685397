use Rattle.std.proofs.Common.{◌≡◌, ◌-◌, ◌≤◌, ℕ, length, take}
use Rattle.st_rack.specs.Story.{put_in}
use Rattle.st_blocks.specs.Blocks.{content_of, count_of}
use Rattle.st_blocks.proofs.blocks.Blocks.write.Given as goal

abbrev pub invariant-loop-done : goal.invariant-loop-done
invariant-loop-done l = record {
  within : l.done ≤ length l.bytes;
  bytes : (i : ℕ) → content_of l.self i ≡ put_in l.fn.at (take l.done l.fn.bytes) (content_of l.fn.self) i;
  count : count_of l.self ≡ count_of l.fn.self;
}

abbrev pub decreases-loop-done : goal.decreases-loop-done
decreases-loop-done l = length l.bytes - l.done
