use Rattle.std.proofs.Common.{◌≡◌, ◌+◌, length, take}
use Rattle.st_seg.specs.Blocks.{blocks_of}
use Rattle.st_linear.specs.Runs.{AreRuns, blocks_of_runs}
use Rattle.st_linear.proofs.table.runs_from.Given as goal

abbrev pub invariant-loop-segment : goal.invariant-loop-segment
invariant-loop-segment l = record {
  runs : AreRuns l.start l.runs.items;
  blocks : blocks_of_runs l.runs.items ≡ blocks_of (take l.segment-index l.segments);
  next : l.next ≡ l.start + length (blocks_of_runs l.runs.items);
}
