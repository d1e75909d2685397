use Rattle.std.proofs.Common.{length, ◌-◌}
use Rattle.st_lines.proofs.Progress.{PutSoFar}
use Rattle.st_lines.proofs.put.put_all.Given as goal

abbrev pub invariant-loop-done : goal.invariant-loop-done
invariant-loop-done g l = PutSoFar g.K.Sink.held g.K.Sink.faults l.fn.sink l.sink l.bytes l.done

abbrev pub decreases-loop-done : goal.decreases-loop-done
decreases-loop-done g l = length l.bytes - l.done
