use Rattle.std.proofs.Common.{◌≡◌, length}
use Rattle.st_laning.specs.inner.Going.{IsGoing}
use Rattle.st_laning.specs.inner.Running.{AreAnswers}
use Rattle.st_running.specs.Calls.{runs}
use Rattle.st_laning.proofs.lines.run_lines.Given as goal

abbrev pub invariant-loop-i : goal.invariant-loop-i
invariant-loop-i g l =
    IsGoing runs l.lanes l.lines l.fn.home l.i l.home
    × AreAnswers runs l.lanes l.lines l.home.log l.answers
    × (length l.answers ≡ l.i)
