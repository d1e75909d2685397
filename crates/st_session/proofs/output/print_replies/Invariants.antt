use Rattle.std.proofs.Common.{◌≡◌, ℕ, ◌+◌, ◌≤◌, ◌++◌, List, Option, drop}
use Rattle.st_lines.specs.Printing.{Printing}
use Rattle.st_session.specs.inner.Printing.{AreShown, shown_from, shown_oks}
use Rattle.st_session.proofs.output.print_replies.Given as goal

abbrev pub invariant-loop-answer : goal.invariant-loop-answer
invariant-loop-answer g l =
    ((before : Option (List ℕ)) (rest whole : List ℕ) → Printing before (g.K.Sink.held l.fn.sink) l.fn.outlet (shown_from 1 l.log.items l.answers ++ rest) whole
    → Printing before (g.K.Sink.held l.sink) l.outlet (shown_from l.number l.log.items (drop l.answer-index l.answers) ++ rest) whole)
    × AreShown l.number l.log.items (drop l.answer-index l.answers)
    × (l.oks + shown_oks l.number l.log.items (drop l.answer-index l.answers) ≡ shown_oks 1 l.log.items l.answers)
    × (l.oks ≤ l.answer-index)
    × (l.number ≡ l.answer-index + 1)
    × (g.K.Sink.faults l.fn.sink ≤ g.K.Sink.faults l.sink)
