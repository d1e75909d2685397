use Rattle.std.proofs.Common.{◌≡◌, ℕ, ◌+◌, ◌≤◌, ◌++◌, List, Option}
use Rattle.st_lines.specs.Printing.{Printing}
use Rattle.st_check.proofs.Verdicts.{text_from, oks_from}
use Rattle.st_check.proofs.check.print_verdicts.Given as goal

abbrev pub invariant-loop-i : goal.invariant-loop-i
invariant-loop-i g l =
    ((before : Option (List ℕ)) (rest whole : List ℕ) → Printing before (g.K.Sink.held l.fn.sink) l.fn.outlet (text_from l.lanes l.lines 0 ++ rest) whole
    → Printing before (g.K.Sink.held l.sink) l.outlet (text_from l.lanes l.lines l.i ++ rest) whole)
    × (l.oks + oks_from l.lanes l.lines l.i ≡ oks_from l.lanes l.lines 0)
    × (l.oks ≤ l.i)
    × (g.K.Sink.faults l.fn.sink ≤ g.K.Sink.faults l.sink)
