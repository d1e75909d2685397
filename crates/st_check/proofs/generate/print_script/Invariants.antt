use Rattle.std.proofs.Common.{◌≡◌, ℕ, ◌-◌, ◌≤◌, ◌++◌, List, Option}
use Rattle.st_lines.specs.Printing.{Printing}
use Rattle.st_gen.specs.Script.{number_before}
use Rattle.st_gen.specs.declared.line.TheConstants.{GEN_LINES}
use Rattle.st_gen.proofs.Numbers.{lines_from}
use Rattle.st_check.proofs.generate.print_script.Given as goal

abbrev pub invariant-loop-i : goal.invariant-loop-i
invariant-loop-i g l =
    ((before : Option (List ℕ)) (rest whole : List ℕ) → Printing before (g.K.Sink.held l.fn.sink) l.fn.outlet (lines_from l.lanes l.number 0 GEN_LINES ++ rest) whole
    → Printing before (g.K.Sink.held l.sink) l.outlet (lines_from l.lanes l.number l.i (GEN_LINES - l.i) ++ rest) whole)
    × (l.x ≡ number_before l.lanes l.number l.i)
    × (g.K.Sink.faults l.fn.sink ≤ g.K.Sink.faults l.sink)
