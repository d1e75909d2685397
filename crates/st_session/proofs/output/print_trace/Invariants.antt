use Rattle.std.proofs.Common.{ℕ, ◌≤◌, ◌++◌, List, Option, drop}
use Rattle.st_session.specs.Out.{trace_of}
use Rattle.st_lines.specs.Printing.{Printing}
use Rattle.st_session.proofs.output.print_trace.Given as goal

abbrev pub invariant-loop-event : goal.invariant-loop-event
invariant-loop-event g l =
    ((before : Option (List ℕ)) (rest whole : List ℕ) → Printing before (g.K.Sink.held l.fn.sink) l.fn.outlet (trace_of l.events ++ rest) whole
    → Printing before (g.K.Sink.held l.sink) l.outlet (trace_of (drop l.event-index l.events) ++ rest) whole)
    × (g.K.Sink.faults l.fn.sink ≤ g.K.Sink.faults l.sink)
