use Rattle.std.proofs.Common.{◌≡◌, ℕ, ◌+◌, List, ◌++◌, ◌∙◌, drop, sym, ap, subst, append_assoc}
use Rattle.std.proofs.lemmas.List.{at_drop_more}
use Rattle.st_history.specs.declared.log.Event.{Event}
use Rattle.st_trace.specs.Traced.{trace_line}
use Rattle.st_session.specs.Out.{trace_of}
use Rattle.st_lines.specs.Printing.{Stops}
use Rattle.st_lines.proofs.Printed.{on_err, printing_as, printing-Started}
use Rattle.st_session.proofs.output.print_trace.Goals as goal

pub returns-in_err-text-clause-stops : goal.returns-in_err-text-clause-stops
returns-in_err-text-clause-stops g c =
    let stops : Stops (g.K.Sink.held c.args.sink.now) c.args.outlet.now (g.K.Sink.held c.loop-event.sink) (trace_of c.args.events.now)
    = λ before rest whole h. printing-Started before _ _ _ whole (c.loop-event.invariant.0 before rest whole h) in
    on_err _ _ stops

pub returns-in_err-print-clause-stops : goal.returns-in_err-print-clause-stops
returns-in_err-print-clause-stops g c =
    let more = at_drop_more trace_of c.args.events.now c.loop-event.event-index c.event-item.result c.loop-event-test.true in
    let left : List ℕ = trace_of (drop (c.loop-event.event-index + 1) c.args.events.now) in
    let split : trace_of (drop c.loop-event.event-index c.args.events.now) ≡ trace_line c.event-item.result ++ left
    = subst (λ (e : Event). trace_of (drop c.loop-event.event-index c.args.events.now) ≡ trace_line e ++ left) (sym c.event-item.is) more in
    let text : c.items.result.now ≡ trace_line c.event-item.result = c.items.ensures ∙ c.in_ok-text.ensures in
    let stops : Stops (g.K.Sink.held c.args.sink.now) c.args.outlet.now (g.K.Sink.held c.print.new.sink) (trace_of c.args.events.now) = λ before rest whole h.
    c.in_err-print.ensures.stops before (left ++ rest) whole
    (printing_as before _ _ _ _ whole (ap (λ t. t ++ rest) (split ∙ ap (λ t. t ++ left) (sym text)) ∙ append_assoc c.items.result.now left rest) (c.loop-event.invariant.0 before rest whole h)) in
    on_err _ _ stops
