use Rattle.std.proofs.Common.{ℕ, List, ◌∙◌, subst}
use Rattle.st_lines.specs.Printing.{Stops}
use Rattle.st_lines.proofs.Printed.{on_err}
use Rattle.st_check.proofs.summary.print_summary.Goals as goal

pub returns-in_err-print-clause-stops : goal.returns-in_err-print-clause-stops
returns-in_err-print-clause-stops g c =
    on_err _ _ (subst (λ (t : List ℕ). Stops (g.K.Sink.held c.args.sink.now) c.args.outlet.now (g.K.Sink.held c.print.new.sink) t) (c.items.ensures ∙ c.in_ok-text.ensures) c.in_err-print.ensures.stops)
