use Rattle.std.proofs.Common.{◌≡◌, ℕ, List, [], ◌++◌, length, sym, ap, append-nil}
use Rattle.st_session.specs.Out.{trace_of, summary}
use Rattle.st_lines.specs.Printing.{Printing}
use Rattle.st_session.specs.inner.Printing.{shown_oks, whole}
use Rattle.st_lines.proofs.Printed.{on_err, printing_as, printing_start, printing_cut_end, printing_end}
use Rattle.st_session.proofs.output.write_out.Goals as goal

pub returns-in_err-oks-clause-prefix : goal.returns-in_err-oks-clause-prefix
returns-in_err-oks-clause-prefix g c =
    let all = whole c.args.trace c.args.log.now.items c.args.answers.now in
    let begun : Printing (g.K.Sink.held c.args.sink.now) (g.K.Sink.held c.args.sink.now) c.in_ok-outlet.outlet all all = rw c.in_ok-outlet.ensures (printing_start (g.K.Sink.held c.args.sink.now) all) in
    on_err _ _ (c.in_err-oks.ensures.stops (g.K.Sink.held c.args.sink.now) _ all begun)

pub returns-in_err-print_trace-clause-prefix : goal.returns-in_err-print_trace-clause-prefix
returns-in_err-print_trace-clause-prefix g c =
    let held = g.K.Sink.held c.args.sink.now in
    let all = whole c.args.trace c.args.log.now.items c.args.answers.now in
    let begun : Printing held held c.in_ok-outlet.outlet all all = rw c.in_ok-outlet.ensures (printing_start held all) in
    let last : List ℕ = summary (length c.args.answers.now) (shown_oks 1 c.args.log.now.items c.args.answers.now) in
    let first = c.in_ok-oks.ensures.prints held _ all begun in
    on_err _ _ (c.in_err-print_trace.ensures.stops held last all (printing_as held _ _ _ _ all (ap (λ es. trace_of es ++ last) (sym c.traced.ensures)) first))

pub returns-in_err-print_summary-clause-prefix : goal.returns-in_err-print_summary-clause-prefix
returns-in_err-print_summary-clause-prefix g c =
    let held = g.K.Sink.held c.args.sink.now in
    let all = whole c.args.trace c.args.log.now.items c.args.answers.now in
    let begun : Printing held held c.in_ok-outlet.outlet all all = rw c.in_ok-outlet.ensures (printing_start held all) in
    let last : List ℕ = summary (length c.args.answers.now) (shown_oks 1 c.args.log.now.items c.args.answers.now) in
    let first = c.in_ok-oks.ensures.prints held _ all begun in
    let second = c.in_ok-print_trace.ensures.prints held last all (printing_as held _ _ _ _ all (ap (λ es. trace_of es ++ last) (sym c.traced.ensures)) first) in
    let same : last ≡ summary (length c.args.answers.now) c.in_ok-oks.oks ++ [] = rw c.in_ok-oks.ensures.counted (sym (append-nil last)) in
    on_err _ _ (c.in_err-print_summary.ensures.stops held [] all (printing_as held _ _ _ _ all same second))

pub returns-in_err-flush-clause-prefix : goal.returns-in_err-flush-clause-prefix
returns-in_err-flush-clause-prefix g c =
    let held = g.K.Sink.held c.args.sink.now in
    let all = whole c.args.trace c.args.log.now.items c.args.answers.now in
    let begun : Printing held held c.in_ok-outlet.outlet all all = rw c.in_ok-outlet.ensures (printing_start held all) in
    let last : List ℕ = summary (length c.args.answers.now) (shown_oks 1 c.args.log.now.items c.args.answers.now) in
    let first = c.in_ok-oks.ensures.prints held _ all begun in
    let second = c.in_ok-print_trace.ensures.prints held last all (printing_as held _ _ _ _ all (ap (λ es. trace_of es ++ last) (sym c.traced.ensures)) first) in
    let same : last ≡ summary (length c.args.answers.now) c.in_ok-oks.oks ++ [] = rw c.in_ok-oks.ensures.counted (sym (append-nil last)) in
    let third = c.in_ok-print_summary.ensures.prints held [] all (printing_as held _ _ _ _ all same second) in
    on_err _ _ (printing_cut_end held _ _ _ all c.in_err-flush.ensures.err.0 third c.in_err-flush.ensures.err.1)

pub returns-clause-written : goal.returns-clause-written
returns-clause-written g c =
    let held = g.K.Sink.held c.args.sink.now in
    let all = whole c.args.trace c.args.log.now.items c.args.answers.now in
    let begun : Printing held held c.in_ok-outlet.outlet all all = rw c.in_ok-outlet.ensures (printing_start held all) in
    let last : List ℕ = summary (length c.args.answers.now) (shown_oks 1 c.args.log.now.items c.args.answers.now) in
    let first = c.in_ok-oks.ensures.prints held _ all begun in
    let second = c.in_ok-print_trace.ensures.prints held last all (printing_as held _ _ _ _ all (ap (λ es. trace_of es ++ last) (sym c.traced.ensures)) first) in
    let same : last ≡ summary (length c.args.answers.now) c.in_ok-oks.oks ++ [] = rw c.in_ok-oks.ensures.counted (sym (append-nil last)) in
    let third = c.in_ok-print_summary.ensures.prints held [] all (printing_as held _ _ _ _ all same second) in
    printing_end held _ _ _ all third c.in_ok-flush.ensures.ok.0
