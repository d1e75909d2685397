use Rattle.std.proofs.Common.{◌≡◌, ℕ, List, [], ◌++◌, length, sym, subst, append-nil}
use Rattle.std.specs.Io.KnownBytes.{Appends}
use Rattle.st_lines.specs.Printing.{Printing, Started}
use Rattle.st_lines.proofs.Printed.{on_err, printing_as, printing_start, printing_cut_end, printing_end}
use Rattle.st_replies.specs.Shown.{summary_line}
use Rattle.st_check.specs.Checked.{checked, still}
use Rattle.st_check.proofs.Verdicts.{text_from, oks_from, checked_is}
use Rattle.st_check.proofs.check.write_verdicts.Goals as goal

pub returns-in_err-oks-clause-prefix : goal.returns-in_err-oks-clause-prefix
returns-in_err-oks-clause-prefix g c =
    let held = g.K.Sink.held c.args.sink.now in
    let last : List ℕ = summary_line (still (length c.args.lines.now) (oks_from c.args.lanes c.args.lines.now 0)) in
    let all : List ℕ = text_from c.args.lanes c.args.lines.now 0 ++ last in
    let begun : Printing held held c.in_ok-outlet.outlet all all = rw c.in_ok-outlet.ensures (printing_start held all) in
    on_err _ _ (subst (λ (t : List ℕ). Started held (g.K.Sink.held c.print_verdicts.new.sink) t) (sym (checked_is c.args.lanes c.args.lines.now)) (c.in_err-oks.ensures.stops held last all begun))

pub returns-in_err-print_summary-clause-prefix : goal.returns-in_err-print_summary-clause-prefix
returns-in_err-print_summary-clause-prefix g c =
    let held = g.K.Sink.held c.args.sink.now in
    let last : List ℕ = summary_line (still (length c.args.lines.now) (oks_from c.args.lanes c.args.lines.now 0)) in
    let all : List ℕ = text_from c.args.lanes c.args.lines.now 0 ++ last in
    let begun : Printing held held c.in_ok-outlet.outlet all all = rw c.in_ok-outlet.ensures (printing_start held all) in
    let first = c.in_ok-oks.ensures.prints held last all begun in
    let same : last ≡ summary_line (still c.len.result c.in_ok-oks.oks) ++ [] = rw (c.len.ensures, c.in_ok-oks.ensures.counted) (sym (append-nil last)) in
    on_err _ _ (subst (λ (t : List ℕ). Started held (g.K.Sink.held c.print_summary.new.sink) t) (sym (checked_is c.args.lanes c.args.lines.now)) (c.in_err-print_summary.ensures.stops held [] all (printing_as held _ _ _ _ all same first)))

pub returns-in_err-flush-clause-prefix : goal.returns-in_err-flush-clause-prefix
returns-in_err-flush-clause-prefix g c =
    let held = g.K.Sink.held c.args.sink.now in
    let last : List ℕ = summary_line (still (length c.args.lines.now) (oks_from c.args.lanes c.args.lines.now 0)) in
    let all : List ℕ = text_from c.args.lanes c.args.lines.now 0 ++ last in
    let begun : Printing held held c.in_ok-outlet.outlet all all = rw c.in_ok-outlet.ensures (printing_start held all) in
    let first = c.in_ok-oks.ensures.prints held last all begun in
    let same : last ≡ summary_line (still c.len.result c.in_ok-oks.oks) ++ [] = rw (c.len.ensures, c.in_ok-oks.ensures.counted) (sym (append-nil last)) in
    let second = c.in_ok-print_summary.ensures.prints held [] all (printing_as held _ _ _ _ all same first) in
    on_err _ _ (subst (λ (t : List ℕ). Started held (g.K.Sink.held c.flush.new.sink) t) (sym (checked_is c.args.lanes c.args.lines.now)) (printing_cut_end held _ _ _ all c.in_err-flush.ensures.err.0 second c.in_err-flush.ensures.err.1))

pub returns-clause-written : goal.returns-clause-written
returns-clause-written g c =
    let held = g.K.Sink.held c.args.sink.now in
    let last : List ℕ = summary_line (still (length c.args.lines.now) (oks_from c.args.lanes c.args.lines.now 0)) in
    let all : List ℕ = text_from c.args.lanes c.args.lines.now 0 ++ last in
    let begun : Printing held held c.in_ok-outlet.outlet all all = rw c.in_ok-outlet.ensures (printing_start held all) in
    let first = c.in_ok-oks.ensures.prints held last all begun in
    let same : last ≡ summary_line (still c.len.result c.in_ok-oks.oks) ++ [] = rw (c.len.ensures, c.in_ok-oks.ensures.counted) (sym (append-nil last)) in
    let second = c.in_ok-print_summary.ensures.prints held [] all (printing_as held _ _ _ _ all same first) in
    subst (λ (t : List ℕ). Appends held (g.K.Sink.held c.flush.new.sink) t) (sym (checked_is c.args.lanes c.args.lines.now)) (printing_end held _ _ _ all second c.in_ok-flush.ensures.ok.0)
