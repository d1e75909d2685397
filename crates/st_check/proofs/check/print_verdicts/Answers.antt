use Rattle.std.proofs.Common.{◌≡◌, ℕ, ◌+◌, ◌≤◌, List, ◌++◌, ◌∙◌, sym, ap, append_assoc, arith}
use Rattle.st_lines.specs.Printing.{Stops}
use Rattle.st_lines.proofs.Printed.{on_err, printing_as, printing-Started}
use Rattle.st_replies.specs.Shown.{reply_line}
use Rattle.st_check.specs.Checked.{is_ok, verdict}
use Rattle.st_check.proofs.Verdicts.{text_from, text_next, oks_from, oks_next, one_if, at_most_one}
use Rattle.st_check.proofs.check.print_verdicts.Goals as goal

pub returns-in_err-reply-clause-stops : goal.returns-in_err-reply-clause-stops
returns-in_err-reply-clause-stops g c =
    let stops : Stops (g.K.Sink.held c.args.sink.now) c.args.outlet.now (g.K.Sink.held c.loop-i.sink) (text_from c.args.lanes c.args.lines.now 0)
    = λ before rest whole h. printing-Started before _ _ _ whole (c.loop-i.invariant.0 before rest whole h) in
    on_err _ _ stops

pub returns-in_err-text-clause-stops : goal.returns-in_err-text-clause-stops
returns-in_err-text-clause-stops g c =
    let stops : Stops (g.K.Sink.held c.args.sink.now) c.args.outlet.now (g.K.Sink.held c.loop-i.sink) (text_from c.args.lanes c.args.lines.now 0)
    = λ before rest whole h. printing-Started before _ _ _ whole (c.loop-i.invariant.0 before rest whole h) in
    on_err _ _ stops

pub returns-in_err-print-clause-stops : goal.returns-in_err-print-clause-stops
returns-in_err-print-clause-stops g c =
    let i = c.loop-i.i in
    let left : List ℕ = text_from c.args.lanes c.args.lines.now (i + 1) in
    let text : c.items.result.now ≡ reply_line (i + 1) (verdict c.args.lanes c.at.result.now) = c.items.ensures ∙ c.in_ok-text.ensures ∙ ap (reply_line (i + 1)) c.in_ok-reply.ensures in
    let split : text_from c.args.lanes c.args.lines.now i ≡ c.items.result.now ++ left
    = text_next c.args.lanes c.args.lines.now i c.at.result.now c.at.ensures ∙ ap (λ t. t ++ left) (sym text) in
    let stops : Stops (g.K.Sink.held c.args.sink.now) c.args.outlet.now (g.K.Sink.held c.print.new.sink) (text_from c.args.lanes c.args.lines.now 0) = λ before rest whole h.
    c.in_err-print.ensures.stops before (left ++ rest) whole
    (printing_as before _ _ _ _ whole (ap (λ t. t ++ rest) split ∙ append_assoc c.items.result.now left rest) (c.loop-i.invariant.0 before rest whole h)) in
    on_err _ _ stops

pub loop-i-preserved : goal.loop-i-preserved
loop-i-preserved g c =
    let i = c.loop-i.i in
    let left : List ℕ = text_from c.args.lanes c.args.lines.now (i + 1) in
    let text : c.items.result.now ≡ reply_line (i + 1) (verdict c.args.lanes c.at.result.now) = c.items.ensures ∙ c.in_ok-text.ensures ∙ ap (reply_line (i + 1)) c.in_ok-reply.ensures in
    let split : text_from c.args.lanes c.args.lines.now i ≡ c.items.result.now ++ left
    = text_next c.args.lanes c.args.lines.now i c.at.result.now c.at.ensures ∙ ap (λ t. t ++ left) (sym text) in
    let same : one_if (is_ok c.in_ok-reply.reply) ≡ one_if (is_ok (verdict c.args.lanes c.at.result.now)) = ap (λ r. one_if (is_ok r)) c.in_ok-reply.ensures in (
      λ before rest whole h. c.in_ok-print.ensures.prints before (left ++ rest) whole
          (printing_as before _ _ _ _ whole (ap (λ t. t ++ rest) split ∙ append_assoc c.items.result.now left rest) (c.loop-i.invariant.0 before rest whole h)),
      omega (arith, same, c.count_ok-oks.ensures, oks_next c.args.lanes c.args.lines.now i c.at.result.now c.at.ensures, c.loop-i.invariant.1),
      omega (arith, c.count_ok-oks.ensures, at_most_one (is_ok c.in_ok-reply.reply), c.loop-i.invariant.2),
      omega (arith, c.loop-i.invariant.3, c.in_ok-print.ensures.cause.later),
    )
