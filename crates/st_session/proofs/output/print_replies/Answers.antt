use Rattle.std.proofs.Common.{◌≡◌, ℕ, zero, suc, ◌+◌, ◌<◌, arith, List, [], ◌∷◌, length, ◌++◌, ◌∙◌, drop, get_or, sym, ap, append_assoc}
use Rattle.std.proofs.lemmas.List.{at_drop_more}
use Rattle.st_laning.specs.declared.answers.Answer.{Answer}
use Rattle.st_laning.specs.declared.answers.Answer.TheVariants.{Ran}
use Rattle.st_lines.specs.Printing.{Stops}
use Rattle.st_session.specs.inner.Printing.{shown_line, shown_from}
use Rattle.st_lines.proofs.Printed.{on_err, printing_as, printing-Started}
use Rattle.st_session.proofs.output.print_replies.Goals as goal

-- within a list the default isn't looked at
get_or_any : (xs : List Answer) (i : ℕ) (x d : Answer) → i < length xs → x ≡ get_or xs i x → x ≡ get_or xs i d
get_or_any [] i x d lt h = absurd (omega arith)
get_or_any (y ∷ xs) zero x d lt h = h
get_or_any (y ∷ xs) (suc i) x d lt h = get_or_any xs i x d (omega arith) h

pub returns-in_err-line-clause-stops : goal.returns-in_err-line-clause-stops
returns-in_err-line-clause-stops g c =
    let stops : Stops (g.K.Sink.held c.args.sink.now) c.args.outlet.now (g.K.Sink.held c.loop-answer.sink) (shown_from 1 c.args.log.now.items c.args.answers.now)
    = λ before rest whole h. printing-Started before _ _ _ whole (c.loop-answer.invariant.0 before rest whole h) in
    on_err _ _ stops

pub returns-in_err-print-clause-stops : goal.returns-in_err-print-clause-stops
returns-in_err-print-clause-stops g c =
    let n = c.loop-answer.number in
    let log = c.args.log.now.items in
    let answer : Answer = get_or c.args.answers.now c.loop-answer.answer-index (Ran 0) in
    let left : List ℕ = shown_from (n + 1) log (drop (c.loop-answer.answer-index + 1) c.args.answers.now) in
    let split : shown_from n log (drop c.loop-answer.answer-index c.args.answers.now) ≡ shown_line n log answer ++ left
    = at_drop_more (shown_from n log) c.args.answers.now c.loop-answer.answer-index (Ran 0) c.loop-answer-test.true in
    let same : c.answer-item.result ≡ answer = get_or_any c.args.answers.now c.loop-answer.answer-index c.answer-item.result (Ran 0) c.loop-answer-test.true c.answer-item.is in
    let text : c.items.result.now ≡ shown_line n log answer = c.items.ensures ∙ (c.in_ok-line.ensures.text ∙ ap (shown_line n log) same) in
    let stops : Stops (g.K.Sink.held c.args.sink.now) c.args.outlet.now (g.K.Sink.held c.print.new.sink) (shown_from 1 c.args.log.now.items c.args.answers.now) = λ before rest whole h.
    c.in_err-print.ensures.stops before (left ++ rest) whole
    (printing_as before _ _ _ _ whole (ap (λ t. t ++ rest) (split ∙ ap (λ t. t ++ left) (sym text)) ∙ append_assoc c.items.result.now left rest) (c.loop-answer.invariant.0 before rest whole h)) in
    on_err _ _ stops
