use Rattle.std.proofs.Common.{◌≡◌, ℕ, ◌+◌, ◌-◌, ◌<◌, ◌≤◌, List, [], ◌∷◌, ◌++◌, ◌∙◌, sym, ap, append_assoc, arith}
use Rattle.st_lines.specs.Printing.{Printing, Stops}
use Rattle.st_lines.proofs.Printed.{on_err, printing_as, printing-Started}
use Rattle.st_gen.specs.Script.{line_at, number_before, number_after, script}
use Rattle.st_gen.specs.declared.line.TheConstants.{GEN_LINES}
use Rattle.st_gen.proofs.Numbers.{lines_from, all_lines, next_line, no_line, goes_on}
use Rattle.st_check.proofs.generate.print_script.Goals as goal

pub returns-in_err-line-clause-stops : goal.returns-in_err-line-clause-stops
returns-in_err-line-clause-stops g c =
    let stops : Stops (g.K.Sink.held c.args.sink.now) c.args.outlet.now (g.K.Sink.held c.loop-i.sink) (script c.args.lanes c.args.number) = λ before rest whole h.
    printing-Started before _ _ _ whole (c.loop-i.invariant.0 before rest whole (printing_as before _ _ _ _ whole (ap (λ t. t ++ rest) (all_lines c.args.lanes c.args.number)) h)) in
    on_err _ _ stops

pub returns-in_err-print-clause-stops : goal.returns-in_err-print-clause-stops
returns-in_err-print-clause-stops g c =
    let i = c.loop-i.i in
    let left : List ℕ = lines_from c.args.lanes c.args.number (i + 1) (GEN_LINES - (i + 1)) in
    let one : GEN_LINES - i ≡ GEN_LINES - (i + 1) + 1 = omega (arith, c.loop-i-test.true) in
    let text : c.items.result.now ≡ line_at c.args.lanes i (number_before c.args.lanes c.args.number i) = c.items.ensures ∙ c.in_ok-line.ensures.line ∙ ap (line_at c.args.lanes i) c.loop-i.invariant.1 in
    let split : lines_from c.args.lanes c.args.number i (GEN_LINES - i) ≡ c.items.result.now ++ 10 ∷ left
    = next_line c.args.lanes c.args.number i _ _ one ∙ ap (λ t. t ++ 10 ∷ left) (sym text) in
    let stops : Stops (g.K.Sink.held c.args.sink.now) c.args.outlet.now (g.K.Sink.held c.print.new.sink) (script c.args.lanes c.args.number) = λ before rest whole h.
    let going = c.loop-i.invariant.0 before rest whole (printing_as before _ _ _ _ whole (ap (λ t. t ++ rest) (all_lines c.args.lanes c.args.number)) h) in
    c.in_err-print.ensures.stops before ((10 ∷ left) ++ rest) whole
    (printing_as before _ _ _ _ whole (ap (λ t. t ++ rest) split ∙ append_assoc c.items.result.now (10 ∷ left) rest) going) in
    on_err _ _ stops

pub returns-in_err-print-2-clause-stops : goal.returns-in_err-print-2-clause-stops
returns-in_err-print-2-clause-stops g c =
    let i = c.loop-i.i in
    let left : List ℕ = lines_from c.args.lanes c.args.number (i + 1) (GEN_LINES - (i + 1)) in
    let one : GEN_LINES - i ≡ GEN_LINES - (i + 1) + 1 = omega (arith, c.loop-i-test.true) in
    let text : c.items.result.now ≡ line_at c.args.lanes i (number_before c.args.lanes c.args.number i) = c.items.ensures ∙ c.in_ok-line.ensures.line ∙ ap (line_at c.args.lanes i) c.loop-i.invariant.1 in
    let split : lines_from c.args.lanes c.args.number i (GEN_LINES - i) ≡ c.items.result.now ++ 10 ∷ left
    = next_line c.args.lanes c.args.number i _ _ one ∙ ap (λ t. t ++ 10 ∷ left) (sym text) in
    let stops : Stops (g.K.Sink.held c.args.sink.now) c.args.outlet.now (g.K.Sink.held c.print-in-loop-i.new.sink) (script c.args.lanes c.args.number) = λ before rest whole h.
    let going = c.loop-i.invariant.0 before rest whole (printing_as before _ _ _ _ whole (ap (λ t. t ++ rest) (all_lines c.args.lanes c.args.number)) h) in
    c.in_err-print-2.ensures.stops before (left ++ rest) whole
    (c.in_ok-print.ensures.prints before ((10 ∷ left) ++ rest) whole
    (printing_as before _ _ _ _ whole (ap (λ t. t ++ rest) split ∙ append_assoc c.items.result.now (10 ∷ left) rest) going)) in
    on_err _ _ stops

pub loop-i-preserved : goal.loop-i-preserved
loop-i-preserved g c =
    let i = c.loop-i.i in
    let left : List ℕ = lines_from c.args.lanes c.args.number (i + 1) (GEN_LINES - (i + 1)) in
    let one : GEN_LINES - i ≡ GEN_LINES - (i + 1) + 1 = omega (arith, c.loop-i-test.true) in
    let text : c.items.result.now ≡ line_at c.args.lanes i (number_before c.args.lanes c.args.number i) = c.items.ensures ∙ c.in_ok-line.ensures.line ∙ ap (line_at c.args.lanes i) c.loop-i.invariant.1 in
    let split : lines_from c.args.lanes c.args.number i (GEN_LINES - i) ≡ c.items.result.now ++ 10 ∷ left
    = next_line c.args.lanes c.args.number i _ _ one ∙ ap (λ t. t ++ 10 ∷ left) (sym text) in (
      λ before rest whole h. c.in_ok-print-2.ensures.prints before (left ++ rest) whole
          (c.in_ok-print.ensures.prints before ((10 ∷ left) ++ rest) whole
          (printing_as before _ _ _ _ whole (ap (λ t. t ++ rest) split ∙ append_assoc c.items.result.now (10 ∷ left) rest) (c.loop-i.invariant.0 before rest whole h))),
      c.in_ok-line.ensures.number ∙ ap (number_after c.args.lanes i) c.loop-i.invariant.1 ∙ goes_on c.args.lanes c.args.number i,
      omega (arith, c.loop-i.invariant.2, c.in_ok-print.ensures.cause.later, c.in_ok-print-2.ensures.cause.later),
    )

pub returns-clause-prints : goal.returns-clause-prints
returns-clause-prints g c = λ before rest whole h.
    let none : GEN_LINES - c.loop-i.i ≡ 0 = omega (arith, c.loop-i-test.false) in
    let going = c.loop-i.invariant.0 before rest whole (printing_as before _ _ _ _ whole (ap (λ t. t ++ rest) (all_lines c.args.lanes c.args.number)) h) in
    printing_as before _ _ _ _ whole (ap (λ t. t ++ rest) (no_line c.args.lanes c.args.number c.loop-i.i _ none)) going
