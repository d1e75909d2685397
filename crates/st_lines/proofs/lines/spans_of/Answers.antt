use Rattle.std.proofs.Common.{◌+◌, Some, sym, ap, ◌∙◌, refl}
use Rattle.std.proofs.lemmas.List.{take_rest}
use Rattle.st_lines.specs.Limits.{broken_by_line}
use Rattle.st_lines.proofs.Cuts.{CutSoFar-more, CutSoFar-broken, CutSoFar-end, limit_is}
use Rattle.st_lines.proofs.lines.spans_of.Goals as goal

pub loop-from-preserved : goal.loop-from-preserved
loop-from-preserved c =
    rw c.in_ok-push.ensures (CutSoFar-more c.args.text.now c.loop-from.spans.items c.loop-from.from c.line_len-len.result c.loop-from.invariant c.loop-from-test.true
    (rw take_rest at c.line_len-len.ensures)
    (ap (λ k. broken_by_line (k + 1) c.line_len-len.result) (sym c.loop-from.spans.ok.0 ∙ sym c.len.ensures) ∙ sym c.broken_by_line.ensures ∙ c.in_default.is))

pub returns-in-Some-clause-limit : goal.returns-in-Some-clause-limit
returns-in-Some-clause-limit c limit told =
    CutSoFar-broken c.args.text.now c.loop-from.spans.items c.loop-from.from c.line_len-len.result limit c.loop-from.invariant c.loop-from-test.true
    (rw take_rest at c.line_len-len.ensures)
    (ap (λ k. broken_by_line (k + 1) c.line_len-len.result) (sym c.loop-from.spans.ok.0 ∙ sym c.len.ensures) ∙ sym c.broken_by_line.ensures ∙ c.in-Some.is ∙ ap Some (limit_is _ _ _ refl told))

pub returns-clause-kept : goal.returns-clause-kept
returns-clause-kept c = CutSoFar-end c.args.text.now c.loop-from.spans.items c.loop-from.from c.loop-from.invariant c.loop-from-test.false
