use Rattle.std.proofs.Common.{◌≡◌, ◌+◌, ◌∷◌, ◌++◌, ◌∙◌, List, drop, sym, subst}
use Rattle.std.proofs.lemmas.List.{at_drop_more}
use Rattle.st_model.specs.Look.{Text, distinct}
use Rattle.st_model.proofs.Distinct.{unseen, kept_step}
use Rattle.st_reports.proofs.names.distinct.Goals as goal

pub loop-name-preserved : goal.loop-name-preserved
loop-name-preserved c =
    let whole : List Text → List Text = λ rest. c.loop-name.list ++ unseen c.loop-name.list (distinct rest) in
    let more = at_drop_more whole c.args.names.now c.loop-name.name-index c.name-item.result c.loop-name-test.true in
    let more' : whole (drop c.loop-name.name-index c.args.names.now) ≡ whole (c.name-item.result ∷ drop (c.loop-name.name-index + 1) c.args.names.now)
    = subst (λ (p : Text). whole (drop c.loop-name.name-index c.args.names.now) ≡ whole (p ∷ drop (c.loop-name.name-index + 1) c.args.names.now)) (sym c.name-item.is) more in
    rw c.in_ok-keep.ensures.ok (kept_step c.loop-name.list _ _ ∙ (sym more' ∙ c.loop-name.invariant))
