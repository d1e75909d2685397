use Rattle.std.proofs.Common.{◌≡◌, ◌+◌, ◌∷◌, ◌++◌, ◌∙◌, List, drop, sym, subst}
use Rattle.std.proofs.lemmas.List.{at_drop_more}
use Rattle.st_model.specs.Look.{Text, distinct}
use Rattle.st_model.proofs.Distinct.{unseen, kept_step}
use Rattle.st_model.proofs.look.distinct.Goals as goal

pub loop-path-preserved : goal.loop-path-preserved
loop-path-preserved c =
    let whole : List Text → List Text = λ rest. c.loop-path.list ++ unseen c.loop-path.list (distinct rest) in
    let more = at_drop_more whole c.args.paths.now c.loop-path.path-index c.path-item.result c.loop-path-test.true in
    let more' : whole (drop c.loop-path.path-index c.args.paths.now) ≡ whole (c.path-item.result ∷ drop (c.loop-path.path-index + 1) c.args.paths.now)
    = subst (λ (p : Text). whole (drop c.loop-path.path-index c.args.paths.now) ≡ whole (p ∷ drop (c.loop-path.path-index + 1) c.args.paths.now)) (sym c.path-item.is) more in
    rw c.in_ok-keep.ensures.ok (kept_step c.loop-path.list _ _ ∙ (sym more' ∙ c.loop-path.invariant))
