use Rattle.std.proofs.Common.{length, sym, ap, ◌∙◌, arith}
use Rattle.std.proofs.lemmas.List.{length-take-le}
use Rattle.st_thinmap.specs.Planned.{Planned}
use Rattle.st_thinmap.proofs.plan.Plan.len.Goals as goal

pub returns : goal.returns
returns c =
    let s = c.self.inside in
    sym (length-take-le s.count s.cells (omega (arith, c.self.invariant.0, c.self.invariant.1))) ∙ ap (λ (p : Planned). length p.fresh) c.self.view_is
