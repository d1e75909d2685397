use Rattle.std.proofs.Common.{sym, ap, ltb, ◌∙◌, arith}
use Rattle.st_thinmap.proofs.Demands.{asks-none, asks-some}
use Rattle.st_thinmap.proofs.map.ThinMap.takes_cell.Goals as goal

pub returns-in-Some-clause-takes : goal.returns-in-Some-clause-takes
returns-in-Some-clause-takes c =
    ap (ltb 1) c.uses_of.ensures
    ∙ sym (asks-some c.args.self.now.rows c.args.self.now.next c.args.fs c.args.block c.in-Some.mapping c.mapping.ensures.valid (omega (arith, c.ranges.block.fits)) (sym c.mapping.ensures.mapping ∙ c.in-Some.is))

pub returns-in-None-clause-takes : goal.returns-in-None-clause-takes
returns-in-None-clause-takes c =
    sym (asks-none c.args.self.now.rows c.args.self.now.next c.args.fs c.args.block c.mapping.ensures.valid (omega (arith, c.ranges.block.fits)) (sym c.mapping.ensures.mapping ∙ c.in-None.is))
