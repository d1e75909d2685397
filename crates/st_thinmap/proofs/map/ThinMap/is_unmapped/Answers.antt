use Rattle.std.proofs.Common.{sym, ap, ◌∙◌, arith}
use Rattle.std.specs.Option.{is_none}
use Rattle.st_thinmap.proofs.Demands.{unmapped-is}
use Rattle.st_thinmap.proofs.map.ThinMap.is_unmapped.Goals as goal

pub returns-in-Some : goal.returns-in-Some
returns-in-Some c = sym (unmapped-is c.args.self.now.rows c.args.self.now.next c.args.fs c.args.block c.mapping.ensures.valid (omega (arith, c.ranges.block.fits)) ∙ ap is_none (sym c.mapping.ensures.mapping ∙ c.in-Some.is))

pub returns-in-None : goal.returns-in-None
returns-in-None c = sym (unmapped-is c.args.self.now.rows c.args.self.now.next c.args.fs c.args.block c.mapping.ensures.valid (omega (arith, c.ranges.block.fits)) ∙ ap is_none (sym c.mapping.ensures.mapping ∙ c.in-None.is))
