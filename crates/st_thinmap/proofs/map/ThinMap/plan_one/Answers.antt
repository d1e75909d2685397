use Rattle.std.proofs.Common.{sym, subst, arith}
use Rattle.st_thinmap.specs.declared.plan.Fresh.{Fresh}
use Rattle.st_thinmap.specs.Planned.{Planned}
use Rattle.st_thinmap.specs.Thin.{Fits}
use Rattle.st_thinmap.proofs.Plans.{one_fits}
use Rattle.st_thinmap.proofs.map.ThinMap.plan_one.Goals as goal

pub returns-clause-fits : goal.returns-clause-fits
returns-clause-fits c =
    let free = c.free_places-place.ensures in
    let x : Fresh = record { block = c.args.block; cell = c.next_cell-cell.result; place = c.free_places-place.result.0 } in
    subst (λ (p : Planned). Fits c.args.fs p.fresh c.args.self.now.rows c.args.self.now.next) (sym c.of.ensures)
    (one_fits c.args.fs c.args.self.now.next x c.args.self.now.rows free.valid c.next_cell-cell.ensures (omega (arith, c.ranges.block.fits)) free.first c.requires.few)
