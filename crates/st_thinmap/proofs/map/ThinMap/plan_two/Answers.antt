use Rattle.std.proofs.Common.{◌+◌, sym, subst, arith}
use Rattle.st_thinmap.specs.declared.plan.Fresh.{Fresh}
use Rattle.st_thinmap.specs.Planned.{Planned}
use Rattle.st_thinmap.specs.Thin.{Fits}
use Rattle.st_thinmap.proofs.Plans.{two_fits}
use Rattle.st_thinmap.proofs.map.ThinMap.plan_two.Goals as goal

pub returns-clause-fits : goal.returns-clause-fits
returns-clause-fits c =
    let free = c.free_places-low.ensures in
    let x : Fresh = record { block = c.args.first; cell = c.next_cell-cell.result; place = c.free_places-low.result.0 } in
    let y : Fresh = record { block = c.args.last; cell = c.next_cell-cell.result + 1; place = c.free_places-low.result.1 } in
    subst (λ (p : Planned). Fits c.args.fs p.fresh c.args.self.now.rows c.args.self.now.next) (sym c.of.ensures)
    (two_fits c.args.fs c.args.self.now.next x y c.args.self.now.rows free.valid c.next_cell-cell.ensures (omega (arith, c.next_cell-cell.ensures)) c.requires.order (omega (arith, c.ranges.last.fits)) free.rising free.first free.second c.requires.few)
