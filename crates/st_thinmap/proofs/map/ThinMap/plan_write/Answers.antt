use Rattle.std.proofs.Common.{◌-◌, ◌≤◌, List, sym, subst}
use Rattle.st_limits.specs.Sums as sums
use Rattle.st_thinmap.specs.declared.mapping.Mapping.{Mapping}
use Rattle.st_thinmap.specs.Thin.{cells_of, map_of, needed, touched, used}
use Rattle.st_thinmap.proofs.Placed.{placed_below}
use Rattle.st_thinmap.proofs.map.ThinMap.plan_write.Goals as goal

pub returns-clause-placed : goal.returns-clause-placed
returns-clause-placed c =
    let rows : List Mapping = c.reserve.new.self.rows in
    let a = c.args in
    placed_below c.planned.result.fresh (touched a.first a.last) (sums.takes_cell (map_of a.fs rows) (cells_of rows)) (used rows) a.allocated c.planned.ensures.blocks
    (subst (λ (xs : List Mapping). needed a.fs a.first a.last xs ≤ a.allocated - used xs) (sym c.reserve.ensures.rows) c.in_ok-ask.ensures.space) c.planned.ensures.below
