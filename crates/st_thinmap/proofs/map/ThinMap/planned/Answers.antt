use Rattle.std.proofs.Common.{◌<◌, Bool, ltb, ltb-true, sym, arith}
use Rattle.st_limits.specs.Sums as sums
use Rattle.st_thinmap.specs.Thin.{cells_of, map_of}
use Rattle.st_thinmap.proofs.Plans.{more_two, more_first, both_parts}
use Rattle.st_thinmap.proofs.map.ThinMap.planned.Goals as goal

pub plan_two-requires-clause-few : goal.plan_two-requires-clause-few
plan_two-requires-clause-few c =
    let last : Bool = sums.takes_cell (map_of c.args.fs c.args.self.now.rows) (cells_of c.args.self.now.rows) c.args.last in
    let order : c.args.first < c.args.last = ltb-true c.args.first c.args.last (both_parts (ltb c.args.first c.args.last) last (sym c.in-true-true.ensures')).0 in
    omega (arith, c.requires.few, more_two c.args.fs c.args.first c.args.last c.args.self.now.next c.args.self.now.rows c.takes_cell.ensures.valid order (omega (arith, c.ranges.last.fits)))

pub plan_one-requires : goal.plan_one-requires
plan_one-requires c =
    record { few = omega (arith, c.requires.few, more_first c.args.fs c.args.first c.args.last c.args.self.now.next c.args.self.now.rows c.takes_cell.ensures.valid (omega (arith, c.ranges.first.fits))) }

pub plan_one-requires-in-false-true : goal.plan_one-requires-in-false-true
plan_one-requires-in-false-true c =
    let last : Bool = sums.takes_cell (map_of c.args.fs c.args.self.now.rows) (cells_of c.args.self.now.rows) c.args.last in
    let order : c.args.first < c.args.last = ltb-true c.args.first c.args.last (both_parts (ltb c.args.first c.args.last) last (sym c.in-false-true.ensures')).0 in
    record { few = omega (arith, c.requires.few, more_two c.args.fs c.args.first c.args.last c.args.self.now.next c.args.self.now.rows c.takes_cell.ensures.valid order (omega (arith, c.ranges.last.fits))) }
