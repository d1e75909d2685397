use Rattle.std.proofs.Common.{sym}
use Rattle.st_model.specs.Look.{is_called}
use Rattle.st_pool.specs.View.{PoolView}
use Rattle.st_ran.proofs.Places.{found_place, no_place, named}
use Rattle.st_ran.proofs.place.place_of.Goals as goal

pub returns-clause-some : goal.returns-clause-some
returns-clause-some g c = named c.args.name.now c.args.cells.now c.place_in.result (found_place (λ (v : PoolView _). v.pool) (is_called c.args.name.now) c.args.cells.now c.place_in.result (sym c.place_in.ensures))

pub returns-clause-none : goal.returns-clause-none
returns-clause-none g c = no_place (λ (v : PoolView _). v.pool) (is_called c.args.name.now) c.args.cells.now c.place_in.result (sym c.place_in.ensures)
