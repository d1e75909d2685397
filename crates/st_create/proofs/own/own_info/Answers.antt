use Rattle.st_create.proofs.Founded.{own_some}
use Rattle.st_create.proofs.own.own_info.Goals as goal

pub returns-in-Some : goal.returns-in-Some
returns-in-Some g c =
    let R = g.R.Rack in let at = c.in-Some.ensures.some in
    own_some R.devs R.moment R.state_at R.faults c.the_started_pools.ensures.each c.args.state.now.value c.args.cells.now c.args.name.now c.requires.valid c.requires.pools c.in-Some.place at.0 c.index-cells-place.result at.1 at.2
    c.index-cells-place.is c.view.result.now c.view.ensures.shown
