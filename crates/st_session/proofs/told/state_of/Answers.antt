use Rattle.st_session.proofs.Boards.{state_is}
use Rattle.st_session.proofs.told.state_of.Goals as goal

pub returns : goal.returns
returns g c e stands =
    let R = g.R.Rack in
    state_is R.devs R.moment R.state_at c.told_of-told.result.was.value c.args.was.value c.told_of-told.result.is c.told_of-told.ensures e stands c.state_in-state.result.value c.state_in-state.ensures
