use Rattle.st_waking.proofs.Meeting.{its_up, not_none}
use Rattle.st_waking.proofs.met.is_up.Goals as goal

pub returns-in-Some : goal.returns-in-Some
returns-in-Some g c =
    let at = c.in-Some.ensures.some in
    its_up c.args.before.now.value c.args.cells.now c.requires.valid c.requires.pools c.the_started_pools.ensures.each c.in-Some.place at.0 c.index-cells-place.result c.flight.result c.is_none.result c.args.name.now
    at.1 at.2 c.index-cells-place.is c.flight.ensures c.is_none.ensures

pub returns-in-None : goal.returns-in-None
returns-in-None g c = λ p here up. absurd (not_none c.args.before.now.value c.args.cells.now c.requires.valid c.requires.pools c.args.name.now p here up c.in-None.ensures.none)
