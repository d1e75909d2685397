use Rattle.st_flexrec.proofs.Places.{own_by_sorting}
use Rattle.st_flexrec.proofs.cells.have_own_places.Goals as goal

pub returns : goal.returns
returns c =
    own_by_sorting c.args.rows.now c.in_ok-places.places.items c.sort_unstable.new.self.items c.deref.result.now c.rises.result
    (cc (c.in_ok-places.ensures)) c.deref.ensures.value c.sort_unstable.ensures.permutation c.sort_unstable.ensures.sorted c.rises.ensures
