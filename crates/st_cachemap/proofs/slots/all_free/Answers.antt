use Rattle.st_cachemap.proofs.Keeps.{freed}
use Rattle.st_cachemap.proofs.slots.all_free.Goals as goal

pub loop-place-preserved : goal.loop-place-preserved
loop-place-preserved c = freed _ _ _ _ c.loop-place.invariant c.push_back.ensures.lists c.push_back.ensures.valid
