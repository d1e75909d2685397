use Rattle.std.proofs.Common.{arith}
use Rattle.st_datatier.proofs.Growing.{tier_room}
use Rattle.st_datatier.proofs.tier.DataTier.allocated.Goals as goal

pub returns-clause-within : goal.returns-clause-within
returns-clause-within c =
    let s = c.self.inside in
    omega (arith, tier_room s.sectors.items s.free s.table _ c.self.view_is c.self.invariant.2 c.self.invariant.3)
