use Rattle.std.proofs.Common.{arith, ap}
use Rattle.st_limits.specs.Sums.{room}
use Rattle.st_datatier.specs.Tier.{Tier}
use Rattle.st_datatier.proofs.Devices.{room_fits}
use Rattle.st_datatier.proofs.Growing.{tier_room}
use Rattle.st_datatier.proofs.tier.DataTier.room.Goals as goal

pub overflow_add-result : goal.overflow_add-result
overflow_add-result c =
    let s = c.self.inside in
    omega (arith, c.length.ensures, c.free.ensures, room_fits s.sectors.items c.self.invariant.0 c.self.invariant.1, ap (λ (t : Tier). room t.sectors) c.self.view_is, ap (λ (t : Tier). t.allocated) c.self.view_is, tier_room s.sectors.items s.free s.table _ c.self.view_is c.self.invariant.2 c.self.invariant.3)

pub returns : goal.returns
returns c =
    let s = c.self.inside in
    omega (arith, c.length.ensures, c.free.ensures, ap (λ (t : Tier). t.allocated) c.self.view_is, tier_room s.sectors.items s.free s.table _ c.self.view_is c.self.invariant.2 c.self.invariant.3)
