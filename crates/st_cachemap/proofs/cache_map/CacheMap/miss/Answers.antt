use Rattle.std.proofs.Common.{◌<◌, ◌-◌, refl, arith}
use Rattle.st_cachemap.proofs.Calls.{IsCached-from}
use Rattle.st_cachemap.proofs.Touches.{lacks_take, missed}
use Rattle.st_cachemap.proofs.cache_map.CacheMap.miss.Goals as goal

pub occupy-requires-clause-absent : goal.occupy-requires-clause-absent
occupy-requires-clause-absent c =
    lacks_take c.args.cell (c.args.self.now.capacity - 1) c.args.self.now.entries c.make_room-out.new.self.entries c.make_room-out.ensures.kept c.requires

pub returns-clause-answer : goal.returns-clause-answer
returns-clause-answer c =
    let pos : 0 < c.args.self.now.capacity = omega (arith, c.make_room-out.ensures.room) in
    missed c.args.self.now c.make_room-out.new.self c.occupy.new.self _ _ _ _ _ c.args.cell c.free_place-place.result c.make_room-out.result c.make_room-out.ensures.out c.requires c.make_room-out.ensures.kept c.make_room-out.ensures.rest c.occupy.ensures c.self.view_is c.saturating_add-self-inside.ensures pos

pub returns-clause-valid : goal.returns-clause-valid
returns-clause-valid c = IsCached-from c.self.invariant refl
