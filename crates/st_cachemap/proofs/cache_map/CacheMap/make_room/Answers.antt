use Rattle.std.proofs.Common.{◌≡◌, ap, length, arith}
use Rattle.st_cachemap.specs.Cached.{Cached}
use Rattle.st_cachemap.proofs.Calls.{IsCached-from}
use Rattle.st_cachemap.proofs.Touches.{entry_count, room_made}
use Rattle.st_cachemap.proofs.cache_map.CacheMap.make_room.Goals as goal

full : (c : goal.In-Some) → length c.args.self.now.entries ≡ c.args.self.now.capacity
full c =
    let valid = IsCached-from c.self.invariant c.self.view_is in
    let cap : length c.self.inside.cells.items ≡ c.args.self.now.capacity = ap (λ (v : Cached). v.capacity) c.self.view_is in
    omega (arith, valid.fits, cap, entry_count c.self.invariant c.self.view_is, c.if-self-len.false, c.len.ensures, c.self.inside.cells.ok.0)

pub returns-clause-out : goal.returns-clause-out
returns-clause-out c = (room_made c.args.self.now.entries c.pop_last.new.self.entries c.in-Some.cell c.in-Some._place c.args.self.now.capacity c.in-Some.ensures.0 (full c)).0

pub returns-clause-kept : goal.returns-clause-kept
returns-clause-kept c = (room_made c.args.self.now.entries c.pop_last.new.self.entries c.in-Some.cell c.in-Some._place c.args.self.now.capacity c.in-Some.ensures.0 (full c)).1

pub returns-clause-room : goal.returns-clause-room
returns-clause-room c = (room_made c.args.self.now.entries c.pop_last.new.self.entries c.in-Some.cell c.in-Some._place c.args.self.now.capacity c.in-Some.ensures.0 (full c)).2
