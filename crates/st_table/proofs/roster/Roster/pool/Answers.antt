use Rattle.std.proofs.Common.{sym}
use Rattle.st_table.proofs.Changes.{pools_rise, found_in, pool_found, pool_absent}
use Rattle.st_table.proofs.roster.Roster.pool.Goals as goal

pub search-requires : goal.search-requires
search-requires c = pools_rise _ c.self.inside.pools.items c.deref.ensures.value c.self.invariant.names

pub returns-in-Ok : goal.returns-in-Ok
returns-in-Ok c =
    let found = found_in c.deref.result.now c.self.inside.pools.items c.bytes.result.now c.args.name.now c.in-Ok.i c.index.result.now c.deref.ensures.value c.bytes.ensures.value (c.in-Ok.ensures.found c.index.result.now) c.index.ensures in
    rw (← c.self.view_is) (sym (pool_found c.self.inside.pools.items c.args.name.now c.index.result.now found))

pub returns-in-Err : goal.returns-in-Err
returns-in-Err c = rw (← c.self.view_is) (sym (pool_absent c.deref.result.now c.self.inside.pools.items c.bytes.result.now c.args.name.now c.deref.ensures.value c.bytes.ensures.value c.in-Err.ensures.absent))
