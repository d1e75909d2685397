use Rattle.std.specs.List.{AllByRecursion}
use Rattle.std.proofs.lemmas.List.{length-map}
use Rattle.std.proofs.Common.{◌≡◌, ap, sym, ◌∙◌, subst, map, refl, Some, get_or, length, take, drop, ◌++◌, false}
use Rattle.st_table.specs.Table.{is_named, with_pool, IsFree, has_serial, knows}
use Rattle.st_table.specs.inner.Sound.{RosterView, table_pool, row_in, marked, devices_held}
use Rattle.st_table.proofs.Changes.{whole, pools_rise, pool_found, pool_absent, pools_more}
use Rattle.st_order.proofs.Lists.{any-map}
use Rattle.st_table.proofs.Marks.{rows_kept, put_in}
use Rattle.st_table.proofs.roster.Roster.put_in.Goals as goal

pub search-requires : goal.search-requires
search-requires c = pools_rise _ c.self.inside.pools.items c.deref.ensures.value c.self.invariant.names

new_name : (c : goal.In-Ok) → knows c.args.pool.name (map table_pool c.self.inside.pools.items) ≡ false
new_name c = ap (λ (v : RosterView). knows c.args.pool.name v.pools) c.self.view_is ∙ c.requires.name

pub unreachable-requires : goal.unreachable-requires
unreachable-requires c =
    let found = rw (c.deref.ensures.value, c.bytes.ensures.value) at (c.in-Ok.ensures.found c.args.pool) in
    let none = pool_absent c.self.inside.pools.items c.self.inside.pools.items c.args.pool.name c.args.pool.name refl refl (sym (any-map table_pool (is_named c.args.pool.name) c.self.inside.pools.items) ∙ new_name c) in
    let some = pool_found c.self.inside.pools.items c.args.pool.name (get_or c.self.inside.pools.items c.in-Ok.field-0 c.args.pool) found in
    cc

more : (c : goal.In-Ok-insert) → map table_pool c.insert.new.self.items ≡ with_pool (table_pool c.args.pool) (map table_pool c.self.inside.pools.items)
more c = pools_more c.deref.result.now c.self.inside.pools.items c.insert.new.self.items c.bytes.result.now c.in-Err.i c.args.pool c.deref.ensures.value c.bytes.ensures.value c.in-Ok-insert.ensures.items c.in-Err.ensures.place

devices : (c : goal.In-Ok-insert) → c.mark.new.devices ≡ map (marked (devices_held c.args.pool.holding) (Some c.args.pool.serial)) c.self.inside.devices.items
devices c = c.mark.ensures ∙ (ap (map (marked c.items.result.now (Some c.number.result))) c.deref_mut.ensures.value ∙ (ap (λ ps. map (marked ps (Some c.number.result)) c.self.inside.devices.items) (c.items.ensures ∙ c.devices.ensures) ∙ ap (λ n. map (marked (devices_held c.args.pool.holding) (Some n)) c.self.inside.devices.items) c.number.ensures.value))

all : (c : goal.In-Ok-insert) → take c.self.inside.devices.len (c.mark.new.devices ++ drop (length c.mark.new.devices) c.self.inside.devices.items) ≡ map (marked (devices_held c.args.pool.holding) (Some c.args.pool.serial)) c.self.inside.devices.items
all c =
    let size : length c.self.inside.devices.items ≡ c.self.inside.devices.len = ap length (sym c.deref_mut.ensures.value) ∙ c.deref_mut.ensures.len in
    let same : length c.mark.new.devices ≡ length c.self.inside.devices.items = ap length (devices c) ∙ length-map c.self.inside.devices.items (marked (devices_held c.args.pool.holding) (Some c.args.pool.serial)) in
    whole c.self.inside.devices.len c.self.inside.devices.items c.mark.new.devices size same ∙ devices c

pub invariant_of-self : goal.invariant_of-self
invariant_of-self c =
    rw (all c, more c) (put_in c.self.inside.devices.items (map table_pool c.self.inside.pools.items) (table_pool c.args.pool) c.self.invariant
    (ap (λ (v : RosterView). knows c.args.pool.name v.pools) c.self.view_is ∙ c.requires.name)
    (ap (λ (v : RosterView). has_serial c.args.pool.serial v.pools) c.self.view_is ∙ c.requires.serial)
    (subst (λ (v : RosterView). AllByRecursion (IsFree v.pools v.devices) (devices_held c.args.pool.holding)) (sym c.self.view_is) c.requires.free))

pub returns-clause-pools : goal.returns-clause-pools
returns-clause-pools c = rw (← c.self.view_is) (more c)

pub returns-clause-devices : goal.returns-clause-devices
returns-clause-devices c = rw (← c.self.view_is) (ap (map row_in) (all c) ∙ rows_kept (devices_held c.args.pool.holding) (Some c.args.pool.serial) c.self.inside.devices.items)
