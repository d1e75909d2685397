use Rattle.std.proofs.lemmas.List.{length-map}
use Rattle.std.proofs.Common.{◌≡◌, ap, sym, ◌∙◌, map, Some, None, length, take, drop, ◌++◌}
use Rattle.st_table.specs.Table.{pool_named, without, knows}
use Rattle.st_table.specs.inner.Sound.{RosterView, table_pool, row_in, marked, devices_held}
use Rattle.st_table.proofs.Changes.{whole, pools_rise, found_in, pool_found, pool_absent, pools_left, known_is_found, named_so}
use Rattle.st_table.proofs.Marks.{rows_kept, taken_out, free_left, name_gone, serial_gone}
use Rattle.st_table.proofs.roster.Roster.take_out.Goals as goal

pub search-requires : goal.search-requires
search-requires c = pools_rise _ c.self.inside.pools.items c.deref.ensures.value c.self.invariant.names

pub unreachable-requires : goal.unreachable-requires
unreachable-requires c =
    let none = pool_absent c.deref.result.now c.self.inside.pools.items c.bytes.result.now c.args.name.now c.deref.ensures.value c.bytes.ensures.value c.in-Err.ensures.absent in
    known_is_found (map table_pool c.self.inside.pools.items) c.args.name.now (ap (λ (v : RosterView). knows c.args.name.now v.pools) c.self.view_is ∙ c.requires) none

left : (c : goal.After-self-1) → map table_pool c.remove-pool.new.self.items ≡ without c.args.name.now (map table_pool c.self.inside.pools.items)
left c = pools_left c.deref.result.now c.self.inside.pools.items c.remove-pool.new.self.items c.bytes.result.now c.args.name.now c.in-Ok.i c.deref.ensures.value c.bytes.ensures.value c.remove-pool.ensures.items c.in-Ok.ensures.others

gone : (c : goal.After-self-1) → pool_named c.args.name.now (map table_pool c.self.inside.pools.items) ≡ Some (table_pool c.remove-pool.result)
gone c = pool_found c.self.inside.pools.items c.args.name.now c.remove-pool.result (found_in c.deref.result.now c.self.inside.pools.items c.bytes.result.now c.args.name.now c.in-Ok.i c.remove-pool.result c.deref.ensures.value c.bytes.ensures.value (c.in-Ok.ensures.found c.remove-pool.result) c.remove-pool.ensures.value)

devices : (c : goal.After-self-1) → c.mark.new.devices ≡ map (marked (devices_held c.remove-pool.result.holding) None) c.self.inside.devices.items
devices c = c.mark.ensures ∙ (ap (map (marked c.items.result.now None)) c.deref_mut.ensures.value ∙ ap (λ ps. map (marked ps None) c.self.inside.devices.items) (c.items.ensures ∙ c.devices.ensures))

all : (c : goal.After-self-1) → take c.self.inside.devices.len (c.mark.new.devices ++ drop (length c.mark.new.devices) c.self.inside.devices.items) ≡ map (marked (devices_held c.remove-pool.result.holding) None) c.self.inside.devices.items
all c =
    let size : length c.self.inside.devices.items ≡ c.self.inside.devices.len = ap length (sym c.deref_mut.ensures.value) ∙ c.deref_mut.ensures.len in
    let same : length c.mark.new.devices ≡ length c.self.inside.devices.items = ap length (devices c) ∙ length-map c.self.inside.devices.items (marked (devices_held c.remove-pool.result.holding) None) in
    whole c.self.inside.devices.len c.self.inside.devices.items c.mark.new.devices size same ∙ devices c

pub invariant_of-self : goal.invariant_of-self
invariant_of-self c = rw (all c, left c) (taken_out c.args.name.now c.self.inside.devices.items (map table_pool c.self.inside.pools.items) (table_pool c.remove-pool.result) c.self.invariant (gone c))

pub returns-clause-found : goal.returns-clause-found
returns-clause-found c = rw (← c.self.view_is) (gone c)

pub returns-clause-called : goal.returns-clause-called
returns-clause-called c = named_so c.self.inside.pools.items c.args.name.now c.remove-pool.result (found_in c.deref.result.now c.self.inside.pools.items c.bytes.result.now c.args.name.now c.in-Ok.i c.remove-pool.result c.deref.ensures.value c.bytes.ensures.value (c.in-Ok.ensures.found c.remove-pool.result) c.remove-pool.ensures.value)

pub returns-clause-pools : goal.returns-clause-pools
returns-clause-pools c = rw (← c.self.view_is) (left c)

pub returns-clause-devices : goal.returns-clause-devices
returns-clause-devices c = rw (← c.self.view_is) (ap (map row_in) (all c) ∙ rows_kept (devices_held c.remove-pool.result.holding) None c.self.inside.devices.items)

pub returns-clause-name : goal.returns-clause-name
returns-clause-name c = rw (left c) (name_gone c.args.name.now (map table_pool c.self.inside.pools.items))

pub returns-clause-serial : goal.returns-clause-serial
returns-clause-serial c = rw (left c) (serial_gone c.args.name.now (map table_pool c.self.inside.pools.items) (table_pool c.remove-pool.result) c.self.invariant.names c.self.invariant.serials (gone c))

pub returns-clause-free : goal.returns-clause-free
returns-clause-free c =
    let rows : map row_in (take c.self.inside.devices.len (c.mark.new.devices ++ drop (length c.mark.new.devices) c.self.inside.devices.items)) ≡ map row_in c.self.inside.devices.items = ap (map row_in) (all c) ∙ rows_kept (devices_held c.remove-pool.result.holding) None c.self.inside.devices.items in
    rw (rows, left c) (free_left c.args.name.now c.self.inside.devices.items (map table_pool c.self.inside.pools.items) (table_pool c.remove-pool.result) c.self.invariant (gone c))
