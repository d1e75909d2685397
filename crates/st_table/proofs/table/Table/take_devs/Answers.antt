use Rattle.std.proofs.Common.{◌≡◌, ◌++◌, ap, sym, ◌∙◌, subst, Some, arith, List}
use Rattle.std.specs.List.{AllByRecursion}
use Rattle.st_table.specs.Table.{TableView, TablePool, IsFree, knows, runs, pool_named}
use Rattle.st_table.specs.inner.Sound.{table_pool, devices_held}
use Rattle.st_table.proofs.Changes.{runs_known, runs_started, both_free}
use Rattle.st_table.proofs.table.Table.take_devs.Goals as goal

pub take_out-pool-requires : goal.take_out-pool-requires
take_out-pool-requires c = runs_known c.args.name.now c.self.inside.roster.pools (ap (λ (v : TableView). runs c.args.name.now v.pools) c.self.view_is ∙ c.requires.started)

pub with_devices-requires-clause-started : goal.with_devices-requires-clause-started
with_devices-requires-clause-started c = runs_started c.args.name.now c.self.inside.roster.pools c.take_out-pool.result (ap (λ (v : TableView). runs c.args.name.now v.pools) c.self.view_is ∙ c.requires.started) c.take_out-pool.ensures.found

pub with_devices-requires-clause-room : goal.with_devices-requires-clause-room
with_devices-requires-clause-room c =
    let found : pool_named c.args.name.now c.args.self.now.pools ≡ Some (table_pool c.take_out-pool.result) = ap (λ (v : TableView). pool_named c.args.name.now v.pools) (sym c.self.view_is) ∙ c.take_out-pool.ensures.found in
    let few = c.requires.few (table_pool c.take_out-pool.result) found in
    let room = rw (← c.in-Some.ensures.value) at c.self.invariant.2 in
    omega (arith, few, room.1)

pub put_in-requires-clause-name : goal.put_in-requires-clause-name
put_in-requires-clause-name c =
    let name = ap (λ (p : TablePool). p.known.name) c.with_devices.ensures ∙ c.take_out-pool.ensures.called in
    ap (λ n. knows n c.take_out-pool.new.self.pools) name ∙ c.take_out-pool.ensures.name

pub put_in-requires-clause-free : goal.put_in-requires-clause-free
put_in-requires-clause-free c =
    let pools = c.self.inside.roster.pools in
    let rows : c.take_out-pool.new.self.devices ≡ c.args.self.now.devices = c.take_out-pool.ensures.devices ∙ ap (λ (v : TableView). v.devices) c.self.view_is in
    let own = rw rows at c.take_out-pool.ensures.free in
    let more : AllByRecursion (IsFree pools c.args.self.now.devices) c.args.devs = subst (λ (ps : List TablePool). AllByRecursion (IsFree ps c.args.self.now.devices) c.args.devs) (ap (λ (v : TableView). v.pools) (sym c.self.view_is)) c.requires.free in
    let both = both_free pools c.take_out-pool.new.self.pools c.args.self.now.devices c.args.name.now (devices_held c.take_out-pool.result.holding) c.args.devs c.take_out-pool.ensures.pools own more in
    let devices : devices_held c.with_devices.result.holding ≡ devices_held c.take_out-pool.result.holding ++ c.args.devs = ap (λ (p : TablePool). p.known.devices) c.with_devices.ensures in
    rw (rows, devices) both
