use Rattle.std.specs.Prelude.{option_map, option_copied, is_some}
use Rattle.std.proofs.Common.{◌≡◌, ap, sym, ◌∙◌, map, refl, Option, Some, None, true, false}
use Rattle.st_model.specs.Look.{row_of}
use Rattle.st_table.specs.declared.pool.Pool.{Pool}
use Rattle.st_table.specs.Table.{TablePool}
use Rattle.st_table.specs.inner.Sound.{RosterView, table_pool, row_in}
use Rattle.st_table.proofs.Changes.{row_absent, user_told_by}
use Rattle.st_table.proofs.roster.Roster.user_of.Goals as goal

twice : (o : Option Pool) → option_map (λ (pool : Pool). (table_pool pool).known) o ≡ option_map (λ (pool : TablePool). pool.known) (option_map table_pool o)
twice None = refl
twice (Some pool) = refl

pub returns-in-Ok : goal.returns-in-Ok
returns-in-Ok c =
    let told = user_told_by c.deref.result.now c.self.inside.devices.items (map table_pool c.self.inside.pools.items) c.bytes.result.now c.args.path.now c.in-Ok.i c.index.result.now c.deref.ensures.value c.bytes.ensures.value c.self.invariant.marks (c.in-Ok.ensures.found c.index.result.now) c.index.ensures in
    let among = rw c.deref-in-Ok.ensures.value at c.user_among.ensures in
    rw (← c.self.view_is) (twice (option_copied c.user_among.result) ∙ (ap (option_map (λ (pool : TablePool). pool.known)) among ∙ told))

pub returns-in-Err : goal.returns-in-Err
returns-in-Err c =
    let none : row_of c.args.path.now (map row_in c.self.inside.devices.items) ≡ None = row_absent c.deref.result.now c.self.inside.devices.items c.bytes.result.now c.args.path.now c.deref.ensures.value c.bytes.ensures.value c.in-Err.ensures.absent in
    let there : is_some (row_of c.args.path.now (map row_in c.self.inside.devices.items)) ≡ true = ap (λ (v : RosterView). is_some (row_of c.args.path.now v.devices)) c.self.view_is ∙ c.requires in
    absurd (let never : false ≡ true = ap is_some (sym none) ∙ there in cc)
