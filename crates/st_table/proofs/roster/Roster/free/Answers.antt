use Rattle.std.specs.Prelude.{IfOk}
use Rattle.std.proofs.Common.{◌≡◌, subst, map, List}
use Rattle.st_model.specs.Look.{Text}
use Rattle.st_table.specs.inner.Sound.{table_pool}
use Rattle.st_table.proofs.Marks.{free_is}
use Rattle.st_table.proofs.roster.Roster.free.Goals as goal

pub returns : goal.returns
returns c =
    rw (← c.self.view_is) (subst (λ (paths : List Text). IfOk c.unmarked.result (λ list. list ≡ paths)) (free_is (map table_pool c.self.inside.pools.items) c.self.inside.devices.items c.self.invariant.marks) (rw c.deref.ensures.value at c.unmarked.ensures))
