use Rattle.std.proofs.Common.{refl}
use Rattle.st_fstable.specs.Rows.{sized}
use Rattle.st_fstable.proofs.ByName.{set_so, set_indexed}
use Rattle.st_fstable.proofs.table.FsTable.set_size.Goals as goal

pub invariant_of-self : goal.invariant_of-self
invariant_of-self c =
    set_indexed c.self.inside.rows.items c.deref.result.now c.self.inside.names.items c.place_of-i.result c.args.serial (sized c.args.size) c.index_mut.result.now (λ r. refl) (λ r. refl)
    c.deref.ensures.value c.index_mut.ensures.value c.place_of-i.ensures.changed c.self.invariant

pub returns : goal.returns
returns c =
    rw (← c.self.view_is) (set_so c.self.inside.rows.items c.deref.result.now c.place_of-i.result c.args.serial (sized c.args.size) c.index_mut.result.now c.deref.ensures.value c.index_mut.ensures.value c.place_of-i.ensures.changed)
