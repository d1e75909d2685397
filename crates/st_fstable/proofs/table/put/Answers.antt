use Rattle.std.proofs.Common.{ap, sym, ◌∙◌, subst, map}
use Rattle.st_fstable.specs.Rows.{AreRows, without}
use Rattle.st_order.specs.Sorted.{ordered}
use Rattle.st_fstable.specs.inner.ByName.{name_of, serial_in}
use Rattle.st_fstable.proofs.Serials.{apart_last, without_last}
use Rattle.st_fstable.proofs.table.put.Goals as goal

pub enter-requires-clause-rows : goal.enter-requires-clause-rows
enter-requires-clause-rows c =
    subst AreRows (sym (c.deref.ensures.value ∙ c.in-Ok.ensures.items)) (apart_last c.args.row c.args.rows.now.items c.requires.indexed.apart c.requires.serial c.requires.name)

pub enter-requires-clause-others : goal.enter-requires-clause-others
enter-requires-clause-others c =
    let still = ap (without c.args.row.serial) (c.deref.ensures.value ∙ c.in-Ok.ensures.items) ∙ without_last c.args.row c.args.rows.now.items c.requires.serial in
    c.requires.indexed.order ∙ sym (ap (λ ys. map serial_in (ordered name_of ys)) still)
