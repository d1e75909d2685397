use Rattle.std.proofs.Common.{ap, sym, ◌∙◌, Some}
use Rattle.st_order.specs.Sorted.{ordered}
use Rattle.st_fstable.specs.inner.ByName.{name_of}
use Rattle.st_fstable.proofs.ByName.{rising_stand, by_name_stand, names_rise, told, told_new, told_none}
use Rattle.st_fstable.proofs.table.FsTable.find.Goals as goal

pub search_name-requires-clause-rising : goal.search_name-requires-clause-rising
search_name-requires-clause-rising c =
    let rows = c.self.inside.rows.items in
    rw c.deref.ensures.value (rising_stand rows (ordered name_of rows) c.deref-2.result.now (c.deref-2.ensures.value ∙ c.self.invariant.order) (by_name_stand rows c.self.invariant.apart) (names_rise rows c.self.invariant.apart))

pub returns-in-Ok-clause-serial : goal.returns-in-Ok-clause-serial
returns-in-Ok-clause-serial c =
    let found = rw (c.deref.ensures.value, c.deref-2.ensures.value, c.bytes.ensures.value) at (c.in-Ok.ensures.found c.index.result.now) in
    rw (← c.self.view_is) (ap Some c.index.ensures ∙ sym (told c.self.inside.rows.items c.self.inside.names.items c.args.name.now c.in-Ok.i c.index.result.now c.self.invariant found))

pub returns-in-Err-clause-serial : goal.returns-in-Err-clause-serial
returns-in-Err-clause-serial c =
    let absent = rw (c.deref.ensures.value, c.deref-2.ensures.value, c.bytes.ensures.value) at c.in-Err.ensures.absent in
    rw (← c.self.view_is) (sym (told_none c.self.inside.rows.items c.self.inside.names.items c.args.name.now c.self.invariant absent))

pub returns-in-Err-clause-new : goal.returns-in-Err-clause-new
returns-in-Err-clause-new c =
    let absent = rw (c.deref.ensures.value, c.deref-2.ensures.value, c.bytes.ensures.value) at c.in-Err.ensures.absent in
    rw (← c.self.view_is) (told_new c.self.inside.rows.items c.self.inside.names.items c.args.name.now c.self.invariant absent)
