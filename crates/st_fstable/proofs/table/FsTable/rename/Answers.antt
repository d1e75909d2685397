use Rattle.std.proofs.Common.{◌≡◌, ap, sym, ◌∙◌, subst, refl, true, map, not}
use Rattle.st_units.specs.declared.rows.FsRow.{FsRow}
use Rattle.st_model.specs.steps.RenameFilesystem.{named}
use Rattle.st_order.proofs.Lists.{any_less}
use Rattle.st_fstable.specs.Rows.{AreRows, has_name, has_serial, is_called, is_there, without, changed}
use Rattle.st_order.specs.Sorted.{ordered}
use Rattle.st_fstable.specs.inner.ByName.{name_of, serial_in}
use Rattle.st_fstable.proofs.ByName.{set_so}
use Rattle.st_fstable.proofs.Serials.{apart_renamed, there_changed, without_changed}
use Rattle.st_fstable.proofs.table.FsTable.rename.Goals as goal

is : (c : goal.After-enter-arg-1) → c.deref-3.result.now ≡ changed (named c.args.name) c.args.serial c.self.inside.rows.items
is c = c.deref-3.ensures.value ∙ set_so c.self.inside.rows.items c.deref-2.result.now c.place_of-i.result c.args.serial (named c.args.name) c.index_mut.result.now c.deref-2.ensures.value c.index_mut.ensures.value c.place_of-i.ensures.changed

pub enter-requires-clause-rows : goal.enter-requires-clause-rows
enter-requires-clause-rows c =
    let rows = c.self.inside.rows.items in
    let new = any_less (has_name c.args.name) (λ (y : FsRow). not (has_serial c.args.serial y)) rows (ap (is_called c.args.name) c.self.view_is ∙ c.requires.name) in
    subst AreRows (sym (is c)) (apart_renamed c.args.name c.args.serial rows c.self.invariant.apart new)

pub enter-requires-clause-there : goal.enter-requires-clause-there
enter-requires-clause-there c =
    let rows = c.self.inside.rows.items in
    subst (λ ys. is_there c.args.serial ys ≡ true) (sym (is c)) (there_changed (named c.args.name) (λ r. refl) c.args.serial rows ∙ (ap (is_there c.args.serial) c.self.view_is ∙ c.requires.there))

pub enter-requires-clause-others : goal.enter-requires-clause-others
enter-requires-clause-others c =
    let rows = c.self.inside.rows.items in
    let still = ap (without c.args.serial) (is c) ∙ without_changed (named c.args.name) (λ r. refl) c.args.serial rows in
    c.leave.ensures.others ∙ (ap (λ ys. map serial_in (ordered name_of (without c.args.serial ys))) c.deref.ensures.value ∙ sym (ap (λ ys. map serial_in (ordered name_of ys)) still))

pub returns : goal.returns
returns c =
    rw (← c.self.view_is) (set_so c.self.inside.rows.items c.deref-2.result.now c.place_of-i.result c.args.serial (named c.args.name) c.index_mut.result.now c.deref-2.ensures.value c.index_mut.ensures.value c.place_of-i.ensures.changed)
