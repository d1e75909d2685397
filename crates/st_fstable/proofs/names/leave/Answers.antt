use Rattle.std.proofs.Common.{ap, sym, ◌∙◌, Some}
use Rattle.st_units.specs.declared.rows.FsRow.{FsRow}
use Rattle.st_order.specs.Sorted.{ordered}
use Rattle.st_fstable.specs.inner.ByName.{name_of, IsIndexed}
use Rattle.st_fstable.proofs.ByName.{rising_stand, by_name_stand, names_rise, always, left}
use Rattle.st_fstable.proofs.names.leave.Goals as goal

pub search_name-requires-clause-rising : goal.search_name-requires-clause-rising
search_name-requires-clause-rising c =
    rising_stand c.args.rows.now (ordered name_of c.args.rows.now) c.deref.result.now (c.deref.ensures.value ∙ c.requires.indexed.order)
    (by_name_stand c.args.rows.now c.requires.indexed.apart) (names_rise c.args.rows.now c.requires.indexed.apart)

pub unreachable-requires : goal.unreachable-requires
unreachable-requires c =
    let found = c.place_of-i.ensures.found c.index-rows-i.result ∙ ap Some (sym c.index-rows-i.is) in
    let named = c.bytes.ensures.value ∙ ap (λ (r : FsRow). r.name) (sym c.index-rows-i.is) in
    let indexed : IsIndexed c.args.rows.now c.deref.result.now = record { apart = c.requires.indexed.apart; order = c.deref.ensures.value ∙ c.requires.indexed.order } in
    always c.args.rows.now c.deref.result.now c.args.serial c.index-rows-i.result c.bytes.result.now indexed found named c.in-Err.ensures.absent

pub returns-clause-others : goal.returns-clause-others
returns-clause-others c =
    let found = c.place_of-i.ensures.found c.index-rows-i.result ∙ ap Some (sym c.index-rows-i.is) in
    let named = c.bytes.ensures.value ∙ ap (λ (r : FsRow). r.name) (sym c.index-rows-i.is) in
    left c.args.rows.now c.args.names.now.items c.deref.result.now c.remove.new.self.items c.args.serial c.index-rows-i.result c.bytes.result.now c.in-Ok.place c.requires.indexed c.deref.ensures.value found named c.remove.ensures.items c.in-Ok.ensures.others
