use Rattle.std.proofs.Common.{ap, sym, ◌∙◌, Some, not}
use Rattle.st_units.specs.declared.rows.FsRow.{FsRow}
use Rattle.st_fstable.specs.Rows.{has_serial, without}
use Rattle.st_order.specs.Sorted.{ordered}
use Rattle.st_fstable.specs.inner.ByName.{name_of}
use Rattle.st_fstable.proofs.Serials.{apart_filtered}
use Rattle.st_fstable.proofs.ByName.{rising_stand, others_stand, names_rise, never, come}
use Rattle.st_fstable.proofs.names.enter.Goals as goal

pub search_name-requires-clause-rising : goal.search_name-requires-clause-rising
search_name-requires-clause-rising c =
    rising_stand c.args.rows.now (ordered name_of (without c.args.serial c.args.rows.now)) c.deref.result.now (c.deref.ensures.value ∙ c.requires.others)
    (others_stand c.args.serial c.args.rows.now c.requires.rows)
    (names_rise (without c.args.serial c.args.rows.now) (apart_filtered (λ (y : FsRow). not (has_serial c.args.serial y)) c.args.rows.now c.requires.rows))

pub unreachable-requires : goal.unreachable-requires
unreachable-requires c =
    let found = c.place_of-i.ensures.found c.index-rows-i.result ∙ ap Some (sym c.index-rows-i.is) in
    let named = c.bytes.ensures.value ∙ ap (λ (r : FsRow). r.name) (sym c.index-rows-i.is) in
    never c.args.rows.now c.deref.result.now c.args.serial c.index-rows-i.result c.bytes.result.now _ c.requires.rows (c.deref.ensures.value ∙ c.requires.others) found named (c.in-Ok.ensures.found 0)

pub returns : goal.returns
returns c =
    let found = c.place_of-i.ensures.found c.index-rows-i.result ∙ ap Some (sym c.index-rows-i.is) in
    let named = c.bytes.ensures.value ∙ ap (λ (r : FsRow). r.name) (sym c.index-rows-i.is) in
    come c.args.rows.now c.args.names.now.items c.deref.result.now c.insert.new.self.items c.args.serial c.index-rows-i.result c.bytes.result.now c.in-Err.place c.requires.rows c.deref.ensures.value c.requires.others found named c.in-Ok-insert.ensures.items c.in-Err.ensures.place
