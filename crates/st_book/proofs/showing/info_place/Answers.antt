use Rattle.std.proofs.Common.{◌≡◌, false, sym, ◌∙◌}
use Rattle.std.proofs.lemmas.List.{take_more}
use Rattle.st_book.specs.Effects.{is_info_of}
use Rattle.st_book.proofs.Finds.{none_more}
use Rattle.st_book.proofs.showing.info_place.Goals as goal

pub loop-i-preserved : goal.loop-i-preserved
loop-i-preserved g c =
    let x = c.index-infos-i.result in
    let ne : is_info_of c.args.name.now (g.C.Cell.shows x) ≡ false = rw (← g.met.C.Cell.info_name_is x, ← c.value.ensures, ← c.name.ensures, ← c.bytes.ensures.value, ← c.bytes-in-loop-i.ensures.value) (sym c.eq.ensures ∙ c.if-eq.false) in
    rw (take_more c.args.infos.now c.loop-i.i x c.loop-i-test.true, ← c.index-infos-i.is) (none_more g.C.Cell.shows (is_info_of c.args.name.now) _ x c.loop-i.invariant ne)
