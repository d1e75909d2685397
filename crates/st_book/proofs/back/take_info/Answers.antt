use Rattle.std.proofs.Common.{◌≡◌, true, None, map, take, sym, arith}
use Rattle.std.proofs.lemmas.List.Edits.{length-remove}
use Rattle.std.proofs.lemmas.Option.{slice_get_within}
use Rattle.st_book.specs.Effects.{is_info_of}
use Rattle.st_model.specs.Pieces.{info_at}
use Rattle.st_book.proofs.Finds.{found_first, others_stay}
use Rattle.st_book.proofs.back.take_info.Goals as goal

pub returns-in-Some-clause-found : goal.returns-in-Some-clause-found
returns-in-Some-clause-found g c =
    let x = c.take_at.result in
    let named : is_info_of c.args.name.now (g.C.Cell.shows x) ≡ true = rw (← g.met.C.Cell.info_name_is x) (rw (c.items.ensures, c.take_at.ensures.taken) at c.in-Some.ensures.some) in
    let first : info_at c.args.name.now (map g.C.Cell.shows (take c.in-Some.i c.args.infos.now.items)) ≡ None = rw c.items.ensures at c.in-Some.ensures.first in
    sym (found_first g.C.Cell.shows (is_info_of c.args.name.now) c.args.infos.now.items c.in-Some.i x first c.take_at.ensures.taken named)

pub returns-in-Some-clause-others : goal.returns-in-Some-clause-others
returns-in-Some-clause-others g c = λ m ne.
    let x = c.take_at.result in
    let named : is_info_of c.args.name.now (g.C.Cell.shows x) ≡ true = rw (← g.met.C.Cell.info_name_is x) (rw (c.items.ensures, c.take_at.ensures.taken) at c.in-Some.ensures.some) in
    rw c.take_at.ensures.items (others_stay g.C.Cell.shows c.args.name.now m c.args.infos.now.items c.in-Some.i x c.take_at.ensures.taken named ne)

pub returns-in-Some-clause-places : goal.returns-in-Some-clause-places
returns-in-Some-clause-places g c =
    let inside = slice_get_within c.args.infos.now.items c.in-Some.i c.take_at.result c.take_at.ensures.taken in
    rw (c.take_at.ensures.items, c.take_at.ensures.room) (omega (arith, length-remove c.args.infos.now.items c.in-Some.i inside))
