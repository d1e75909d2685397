use Rattle.std.proofs.Common.{◌≡◌, true, None, map, take, sym}
use Rattle.std.specs.Prelude.{slice_get}
use Rattle.std.specs.Str.{bytes_eq}
use Rattle.st_grants.proofs.Sound.{some_and}
use Rattle.st_model.specs.Pieces.{info_at}
use Rattle.st_book.proofs.Finds.{put_in, none_in}
use Rattle.st_book.proofs.back.put_info.Goals as goal

pub returns-in-Some-clause-infos : goal.returns-in-Some-clause-infos
returns-in-Some-clause-infos g c =
    let n = c.name.result.now in
    let items = c.args.infos.now.items in
    let own : (g.C.Cell.shows c.args.info).name ≡ n = rw (← g.met.C.Cell.info_name_is c.args.info) (sym (rw c.value.ensures at c.name.ensures)) in
    let old = some_and (λ x. bytes_eq (g.C.Info.Named.named x) n ≡ true) (slice_get items c.in-Some.i) (rw c.items.ensures at c.in-Some.ensures.some) in
    let first : info_at n (map g.C.Cell.shows (take c.in-Some.i items)) ≡ None = rw c.items.ensures at c.in-Some.ensures.first in
    rw c.replace.ensures.items (put_in g.C.Cell.shows n items c.in-Some.i c.args.info old.0 own first old.1 (rw (← g.met.C.Cell.info_name_is old.0) old.2))

pub returns-in_default-clause-infos : goal.returns-in_default-clause-infos
returns-in_default-clause-infos g c =
    let n = c.name.result.now in
    let own : (g.C.Cell.shows c.args.info).name ≡ n = rw (← g.met.C.Cell.info_name_is c.args.info) (sym (rw c.value.ensures at c.name.ensures)) in
    let none : info_at n (map g.C.Cell.shows c.args.infos.now.items) ≡ None = rw c.items.ensures at c.in_default.ensures.none in
    sym (none_in (g.C.Cell.shows c.args.info) (map g.C.Cell.shows c.args.infos.now.items) (rw own none))
