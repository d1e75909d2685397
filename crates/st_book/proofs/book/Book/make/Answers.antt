use Rattle.std.proofs.Common.{◌≡◌, [], map, refl, ap, ◌∙◌, arith}
use Rattle.std.specs.List.{sum_by}
use Rattle.std.proofs.lemmas.List.{nil_from_length}
use Rattle.st_book.proofs.Standing.{stands_made}
use Rattle.st_book.proofs.book.Book.make.Goals as goal

pub returns-clause-stands : goal.returns-clause-stands
returns-clause-stands g c = λ s at none.
    let cells : c.in-Ok.rooms.cells.items ≡ [] = nil_from_length c.in-Ok.rooms.cells.items c.in-Ok.ensures.cells.0 in
    let infos : c.in-Ok.rooms.infos.items ≡ [] = nil_from_length c.in-Ok.rooms.infos.items c.in-Ok.ensures.infos.0 in
    let one : g.T.Board.fault_count c.info.new.self ≡ 0 = c.info.ensures.faults ∙ c.requires.faults in
    let rest : sum_by g.C.Cell.fault_count c.in-Ok.rooms.cells.items ≡ 0 = ap (λ xs. sum_by g.C.Cell.fault_count xs) cells in
    stands_made s _ (g.T.Board.stands c.args.table) (g.T.Board.slack c.args.table) at none c.in-Ok.ensures.grants c.make.ensures (ap (map g.C.Cell.state) cells) (ap (map g.C.Cell.shows) infos)
    (rw (c.info.ensures.state, c.info.ensures.slack) refl) c.in-Some.ensures.shown (omega (arith, one, rest)) c.new.ensures.items c.no_notes.ensures
