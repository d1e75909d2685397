use Rattle.std.proofs.Common.{arith}
use Rattle.st_turn.proofs.Splits.{number_allows}
use Rattle.st_turn.proofs.steps.draw_number.Goals as goal

pub compare_exchange-requires : goal.compare_exchange-requires
compare_exchange-requires g c =
    let b = g.B.Logged in
    let w = c.requires.words in
    (c.requires.here, omega (arith, w), number_allows b.by b.events b.opens b.fits c.args.table.now.table_id.slots c.args.seat.now.id c.args.seat.now.me c.args.number c.requires.out)
