use Rattle.std.proofs.Common.{arith}
use Rattle.st_turn.proofs.Turns.{draw_allows}
use Rattle.st_turn.proofs.steps.draw.Goals as goal

pub compare_exchange-requires : goal.compare_exchange-requires
compare_exchange-requires g c =
    let b = g.B.Logged in
    let w = c.requires.words in
    (c.requires.here, omega (arith, w), draw_allows b.by b.events b.opens b.fits c.args.table.now.table_id.slots c.args.seat.now.id c.args.seat.now.me c.args.ticket c.requires.out (omega (arith, c.requires.few)))
