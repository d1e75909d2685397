use Rattle.std.proofs.Common.{arith}
use Rattle.st_turn.proofs.Counting.{count_allows}
use Rattle.st_turn.proofs.steps.count.Goals as goal

pub load-requires : goal.load-requires
load-requires g c =
    let b = g.B.Logged in
    let w = c.requires.words in
    (c.requires.here, omega (arith, w), count_allows b.by b.events b.opens b.fits c.args.table.now.table_id.slots c.args.seat.now.id c.args.seat.now.me c.requires.out)
