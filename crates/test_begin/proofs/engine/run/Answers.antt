use Rattle.std.proofs.Common.{refl}
use Rattle.test_begin.proofs.Engines.{opens}
use Rattle.test_begin.proofs.engine.run.Goals as goal

pub run_board-requires-clause-spare : goal.run_board-requires-clause-spare
run_board-requires-clause-spare g c = (c.in-Ready.ensures.ready c.in-Ready.board refl).board.shown

pub run_board-requires-clause-faults : goal.run_board-requires-clause-faults
run_board-requires-clause-faults g c = (c.in-Ready.ensures.ready c.in-Ready.board refl).board.none

pub run_board-requires-clause-opens : goal.run_board-requires-clause-opens
run_board-requires-clause-opens g c =
    let begun = c.in-Ready.ensures.ready c.in-Ready.board refl in
    opens c.in-Ready.board.state begun.state begun.board.stands begun.valid begun.idle
