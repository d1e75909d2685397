use Rattle.std.proofs.Common.{◌≡◌, ◌∙◌, refl, sym, ap, subst}
use Rattle.st_model.specs.declared.state.EngineState.{EngineState}
use Rattle.st_rack.specs.Device.{held}
use Rattle.st_image.specs.Rack.{RackStands}
use Rattle.st_pool.specs.View.{now}
use Rattle.st_begin.specs.Begun.{HasBegun}
use Rattle.st_session.proofs.Boards.{counts_of, fresh, run_of}
use Rattle.st_session.proofs.Ends.{not_for_fault, not_for_foreign, not_for_memory}
use Rattle.st_session.proofs.on_rack.run_rack.Goals as goal

pub begin_board-requires : goal.begin_board-requires
begin_board-requires g c = c.requires.fit

pub state_of-state-requires : goal.state_of-state-requires
state_of-state-requires g c =
    let R = g.R.Rack in
    let begun = c.in-Ready.ensures.ready c.in-Ready.board refl in
    (begun.state, subst (λ (r : _). RackStands (R.devs r) (held (now R.moment R.state_at r)) begun.state) (sym c.of-was.ensures) begun.stood)

pub run_board-requires-clause-fresh : goal.run_board-requires-clause-fresh
run_board-requires-clause-fresh g c =
    let R = g.R.Rack in
    let begun = c.in-Ready.ensures.ready c.in-Ready.board refl in
    fresh R.devs R.moment R.state_at R.faults R.spare c.args.rack c.in-Ready.board begun c.state_of-state.result.value
    (c.state_of-state.ensures begun.state (subst (λ (r : _). RackStands (R.devs r) (held (now R.moment R.state_at r)) begun.state) (sym c.of-was.ensures) begun.stood))

pub run_board-requires-clause-few : goal.run_board-requires-clause-few
run_board-requires-clause-few g c = c.requires.few

pub returns-in-Ready-clause-run : goal.returns-in-Ready-clause-run
returns-in-Ready-clause-run g c =
    let R = g.R.Rack in
    let begun = c.in-Ready.ensures.ready c.in-Ready.board refl in
    run_of R.devs R.moment R.state_at R.faults R.spare c.args.rack c.in-Ready.board begun c.args.lanes c.args.lines.now c.state_of-state.result.value c.run_board.result.log.items c.run_board.result.rack
    (c.state_of-state.ensures begun.state (subst (λ (r : _). RackStands (R.devs r) (held (now R.moment R.state_at r)) begun.state) (sym c.of-was.ensures) begun.stood)) c.run_board.ensures.run

pub returns-in-Ready-clause-counts : goal.returns-in-Ready-clause-counts
returns-in-Ready-clause-counts g c =
    let R = g.R.Rack in
    let begun = c.in-Ready.ensures.ready c.in-Ready.board refl in
    counts_of R.devs R.moment R.state_at R.faults R.spare c.args.rack c.in-Ready.board begun c.run_board.result.log.items c.run_board.result.rack c.run_board.ensures.counts

pub returns-in-Ready-clause-answers : goal.returns-in-Ready-clause-answers
returns-in-Ready-clause-answers g c = c.run_board.ensures.answers

pub returns-in-Ready-clause-all : goal.returns-in-Ready-clause-all
returns-in-Ready-clause-all g c = c.run_board.ensures.all

pub returns-in-Ready-clause-early : goal.returns-in-Ready-clause-early
returns-in-Ready-clause-early g c = tt

pub returns-in-Fault-clause-early : goal.returns-in-Fault-clause-early
returns-in-Fault-clause-early g c =
    let R = g.R.Rack in
    not_for_fault R.devs R.moment R.state_at R.faults c.args.rack c.early.result.status c.early.result.log.items c.in-Fault.rack c.early.result.rack c.early.ensures.status c.early.ensures.rack c.early.ensures.log
    (c.in-Fault.ensures.fault_back c.in-Fault.rack refl) (c.in-Fault.ensures.fault c.in-Fault.rack refl)

pub returns-in-Foreign-clause-early : goal.returns-in-Foreign-clause-early
returns-in-Foreign-clause-early g c =
    let R = g.R.Rack in
    not_for_foreign R.devs R.moment R.state_at R.faults c.args.rack c.in-Foreign.serial c.early-in-Foreign.result.status c.early-in-Foreign.result.log.items c.in-Foreign.rack c.early-in-Foreign.result.rack c.early-in-Foreign.ensures.status c.early-in-Foreign.ensures.rack c.early-in-Foreign.ensures.log
    (c.in-Foreign.ensures.foreign_back c.in-Foreign.serial c.in-Foreign.rack refl) (c.in-Foreign.ensures.foreign c.in-Foreign.serial c.in-Foreign.rack refl)

pub returns-in-NoMemory-clause-early : goal.returns-in-NoMemory-clause-early
returns-in-NoMemory-clause-early g c =
    let R = g.R.Rack in
    not_for_memory R.devs R.moment R.state_at R.faults c.args.rack c.early-in-NoMemory.result.status c.early-in-NoMemory.result.log.items c.in-NoMemory.rack c.early-in-NoMemory.result.rack c.early-in-NoMemory.ensures.status c.early-in-NoMemory.ensures.rack c.early-in-NoMemory.ensures.log
    (c.in-NoMemory.ensures.refused c.in-NoMemory.rack refl)
