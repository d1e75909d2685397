use Rattle.std.proofs.Common.{◌≡◌, refl, sym, ◌∙◌, ap, subst}
use Rattle.st_model.specs.declared.state.EngineState.{EngineState}
use Rattle.st_history.specs.History.{replay}
use Rattle.st_history.proofs.ValidReplay.{valid_replay}
use Rattle.st_board.specs.Ran.{AreAll}
use Rattle.st_memrack.specs.MemRack.{mem_devs, mem_faults, mem_moment, mem_state_at}
use Rattle.test_begin.proofs.Engines.{all_home}
use Rattle.test_begin.proofs.engine.close.Goals as goal

pub close_board-requires : goal.close_board-requires
close_board-requires g c =
    let board = c.in-Quiet.board in let cells = c.in-Quiet.cells.items in let log = c.in-Quiet.log.items in
    let closed = c.in-Quiet.ensures.quiet c.in-Quiet.board c.in-Quiet.cells c.in-Quiet.log refl in
    let first = c.args.seat.opening.state in
    let same : c.state_after-state.result.value ≡ replay first log = c.state_after-state.ensures ∙ ap (λ (s : EngineState). replay s log) c.requires.opening in
    subst (λ (s : EngineState). AreAll mem_devs mem_moment mem_state_at mem_faults s cells board) (sym same)
    (all_home mem_devs mem_moment mem_state_at mem_faults (replay first log) board cells (valid_replay first log c.requires.valid) closed.quiet.part closed.kept.0)
