use Rattle.std.proofs.Common.{subst}
use Rattle.st_board.specs.Holds.{IsBoardKept}
use Rattle.st_board.specs.View.{BoardView}
use Rattle.st_running.proofs.laws.board_keeps.Goals as goal

pub returns : goal.returns
returns g c = let R = g.R.Rack in subst (λ (v : BoardView _). IsBoardKept R.devs R.moment R.state_at v) c.board.view_is c.board.invariant.keeps
