-- SetOverprovisioning: whether the sizes of all filesystems may be more than the room
use Rattle.std.specs.Prelude.{◌+◌, List, [], ◌∷◌, Bool, true, false, not, ◌&&◌, nat_lt, Option, Some, None, if◌then◌else◌}
use Rattle.st_units.specs.declared.cause.Cause.TheVariants.{OverProvision}
use Rattle.st_model.specs.declared.reply.Given.TheVariants.{Done}
use Rattle.st_model.specs.declared.reply.Reply.{Reply}
use Rattle.st_model.specs.declared.state.PoolState.{PoolState}
use Rattle.st_model.specs.Answer.{accepted, refused_where, first_answer, unless_answered}
use Rattle.st_model.specs.Checks.{sizes, worn}
use Rattle.st_model.specs.Sums.{room}

abbrev pub same_truth : Bool → Bool → Bool
same_truth true b = b
same_truth false b = not b

abbrev pub overprovisioning_answers : Bool → PoolState → List (Option Reply)
overprovisioning_answers value p =
    (if same_truth value p.overprovisioning then Some (accepted (Done false)) else None)
    ∷ refused_where (not value && nat_lt (room p) (sizes p.filesystems)) (OverProvision (sizes p.filesystems) (room p))
    ∷ worn p
    ∷ []

unfoldable pub set_overprovisioning : Bool → PoolState → Reply × PoolState
set_overprovisioning value p =
    unless_answered (first_answer (overprovisioning_answers value p)) p
    (accepted (Done true), record p { overprovisioning = value; commits = p.commits + 1 })
