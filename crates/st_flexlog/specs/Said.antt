-- What a log says: a checkpoint and the deltas behind it.
use Rattle.std.specs.Prelude.{◌≡◌, ℕ, suc, ◌+◌, List, [], ◌∷◌, length, Option, Some, None}
use Rattle.st_recrows.specs.Rows.{Spells}
use Rattle.st_flexrec.specs.declared.record.FlexRec.{FlexRec}
use Rattle.st_flexrec.specs.Record.{record_text}
use Rattle.st_flexrec.specs.Conditions.{IsFlexRec}
use Rattle.st_flexlog.specs.declared.state.FlexState.{FlexState}
use Rattle.st_flexlog.specs.State.{state_of}
use Rattle.st_flexlog.specs.Applied.{applied_bytes}

abbrev pub then_applied : ℕ → List ℕ → Option FlexState → Option FlexState
then_applied generation bytes None = None
then_applied generation bytes (Some st) = applied_bytes generation bytes st

-- the state after these deltas, whose newest is first, and whose first is of the generation after c
abbrev pub replayed : ℕ → List (List ℕ) → FlexState → Option FlexState
replayed c [] st = Some st
replayed c (delta ∷ deltas) st = then_applied (c + suc (length deltas)) delta (replayed c deltas st)

-- The body of a checkpoint of generation c and the bodies of the deltas behind it, the newest first, say this state.
pub record Says (c : ℕ) (body : List ℕ) (deltas : List (List ℕ)) (st : FlexState) : Type 0 where
  pub rec : FlexRec
  pub spelled : Spells (IsFlexRec c) record_text body rec
  pub replays : replayed c deltas (state_of rec) ≡ Some st

-- what they say, or that they say nothing
abbrev pub IsSaid : ℕ → List ℕ → List (List ℕ) → Option FlexState → Type 0
IsSaid c body deltas (Some st) = Says c body deltas st
IsSaid c body deltas None = (st : FlexState) → Says c body deltas st → ⊥
