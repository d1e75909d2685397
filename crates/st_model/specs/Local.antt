-- what it is for a call to be local to the pools that it wants
use Rattle.std.specs.Prelude.{◌≡◌, Bool, false, Option, Some, None, if◌then◌else◌}
use Rattle.st_model.specs.declared.reply.Reply.{Reply}
use Rattle.st_model.specs.declared.state.EngineState.{EngineState}
use Rattle.st_model.specs.Look.{Text}
use Rattle.st_model.specs.Parts.{pool_at, own, table_of, AgreeOn}

-- an answer with the state after it; none where the call can't meet what it is said to meet
abbrev pub Outcome : Type 0
Outcome = Option (Reply × EngineState)

abbrev pub where_so : Bool → Reply × EngineState → Outcome
where_so b answered = if b then Some answered else None

-- all but the pools of these names stays: each other pool, started or not, and what the table stands for
pub record Leaves (is_in : Text → Bool) (s t : EngineState) : Type 0 where
  pub pools : (n : Text) → is_in n ≡ false → pool_at n t.pools ≡ pool_at n s.pools
  pub cells : (n : Text) → is_in n ≡ false → own n t ≡ own n s
  pub table : table_of t ≡ table_of s

-- two outcomes are alike for one who sees these pools alone: both are there or none is, with the same answer,
-- and they agree on the pools afterwards
abbrev pub AreAlike : (Text → Bool) → Outcome → Outcome → Type 0
AreAlike is_in None None = Unit {0}
AreAlike is_in None (Some b) = ⊥
AreAlike is_in (Some a) None = ⊥
AreAlike is_in (Some a) (Some b) = (a.0 ≡ b.0) × AgreeOn is_in a.1 b.1

abbrev pub LeavesIfAny : (Text → Bool) → EngineState → Outcome → Type 0
LeavesIfAny is_in s None = Unit {0}
LeavesIfAny is_in s (Some after) = Leaves is_in s after.1

-- what comes out depends on the pools of these names alone, or on there being none, and all else stays
pub record IsLocal (is_in : Text → Bool) (out : EngineState → Outcome) : Type 0 where
  pub alike : (s t : EngineState) → AgreeOn is_in s t → AreAlike is_in (out s) (out t)
  pub others : (s : EngineState) → LeavesIfAny is_in s (out s)
