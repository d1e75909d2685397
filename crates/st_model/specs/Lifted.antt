-- what is done within one pool, lifted to the engine's state
use Rattle.std.specs.Prelude.{◌≡◌, [], ◌∷◌, Bool, true, ◌&&◌, Option, Some, None, map, if◌then◌else◌}
use Rattle.std.specs.List.{list_any}
use Rattle.st_wants.specs.Names.{is_named}
use Rattle.st_units.specs.declared.cause.Cause.TheVariants.{NoSuchPool, PoolStopped, Maintenance}
use Rattle.st_model.specs.declared.reply.Reply.{Reply}
use Rattle.st_model.specs.declared.state.EngineState.{EngineState}
use Rattle.st_model.specs.declared.state.PoolMode.{PoolMode}
use Rattle.st_model.specs.declared.state.PoolMode.TheVariants.{Up, Down, Stopped, Unsettled, Incomplete}
use Rattle.st_model.specs.declared.state.PoolState.{PoolState}
use Rattle.st_model.specs.Answer.{refused}
use Rattle.st_model.specs.Look.{Text, is_called, is_up, is_started}
use Rattle.st_model.specs.Parts.{known, own}
use Rattle.st_model.specs.Local.{IsLocal}

-- what a call makes of a pool that is up: its answer, and the pool after it
abbrev pub Doing : Type 0
Doing = PoolState → Reply × PoolState

-- the pool is up, and of this name
abbrev pub runs_as : Text → PoolState → Bool
runs_as name p = is_up p.mode && is_called name p

abbrev pub one_changed : Text → (PoolState → PoolState) → PoolState → PoolState
one_changed name g p = if runs_as name p then g p else p

-- the state with the pool of this name changed, where it is up
abbrev pub changed : Text → (PoolState → PoolState) → EngineState → EngineState
changed name g s = record s { pools = map (one_changed name g) s.pools }

-- some pool has the name
abbrev pub is_known : Text → EngineState → Bool
is_known name s = list_any (is_called name) s.pools

-- check P: no pool, a pool that isn't started, one that is down; else what is answered of the pool
abbrev pub answer_in : (PoolState → Reply) → PoolState → PoolMode → Reply
answer_in f p Up = f p
answer_in f p (Down call) = refused (Maintenance p.name)
answer_in f p Stopped = refused PoolStopped
answer_in f p (Unsettled call) = refused PoolStopped
answer_in f p (Incomplete path) = refused PoolStopped

abbrev pub answer_of : (PoolState → Reply) → Bool → Option PoolState → Reply
answer_of f some None = refused (if some then PoolStopped else NoSuchPool)
answer_of f some (Some p) = answer_in f p p.mode

unfoldable pub on_pool : Text → Doing → EngineState → Reply × EngineState
on_pool name f s = (answer_of (λ p. (f p).0) (is_known name s) (own name s), changed name (λ p. (f p).1) s)

-- all but what is within the pool is as it was
pub record SameOutside (p q : PoolState) : Type 0 where
  pub serial : q.serial ≡ p.serial
  pub name : q.name ≡ p.name
  pub mode : q.mode ≡ p.mode
  pub devices : q.devices ≡ p.devices

abbrev pub IsWithin : Doing → Type 0
IsWithin f = (p : PoolState) → SameOutside p (f p).1

-- what is made of a pool leaves it started, and leaves what the table tells of it
pub record KeepsOne (g : PoolState → PoolState) (p : PoolState) : Type 0 where
  pub known : known (g p) ≡ known p
  pub started : is_started (g p).mode ≡ true

abbrev pub Keeps : (PoolState → PoolState) → Type 0
Keeps g = (p : PoolState) → p.mode ≡ Up → KeepsOne g p

abbrev pub LiftedIsLocal : Type 0
LiftedIsLocal = (name : Text) (f : Doing) → IsWithin f → IsLocal (is_named (name ∷ [])) (λ s. Some (on_pool name f s))
