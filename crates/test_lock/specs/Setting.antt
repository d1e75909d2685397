-- SetFsLimit on the cell that its ticket holds
use Rattle.std.specs.Prelude.{ℕ, ◌≡◌, Bool, true, false, [], List}
use Rattle.std.specs.List.{AllByRecursion}
use Rattle.st_wants.specs.Wants.{writes}
use Rattle.st_model.specs.declared.call.Call.{Call}
use Rattle.st_model.specs.declared.call.Call.TheVariants.{SetFsLimit}
use Rattle.st_model.specs.declared.entry.Entry.{Entry}
use Rattle.st_model.specs.declared.entry.Env.TheVariants.{Plain}
use Rattle.st_model.specs.declared.reply.Reply.{Reply}
use Rattle.st_model.specs.declared.state.EngineState.{EngineState}
use Rattle.st_model.specs.declared.state.PoolState.{PoolState}
use Rattle.st_model.specs.Answer.{unless_answered}
use Rattle.st_model.specs.Checks.{not_up}
use Rattle.st_model.specs.Look.{Text}
use Rattle.st_model.specs.Pieces.{ArePools}
use Rattle.st_model.specs.Step.{step}
use Rattle.st_model.specs.Wanted.{want_of}
use Rattle.st_model.specs.steps.SetFsLimit.{set_fs_limit}
use Rattle.st_plain.specs.Parts.{CellIsShown}
use Rattle.st_plain.specs.Views.{CellView, pools_of}
use Rattle.test_lock.specs.Creating.{IsModels}

abbrev pub is_setting : Call → Bool
is_setting (SetFsLimit pool limit) = true
is_setting call = false

abbrev pub pool_in : Call → Text
pool_in (SetFsLimit pool limit) = pool
pool_in call = []

abbrev pub limit_in : Call → ℕ
limit_in (SetFsLimit pool limit) = limit
limit_in call = 0

-- what is answered of a started pool, and what it is then
abbrev pub limited : ℕ → PoolState → Reply × PoolState
limited limit p = unless_answered (not_up p p.mode) p (set_fs_limit limit p)

-- the pools are those that the call's ticket may change
abbrev pub AreOf : EngineState → Call → List CellView → Type 0
AreOf s call cells = ArePools (writes (want_of call)) s (pools_of cells)

-- the call met nothing and was answered so in this state, and the cells are what it leaves
pub record IsSet (s : EngineState) (call : Call) (reply : Reply) (cells : List CellView) : Type 0 where
  pub answer : reply ≡ (step s call Plain).0
  pub pools : AreOf (step s call Plain).1 call cells
  pub infos : AllByRecursion (CellIsShown s) cells

-- the line's call was answered as the model answers it, or was refused memory, and the cells are what it leaves
pub record HasSet (s : EngineState) (call : Call) (line : ℕ) (e : Entry) (cells : List CellView) : Type 0 where
  pub models : IsModels s call line e
  pub pools : AreOf (step s call e.env).1 call cells
  pub infos : AllByRecursion (CellIsShown s) cells
