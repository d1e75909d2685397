-- CreatePool on the part that its ticket holds
use Rattle.std.specs.Prelude.{ℕ, ◌≡◌, ◌⊎◌, List}
use Rattle.std.specs.List.{AllByRecursion}
use Rattle.st_model.specs.declared.call.Call.{Call}
use Rattle.st_model.specs.declared.call.Call.TheVariants.{CreatePool}
use Rattle.st_model.specs.declared.entry.Entry.{Entry}
use Rattle.st_model.specs.declared.entry.Env.TheVariants.{Plain, NoMem}
use Rattle.st_model.specs.declared.entry.Origin.TheVariants.{Line}
use Rattle.st_model.specs.declared.state.EngineState.{EngineState}
use Rattle.st_model.specs.Look.{Text}
use Rattle.st_model.specs.Step.{step}
use Rattle.st_plain.specs.Parts.{PartIs, CellIsShown, TableIsShown}
use Rattle.st_plain.specs.Views.{CellView, TableView, pools_of}

pub record IsCreation (call : Call) : Type 0 where
  pub name : Text
  pub devices : List Text
  pub is : call ≡ CreatePool name devices

-- the line's call, which met nothing or was refused memory, and was answered as the model answers it in this state
pub record IsModels (s : EngineState) (call : Call) (line : ℕ) (e : Entry) : Type 0 where
  pub call_is : e.call ≡ call
  pub from : e.from ≡ Line line
  pub env : (e.env ≡ Plain) ⊎ (e.env ≡ NoMem)
  pub replied : e.reply ≡ (step s call e.env).0

-- and the cells and the table are what it leaves
pub record HasMade (s : EngineState) (call : Call) (line : ℕ) (e : Entry) (cells : List CellView) (table : TableView) : Type 0 where
  pub models : IsModels s call line e
  pub part : PartIs (step s call e.env).1 (pools_of cells) table.state
  pub infos : AllByRecursion (CellIsShown s) cells
  pub table_info : TableIsShown s table
