-- which state the pieces of a part stand for
use Rattle.std.specs.Prelude.{◌≡◌, ◌⊎◌, true, List, [], Some}
use Rattle.std.specs.List.{AllByRecursion}
use Rattle.st_units.specs.declared.rows.DevRow.{DevRow}
use Rattle.st_model.specs.declared.call.Call.{Call}
use Rattle.st_model.specs.declared.entry.Env.TheVariants.{Plain}
use Rattle.st_model.specs.declared.reply.Reply.{Reply}
use Rattle.st_model.specs.declared.state.EngineState.{EngineState}
use Rattle.st_model.specs.declared.state.PoolState.{PoolState}
use Rattle.st_model.specs.declared.state.TableState.{TableState}
use Rattle.st_model.specs.Parts.{own, table_of}
use Rattle.st_model.specs.Pieces.{ArePools, every}
use Rattle.st_model.specs.Step.{step}
use Rattle.st_plain.specs.Views.{CellView, TableView, pools_of}

-- The cells are the started pools of the state, in any order, and the table is its table.
pub record PartIs (s : EngineState) (cells : List PoolState) (table : TableState) : Type 0 where
  pub pools : ArePools every s cells
  pub board : table ≡ table_of s

-- there is a spare info of the cell, or the state has the same pool, so that older infos serve
abbrev pub CellIsShown : EngineState → CellView → Type 0
CellIsShown s c = (c.spare ≡ true) ⊎ (own c.pool.name s ≡ Some c.pool)

abbrev pub TableIsShown : EngineState → TableView → Type 0
TableIsShown s t = (t.spare ≡ true) ⊎ (t.state ≡ table_of s)

-- the call was answered in this state, and the part is what the call leaves
pub record IsAnswered (s : EngineState) (call : Call) (reply : Reply) (cells : List CellView) (table : TableView) : Type 0 where
  pub answer : reply ≡ (step s call Plain).0
  pub part : PartIs (step s call Plain).1 (pools_of cells) table.state
  pub infos : AllByRecursion (CellIsShown s) cells
  pub table_info : TableIsShown s table

-- the state in which a run begins: no pool, and these devices
abbrev pub opening : List DevRow → EngineState
opening devices = record { pools = []; devices = devices; next = 1 }
