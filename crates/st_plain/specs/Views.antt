-- what contracts see of a cell and of the table
use Rattle.std.specs.Prelude.{Bool, List, map}
use Rattle.st_model.specs.declared.state.PoolState.{PoolState}
use Rattle.st_model.specs.declared.state.TableState.{TableState}

-- a started pool, and whether there is a spare info of it
pub record CellView : Type 0 where
  pub pool : PoolState
  pub spare : Bool

-- the table, and whether there is a spare info of it
pub record TableView : Type 0 where
  pub state : TableState
  pub spare : Bool

abbrev pub pools_of : List CellView → List PoolState
pools_of cells = map (λ (c : CellView). c.pool) cells
