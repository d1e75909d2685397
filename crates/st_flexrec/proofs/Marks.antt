-- The marks of the cells that mappings name.
use Rattle.std.proofs.Common.{◌≡◌, ℕ, ◌<◌, Bool, false, List, length}
use Rattle.std.specs.List.{slice_index_or, list_any}
use Rattle.std.specs.Prelude.{◌==◌}
use Rattle.st_flexrec.specs.declared.rows.MapRow.{MapRow}

-- the marks of so many cells that these mappings name
pub record Marked (cells : ℕ) (mappings : List MapRow) (marks : List Bool) : Type 0 where
  pub long : length marks ≡ cells
  pub marked : (k : ℕ) → k < cells → slice_index_or marks k false ≡ list_any (λ m. m.cell == k) mappings
