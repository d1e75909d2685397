-- Reading what follows the head.
use Rattle.std.specs.Prelude.{◌≡◌, ℕ, List, ◌++◌}
use Rattle.st_flexrec.specs.declared.head.FlexHead.{FlexHead}
use Rattle.st_flexrec.specs.declared.record.FlexRec.{FlexRec}
use Rattle.st_flexrec.specs.Record.{head_of, fs_rows_text, map_rows_text, cell_rows_text, RecFits}

-- the record has this head, and its rows are these bytes
pub record Follows (head : FlexHead) (rest : List ℕ) (rec : FlexRec) : Type 0 where
  pub fits : RecFits rec
  pub is_head : head_of rec ≡ head
  pub spelled : rest ≡ fs_rows_text rec ++ (map_rows_text rec ++ cell_rows_text rec)
