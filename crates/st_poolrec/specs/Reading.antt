-- Reading what follows the head.
use Rattle.std.specs.Prelude.{◌≡◌, ℕ, List, ◌++◌}
use Rattle.st_recrows.specs.Rows.{rows_text}
use Rattle.st_recrows.specs.PoolRows.{dev_text, segment_text}
use Rattle.st_poolrec.specs.declared.head.PoolHead.{PoolHead}
use Rattle.st_poolrec.specs.declared.record.PoolRec.{PoolRec}
use Rattle.st_poolrec.specs.Record.{head_of, RecFits}

-- the record has this head, and its rows are these bytes
pub record Follows (head : PoolHead) (rest : List ℕ) (rec : PoolRec) : Type 0 where
  pub fits : RecFits rec
  pub is_head : head_of rec ≡ head
  pub spelled : rest ≡ rows_text dev_text rec.devs ++ rows_text segment_text rec.segments
