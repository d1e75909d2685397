use Rattle.std.proofs.Common.{◌≡◌, ◌++◌, length}
use Rattle.st_recrows.specs.Rows.{AllFit, rows_text}
use Rattle.st_recrows.proofs.row.read_rows.Given as goal

abbrev pub invariant-loop-rest : goal.invariant-loop-rest
invariant-loop-rest g l = AllFit g.R.Row.fits l.rows × (l.bytes ≡ rows_text g.R.Row.text l.rows ++ l.rest)

abbrev pub decreases-loop-rest : goal.decreases-loop-rest
decreases-loop-rest g l = length l.rest
