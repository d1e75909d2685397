use Rattle.std.proofs.Common.{◌≡◌, ◌++◌, take}
use Rattle.st_recrows.specs.Rows.{AllFit, rows_text}
use Rattle.st_recrows.proofs.row.put_rows.Given as goal

abbrev pub invariant-loop-row : goal.invariant-loop-row
invariant-loop-row g l = AllFit g.R.Row.fits (take l.row-index l.rows) × (l.out.items ≡ l.fn.out.items ++ rows_text g.R.Row.text (take l.row-index l.rows))
