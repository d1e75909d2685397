use Rattle.std.proofs.Common.{◌≡◌, drop}
use Rattle.st_flexlog.specs.Applied.{put_rows}
use Rattle.st_flexlog.proofs.mappings.put_rows.Given as goal

abbrev pub invariant-loop-row : goal.invariant-loop-row
invariant-loop-row l = put_rows (drop l.row-index l.rows) l.mappings ≡ put_rows l.rows l.fn.mappings
