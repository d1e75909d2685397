use Rattle.std.proofs.Common.{◌≡◌, ◌++◌, drop, map}
use Rattle.st_json.specs.Adds.{listed}
use Rattle.st_report.specs.Engine.{stopped_row}
use Rattle.st_report.proofs.engine.put_stopped.Given as goal

abbrev pub invariant-loop-row : goal.invariant-loop-row
invariant-loop-row l = (l.out.before ≡ l.fn.out.before) × (l.out.tokens ++ listed (map stopped_row (drop l.row-index l.rows)) ≡ l.fn.out.tokens ++ listed (map stopped_row l.rows))
