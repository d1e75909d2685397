use Rattle.std.proofs.Common.{◌≡◌, ◌++◌, drop}
use Rattle.st_report.specs.Engine.{pool_rows}
use Rattle.st_json.specs.Adds.{listed}
use Rattle.st_report.proofs.engine.put_rows.Given as goal

abbrev pub invariant-loop-info : goal.invariant-loop-info
invariant-loop-info l = (l.out.before ≡ l.fn.out.before) × (l.out.tokens ++ listed (pool_rows (drop l.info-index l.infos) l.rest) ≡ l.fn.out.tokens ++ listed (pool_rows l.infos l.stopped))
