use Rattle.std.proofs.Common.{◌≡◌, ◌++◌, drop, map}
use Rattle.st_json.specs.Adds.{listed}
use Rattle.st_report.specs.Pool.{filesystem_data}
use Rattle.st_report.proofs.pool.put_each_filesystem.Given as goal

abbrev pub invariant-loop-info : goal.invariant-loop-info
invariant-loop-info l = (l.out.before ≡ l.fn.out.before) × (l.out.tokens ++ listed (map (filesystem_data l.pool) (drop l.info-index l.infos)) ≡ l.fn.out.tokens ++ listed (map (filesystem_data l.pool) l.infos))
