use Rattle.std.proofs.Common.{◌≡◌, ◌++◌, drop, map}
use Rattle.st_json.specs.Adds.{listed}
use Rattle.st_report.specs.Pool.{pool_data}
use Rattle.st_report.proofs.pool.put_each_pool.Given as goal

abbrev pub invariant-loop-info : goal.invariant-loop-info
invariant-loop-info l = (l.out.before ≡ l.fn.out.before) × (l.out.tokens ++ listed (map pool_data (drop l.info-index l.infos)) ≡ l.fn.out.tokens ++ listed (map pool_data l.infos))
