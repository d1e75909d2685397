use Rattle.std.proofs.Common.{◌≡◌, ◌++◌, drop, map}
use Rattle.st_json.specs.Adds.{listed}
use Rattle.st_report.specs.Pool.{device_data}
use Rattle.st_report.proofs.pool.put_each_device.Given as goal

abbrev pub invariant-loop-row : goal.invariant-loop-row
invariant-loop-row l = (l.out.before ≡ l.fn.out.before) × (l.out.tokens ++ listed (map device_data (drop l.row-index l.rows)) ≡ l.fn.out.tokens ++ listed (map device_data l.rows))
