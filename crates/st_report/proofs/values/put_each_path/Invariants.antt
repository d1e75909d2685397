use Rattle.std.proofs.Common.{◌≡◌, ◌++◌, drop, map}
use Rattle.st_json.specs.Adds.{listed}
use Rattle.serde_json.specs.Data.{string}
use Rattle.st_report.proofs.values.put_each_path.Given as goal

abbrev pub invariant-loop-path : goal.invariant-loop-path
invariant-loop-path l = (l.out.before ≡ l.fn.out.before) × (l.out.tokens ++ listed (map string (drop l.path-index l.paths)) ≡ l.fn.out.tokens ++ listed (map string l.paths))
