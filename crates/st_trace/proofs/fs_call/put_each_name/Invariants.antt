use Rattle.std.proofs.Common.{◌≡◌, ◌++◌, drop, map}
use Rattle.st_json.specs.Adds.{listed}
use Rattle.serde_json.specs.Data.{string}
use Rattle.st_trace.proofs.fs_call.put_each_name.Given as goal

abbrev pub invariant-loop-name : goal.invariant-loop-name
invariant-loop-name l = (l.out.before ≡ l.fn.out.before) × (l.out.tokens ++ listed (map string (drop l.name-index l.names)) ≡ l.fn.out.tokens ++ listed (map string l.names))
