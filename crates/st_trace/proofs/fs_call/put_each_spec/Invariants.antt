use Rattle.std.proofs.Common.{◌≡◌, ◌++◌, drop, map}
use Rattle.st_json.specs.Adds.{listed}
use Rattle.st_trace.specs.Calls.{fs_spec}
use Rattle.st_trace.proofs.fs_call.put_each_spec.Given as goal

abbrev pub invariant-loop-fs : goal.invariant-loop-fs
invariant-loop-fs l = (l.out.before ≡ l.fn.out.before) × (l.out.tokens ++ listed (map fs_spec (drop l.fs-index l.filesystems)) ≡ l.fn.out.tokens ++ listed (map fs_spec l.filesystems))
