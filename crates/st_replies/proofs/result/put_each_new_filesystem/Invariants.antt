use Rattle.std.proofs.Common.{◌≡◌, ◌++◌, drop, map}
use Rattle.st_json.specs.Adds.{listed}
use Rattle.st_replies.specs.Results.{new_filesystem}
use Rattle.st_replies.proofs.result.put_each_new_filesystem.Given as goal

abbrev pub invariant-loop-fs : goal.invariant-loop-fs
invariant-loop-fs l = (l.out.before ≡ l.fn.out.before) × (l.out.tokens ++ listed (map new_filesystem (drop l.fs-index l.list)) ≡ l.fn.out.tokens ++ listed (map new_filesystem l.list))
