use Rattle.std.proofs.Common.{◌≡◌, ◌++◌, drop, map}
use Rattle.st_json.specs.Adds.{listed}
use Rattle.st_replies.specs.Results.{identity_data}
use Rattle.st_replies.proofs.result.put_each_identity.Given as goal

abbrev pub invariant-loop-identity : goal.invariant-loop-identity
invariant-loop-identity l = (l.out.before ≡ l.fn.out.before) × (l.out.tokens ++ listed (map identity_data (drop l.identity-index l.list)) ≡ l.fn.out.tokens ++ listed (map identity_data l.list))
