use Rattle.std.proofs.Common.{◌≡◌, ◌++◌, drop}
use Rattle.st_model.proofs.call_copy.specs_copy.Given as goal

abbrev pub invariant-loop-spec : goal.invariant-loop-spec
invariant-loop-spec l = l.list ++ drop l.spec-index l.specs ≡ l.specs
