use Rattle.std.proofs.Common.{◌≡◌, ◌∷◌, ◌++◌, drop}
use Rattle.st_filesystems.specs.inner.Creating.{others}
use Rattle.st_filesystems.proofs.new.with_others.Given as goal

abbrev pub invariant-loop-spec : goal.invariant-loop-spec
invariant-loop-spec l = l.list ++ others l.first.name (drop l.spec-index l.specs) ≡ l.first ∷ others l.first.name l.specs
