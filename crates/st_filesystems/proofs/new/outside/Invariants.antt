use Rattle.std.proofs.Common.{◌≡◌, ◌++◌, drop}
use Rattle.st_filesystems.specs.inner.Creating.{outside}
use Rattle.st_filesystems.proofs.new.outside.Given as goal

abbrev pub invariant-loop-spec : goal.invariant-loop-spec
invariant-loop-spec l = l.list ++ outside l.filesystems (drop l.spec-index l.specs) ≡ outside l.filesystems l.specs
