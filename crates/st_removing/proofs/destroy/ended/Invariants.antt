use Rattle.std.proofs.Common.{◌≡◌, ◌++◌, drop}
use Rattle.st_removing.specs.inner.Ended.{ended}
use Rattle.st_removing.proofs.destroy.ended.Given as goal

abbrev pub invariant-loop-name : goal.invariant-loop-name
invariant-loop-name l = l.list ++ ended l.pool l.filesystems (drop l.name-index l.names) ≡ ended l.pool l.filesystems l.names
