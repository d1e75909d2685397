use Rattle.std.proofs.Common.{◌≡◌, ◌++◌, drop}
use Rattle.st_copies.proofs.parts.filesystems_copy.Given as goal

abbrev pub invariant-loop-fs : goal.invariant-loop-fs
invariant-loop-fs l = l.list ++ drop l.fs-index l.filesystems ≡ l.filesystems
