use Rattle.std.proofs.Common.{◌≡◌, ◌++◌, drop, map}
use Rattle.st_model.specs.steps.CreateFilesystems.{new_fs}
use Rattle.st_filesystems.proofs.new.new_of.Given as goal

abbrev pub invariant-loop-fs : goal.invariant-loop-fs
invariant-loop-fs l = l.list ++ map (new_fs l.pool) (drop l.fs-index l.filesystems) ≡ map (new_fs l.pool) l.filesystems
