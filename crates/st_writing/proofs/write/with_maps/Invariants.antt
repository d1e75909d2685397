use Rattle.std.proofs.Common.{◌≡◌, ◌++◌, drop, map}
use Rattle.st_model.specs.steps.FsWrite.{with_map}
use Rattle.st_writing.proofs.write.with_maps.Given as goal

abbrev pub invariant-loop-fs : goal.invariant-loop-fs
invariant-loop-fs l = l.list ++ map (with_map l.serial l.mapped) (drop l.fs-index l.filesystems) ≡ map (with_map l.serial l.mapped) l.filesystems
