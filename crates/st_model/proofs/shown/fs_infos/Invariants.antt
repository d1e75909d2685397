use Rattle.std.proofs.Common.{◌≡◌, ◌++◌, drop, map}
use Rattle.st_model.specs.Shown.{fs_info}
use Rattle.st_model.proofs.shown.fs_infos.Given as goal

abbrev pub invariant-loop-fs : goal.invariant-loop-fs
invariant-loop-fs l = l.list ++ map fs_info (drop l.fs-index l.filesystems) ≡ map fs_info l.filesystems
