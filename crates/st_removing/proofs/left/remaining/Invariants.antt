use Rattle.std.proofs.Common.{◌≡◌, ◌++◌, drop, filter, map, not}
use Rattle.st_model.specs.declared.state.FsState.{FsState}
use Rattle.st_model.specs.steps.DestroyFilesystems.{goes, left_by, remaining}
use Rattle.st_removing.proofs.left.remaining.Given as goal

abbrev pub invariant-loop-fs : goal.invariant-loop-fs
invariant-loop-fs l =
    l.list ++ map (left_by l.names l.filesystems) (filter (λ (fs : FsState). not (goes l.names fs)) (drop l.fs-index l.filesystems)) ≡ remaining l.names l.filesystems
