use Rattle.std.proofs.Common.{◌≡◌, ◌++◌, drop, filter, map, not}
use Rattle.st_model.specs.declared.state.FsState.{FsState}
use Rattle.st_model.specs.Merged.{merged_filesystems, merged_fs}
use Rattle.st_merges.proofs.merging.merged_filesystems.Given as goal

abbrev pub invariant-loop-fs : goal.invariant-loop-fs
invariant-loop-fs l = l.list ++ map (merged_fs l.filesystems) (filter (λ (fs : FsState). not fs.row.merge) (drop l.fs-index l.filesystems)) ≡ merged_filesystems l.filesystems
