use Rattle.std.proofs.Common.{◌≡◌, ◌+◌, length, drop, fold}
use Rattle.st_model.specs.declared.state.FsState.{FsState}
use Rattle.st_model.specs.Sums.{mappings}
use Rattle.st_filesystems.proofs.snapshot.mappings.Given as goal

-- the entries so far, with those of the rest, make the whole
abbrev pub invariant-loop-fs : goal.invariant-loop-fs
invariant-loop-fs l = fold (λ a (fs : FsState). a + length fs.map) l.sum (drop l.fs-index l.pool.filesystems) ≡ mappings l.pool
