use Rattle.std.proofs.Common.{◌≡◌, ◌+◌, ◌*◌, ◌≤◌, ◌/◌, ◌^◌, drop, fold}
use Rattle.std.specs.List.{AllByRecursion}
use Rattle.st_limits.specs.declared.TheConstants.{BLOCK_SECTORS}
use Rattle.st_model.specs.declared.state.FsState.{FsState}
use Rattle.st_model.specs.Checks.{sizes}
use Rattle.st_settings.proofs.checks.sizes.Given as goal

-- the blocks so far, with those of the rest, make the whole; and they are few
abbrev pub invariant-loop-fs : goal.invariant-loop-fs
invariant-loop-fs l =
    (fold (λ a (fs : FsState). a + fs.row.size / BLOCK_SECTORS) l.sum (drop l.fs-index l.filesystems) ≡ sizes l.filesystems)
    × (l.sum ≤ l.fs-index * 2 ^ 32)
    × AllByRecursion (λ (fs : FsState). fs.row.size ≤ 2 ^ 32) (drop l.fs-index l.filesystems)
