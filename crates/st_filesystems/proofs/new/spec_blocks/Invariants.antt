use Rattle.std.proofs.Common.{◌≡◌, ◌+◌, ◌*◌, ◌≤◌, ◌/◌, ◌^◌, drop, fold}
use Rattle.std.specs.List.{AllByRecursion}
use Rattle.st_limits.specs.declared.TheConstants.{BLOCK_SECTORS}
use Rattle.st_units.specs.declared.rows.FsSpec.{FsSpec}
use Rattle.st_model.specs.steps.CreateFilesystems.{size_of}
use Rattle.st_filesystems.specs.inner.Creating.{spec_blocks}
use Rattle.st_filesystems.proofs.new.spec_blocks.Given as goal

-- the blocks so far, with those of the rest, make the whole; and they are few
abbrev pub invariant-loop-spec : goal.invariant-loop-spec
invariant-loop-spec l =
    (fold (λ a (spec : FsSpec). a + size_of spec / BLOCK_SECTORS) l.sum (drop l.spec-index l.specs) ≡ spec_blocks l.specs)
    × (l.sum ≤ l.spec-index * 2 ^ 32)
    × AllByRecursion (λ (spec : FsSpec). size_of spec ≤ 2 ^ 32) (drop l.spec-index l.specs)
