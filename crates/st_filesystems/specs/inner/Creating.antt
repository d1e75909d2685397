-- filesystems that are to be created: those of other names, those that aren't there, and their blocks
use Rattle.std.specs.Prelude.{ℕ, ◌/◌, List, filter, not, is_some, sum_by, bytes_eq}
use Rattle.st_limits.specs.declared.TheConstants.{BLOCK_SECTORS}
use Rattle.st_units.specs.declared.rows.FsSpec.{FsSpec}
use Rattle.st_model.specs.declared.state.FsState.{FsState}
use Rattle.st_model.specs.Checks.{fs_at}
use Rattle.st_model.specs.Look.{Text}
use Rattle.st_model.specs.steps.CreateFilesystems.{size_of}

abbrev pub others : Text → List FsSpec → List FsSpec
others name = filter (λ (other : FsSpec). not (bytes_eq name other.name))

abbrev pub outside : List FsState → List FsSpec → List FsSpec
outside filesystems = filter (λ (spec : FsSpec). not (is_some (fs_at spec.name filesystems)))

abbrev pub spec_blocks : List FsSpec → ℕ
spec_blocks specs = sum_by (λ (spec : FsSpec). size_of spec / BLOCK_SECTORS) specs
