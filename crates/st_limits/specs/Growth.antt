-- how a pool grows: first its allocated blocks, then its filesystems in order of creation
use Rattle.std.specs.Prelude.{ℕ, ◌+◌, ◌-◌, ◌*◌, ◌/◌, min, Bool, ◌&&◌, ◌||◌, nat_lt, nat_le, List, [], ◌∷◌, Option, sum_by, unwrap_or, if◌then◌else◌}
use Rattle.st_limits.specs.declared.TheConstants.{LOW_WATER, EXTENSION_STEP, BLOCK_SECTORS, MAX_FS_SECTORS}

-- the blocks that are added where fewer than the low-water mark are free: a whole step, or what is left of the room
abbrev pub extension : ℕ → ℕ → ℕ → ℕ
extension allocated used room =
    if nat_lt (allocated - used) LOW_WATER then min EXTENSION_STEP (room - allocated) else 0

-- the size that a filesystem would get: twice its own, at most its limit and the greatest size
abbrev pub doubled : ℕ → Option ℕ → ℕ
doubled size limit = min (2 * size) (min (unwrap_or limit MAX_FS_SECTORS) MAX_FS_SECTORS)

-- whether more than half of its blocks are mapped
abbrev pub is_filling : ℕ → ℕ → Bool
is_filling size mapped = nat_lt (size / BLOCK_SECTORS) (2 * mapped)

-- whether that size is allowed beside the other sizes, which are `others` blocks together
abbrev pub may_be : ℕ → ℕ → ℕ → Bool → Bool
may_be size others room over = over || nat_le (others + size / BLOCK_SECTORS) room

-- the size of a filesystem after growth
abbrev pub grown : ℕ → ℕ → Option ℕ → ℕ → ℕ → Bool → ℕ
grown size mapped limit others room over =
    if is_filling size mapped && may_be (doubled size limit) others room over then doubled size limit else size

-- a filesystem as growth sees it
pub record Volume : Type 0 where
  pub size : ℕ
  pub mapped : ℕ
  pub limit : Option ℕ

-- the sizes in blocks, together
abbrev pub volume_blocks : List Volume → ℕ
volume_blocks volumes = sum_by (λ v. v.size / BLOCK_SECTORS) volumes

-- all sizes after growth, in order; `before` are the blocks of the filesystems in front, as they are by then
abbrev pub all_grown : ℕ → Bool → ℕ → List Volume → List ℕ
all_grown room over before [] = []
all_grown room over before (v ∷ volumes) =
    let size = grown v.size v.mapped v.limit (before + volume_blocks volumes) room over in
    size ∷ all_grown room over (before + size / BLOCK_SECTORS) volumes
