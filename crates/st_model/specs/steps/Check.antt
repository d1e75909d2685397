-- Check: the pool grows where it is short of blocks, and its filesystems where they fill up
use Rattle.std.specs.Prelude.{ℕ, ◌+◌, ◌==◌, ◌&&◌, List, [], ◌∷◌, map, Bool, true, false, Option, Some, None, length, if◌then◌else◌}
use Rattle.st_limits.specs.Growth.{Volume, extension, all_grown}
use Rattle.st_model.specs.declared.reply.Given.TheVariants.{Checked}
use Rattle.st_model.specs.declared.reply.Reply.{Reply}
use Rattle.st_model.specs.declared.state.FsState.{FsState}
use Rattle.st_model.specs.declared.state.PoolState.{PoolState}
use Rattle.st_model.specs.Answer.{accepted, first_answer, unless_answered}
use Rattle.st_model.specs.Checks.{worn}
use Rattle.st_model.specs.Sums.{room, used}

-- the blocks that are added to the allocated ones
abbrev pub blocks_added : PoolState → ℕ
blocks_added p = extension p.allocated (used p) (room p)

abbrev pub volume_of : FsState → Volume
volume_of fs = record { size = fs.row.size; mapped = length fs.map; limit = fs.row.limit }

-- the sizes after the check, in order of creation
abbrev pub new_sizes : PoolState → List ℕ
new_sizes p = all_grown (room p) p.overprovisioning 0 (map volume_of p.filesystems)

abbrev pub with_size : ℕ → FsState → FsState
with_size size fs = record fs { row = record fs.row { size = size } }

-- the filesystems with these sizes, in order
abbrev pub resized : List FsState → List ℕ → List FsState
resized (fs ∷ filesystems) (size ∷ sizes) = with_size size fs ∷ resized filesystems sizes
resized filesystems _ = filesystems

-- how many of them get another size
abbrev pub count_grown : List FsState → List ℕ → ℕ
count_grown (fs ∷ filesystems) (size ∷ sizes) = (if fs.row.size == size then 0 else 1) + count_grown filesystems sizes
count_grown filesystems _ = 0

abbrev pub fs_grown : PoolState → ℕ
fs_grown p = count_grown p.filesystems (new_sizes p)

-- a check has nothing to do: enough blocks are free or none are left, and no filesystem is to grow
abbrev pub is_settled : PoolState → Bool
is_settled p = (blocks_added p == 0) && (fs_grown p == 0)

abbrev pub check_answers : PoolState → List (Option Reply)
check_answers p =
    (if is_settled p then Some (accepted (Checked false 0 0)) else None)
    ∷ worn p
    ∷ []

unfoldable pub check_pool : PoolState → Reply × PoolState
check_pool p =
    unless_answered (first_answer (check_answers p)) p (
      accepted (Checked true (blocks_added p) (fs_grown p)),
      record p {
        allocated = p.allocated + blocks_added p;
        filesystems = resized p.filesystems (new_sizes p);
        commits = p.commits + 1;
      },
    )
