-- FsRead: sectors of a filesystem are read, and the cache takes note of the cells
use Rattle.std.specs.Prelude.{ℕ, ◌+◌, ◌==◌, ◌||◌, not, nat_lt, Bool, false, List, [], ◌∷◌, flat_map, filter_map, Option, Some, None, option_map}
use Rattle.std.specs.List.{list_any, range_with_len}
use Rattle.st_limits.specs.Cache as list
use Rattle.st_limits.specs.declared.TheConstants.{MAX_READ_SECTORS}
use Rattle.st_units.specs.declared.cause.Cause.TheVariants.{BadSize, OutOfRange}
use Rattle.st_model.specs.declared.reply.Given.TheVariants.{Read}
use Rattle.st_model.specs.declared.reply.Reply.{Reply}
use Rattle.st_model.specs.declared.state.CacheState.{CacheState}
use Rattle.st_model.specs.declared.state.FsState.{FsState}
use Rattle.st_model.specs.declared.state.PoolState.{PoolState}
use Rattle.st_model.specs.Answer.{accepted, refused_where, first_answer, unless_answered}
use Rattle.st_model.specs.Checks.{fs_at, on_fs}
use Rattle.st_model.specs.Content.{touched, cell_at, sector_bytes}
use Rattle.st_model.specs.Look.{Text}

abbrev pub read_answers : FsState → ℕ → ℕ → List (Option Reply)
read_answers fs sector n =
    refused_where ((n == 0) || nat_lt MAX_READ_SECTORS n) (BadSize fs.row.name)
    ∷ refused_where (nat_lt fs.row.size (sector + n)) OutOfRange
    ∷ []

-- the cells of these blocks, in order; one that isn't mapped has none
abbrev pub cells_read : FsState → List ℕ → List ℕ
cells_read fs blocks = filter_map (λ block. cell_at block fs.map) blocks

-- a hit goes to the front; a miss is put there, and the last falls out where the list would be too long
abbrev pub with_read : ℕ → CacheState → CacheState
with_read cell cache = record cache {
  cells = list.touched cache.capacity cell cache.cells;
  hits = list.hits_after cell cache.cells cache.hits;
  misses = list.misses_after cell cache.cells cache.misses;
}

abbrev pub with_reads : List ℕ → CacheState → CacheState
with_reads [] cache = cache
with_reads (cell ∷ cells) cache = with_reads cells (with_read cell cache)

abbrev pub read_fs : ℕ → ℕ → FsState → PoolState → Reply × PoolState
read_fs sector n fs p =
    unless_answered (first_answer (read_answers fs sector n)) p
    (accepted (Read (flat_map (sector_bytes p fs) (range_with_len sector n))), record p { cache = option_map (with_reads (cells_read fs (touched sector n))) p.cache })

unfoldable pub fs_read : Text → ℕ → ℕ → PoolState → Reply × PoolState
fs_read name sector n = on_fs name (read_fs sector n)

-- whether the read misses: then the cache lacks one of the cells, which it has to write
abbrev pub lacks : Option CacheState → List ℕ → Bool
lacks None cells = false
lacks (Some cache) cells = list_any (λ cell. not (list.has cell cache.cells)) cells

abbrev pub fs_misses : ℕ → ℕ → PoolState → Option FsState → Bool
fs_misses sector n p None = false
fs_misses sector n p (Some fs) = lacks p.cache (cells_read fs (touched sector n))

abbrev pub misses : Text → ℕ → ℕ → Option PoolState → Bool
misses name sector n None = false
misses name sector n (Some p) = fs_misses sector n p (fs_at name p.filesystems)
