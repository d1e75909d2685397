-- FsWrite: sectors of a filesystem are written
use Rattle.std.specs.Prelude.{ℕ, ◌+◌, ◌*◌, ◌==◌, ◌||◌, nat_lt, List, [], ◌∷◌, map, take, drop, replicate, Option, None, option_map, unwrap_or, if◌then◌else◌}
use Rattle.std.specs.Ordering.{nat_cmp}
use Rattle.std.specs.BTreeMap.{insert_entry}
use Rattle.st_limits.specs.Cache.{promoted}
use Rattle.st_limits.specs.Sums.{takes_cell, needed, more}
use Rattle.st_limits.specs.declared.TheConstants.{MAX_MAPPINGS, MAX_WRITE_SECTORS, SECTOR_BYTES}
use Rattle.st_units.specs.declared.cause.Cause.TheVariants.{BadSize, OutOfRange, MappingFull, NoSpace}
use Rattle.st_model.specs.declared.call.Payload.{Payload}
use Rattle.st_model.specs.declared.call.Payload.TheVariants.{Fill, Given}
use Rattle.st_model.specs.declared.reply.Given.TheVariants.{Written}
use Rattle.st_model.specs.declared.reply.Reply.{Reply}
use Rattle.st_model.specs.declared.state.CacheState.{CacheState}
use Rattle.st_model.specs.declared.state.FsState.{FsState}
use Rattle.st_model.specs.declared.state.PoolState.{PoolState}
use Rattle.st_model.specs.Answer.{accepted, refused_where, first_answer, unless_answered}
use Rattle.st_model.specs.Checks.{on_fs, worn}
use Rattle.st_model.specs.Content.{Stretch, stretches, touched, cell_at, mapped_cells, block_bytes}
use Rattle.st_model.specs.InPlace.{over, sectors_in}
use Rattle.st_model.specs.Look.{Text}
use Rattle.st_model.specs.Merged.{with_filesystems}
use Rattle.st_model.specs.Sums.{free, mappings}

abbrev pub bytes_in : Payload → List ℕ
bytes_in (Fill byte n) = replicate (SECTOR_BYTES * n) byte
bytes_in (Given bytes) = bytes

-- how many fresh cells a write takes: for blocks that aren't mapped, and for those whose cell is mapped elsewhere too
abbrev pub cells_needed : FsState → ℕ → ℕ → PoolState → ℕ
cells_needed fs sector n p = needed fs.map (mapped_cells p.filesystems) (touched sector n)

abbrev pub write_answers : FsState → ℕ → ℕ → PoolState → List (Option Reply)
write_answers fs sector n p =
    refused_where ((n == 0) || nat_lt MAX_WRITE_SECTORS n) (BadSize fs.row.name)
    ∷ refused_where (nat_lt fs.row.size (sector + n)) OutOfRange
    ∷ refused_where (nat_lt MAX_MAPPINGS (mappings p + more fs.map (touched sector n))) (MappingFull (mappings p) (more fs.map (touched sector n)))
    ∷ refused_where (nat_lt (free p) (cells_needed fs sector n p)) (NoSpace (free p) (cells_needed fs sector n p))
    ∷ (if cells_needed fs sector n p == 0 then None else worn p)
    ∷ []

-- what a write puts: a block, the cell that it has then, and the bytes of that cell
pub record Put : Type 0 where
  pub block : ℕ
  pub cell : ℕ
  pub bytes : List ℕ

-- Block by block: one whose cell is mapped there alone keeps it, and another takes the next one; beside what is written the bytes stay as they read.
abbrev pub puts : PoolState → FsState → ℕ → List ℕ → List Stretch → List Put
puts p fs next bytes [] = []
puts p fs next bytes (s ∷ rest) =
    let takes = takes_cell fs.map (mapped_cells p.filesystems) s.block in
    record {
      block = s.block;
      cell = if takes then next else unwrap_or (cell_at s.block fs.map) next;
      bytes = over (block_bytes p fs s.block) (SECTOR_BYTES * s.at) (take (SECTOR_BYTES * s.sectors) bytes);
    }
    ∷ puts p fs (if takes then next + 1 else next) (drop (SECTOR_BYTES * s.sectors) bytes) rest

abbrev pub with_blocks : List Put → List (ℕ × ℕ) → List (ℕ × ℕ)
with_blocks [] map = map
with_blocks (q ∷ qs) map = with_blocks qs (insert_entry nat_cmp map q.block q.cell)

abbrev pub with_cells : List Put → List (ℕ × List ℕ) → List (ℕ × List ℕ)
with_cells [] cells = cells
with_cells (q ∷ qs) cells = with_cells qs (insert_entry nat_cmp cells q.cell q.bytes)

-- the cache list: those that are changed in place move to the front, in rising order of blocks; a fresh cell isn't in it
abbrev pub in_front : List Put → List ℕ → List ℕ
in_front [] cells = cells
in_front (q ∷ qs) cells = in_front qs (promoted q.cell cells)

abbrev pub with_map : ℕ → List (ℕ × ℕ) → FsState → FsState
with_map serial map fs = if fs.row.serial == serial then record fs { map = map } else fs

-- the pool after a write that took so many fresh cells; with none it makes no commit
abbrev pub written : FsState → List Put → ℕ → PoolState → PoolState
written fs qs taken p =
    with_filesystems (map (with_map fs.row.serial (with_blocks qs fs.map)) p.filesystems) (record p {
      cells = with_cells qs p.cells;
      next_cell = p.next_cell + taken;
      commits = if taken == 0 then p.commits else p.commits + 1;
      cache = option_map (λ (cache : CacheState). record cache { cells = in_front qs cache.cells }) p.cache;
    })

abbrev pub write_fs : ℕ → Payload → FsState → PoolState → Reply × PoolState
write_fs sector payload fs p =
    let n = sectors_in payload in
    unless_answered (first_answer (write_answers fs sector n p)) p
    (accepted (Written n), written fs (puts p fs p.next_cell (bytes_in payload) (stretches sector n)) (cells_needed fs sector n p) p)

unfoldable pub fs_write : Text → ℕ → Payload → PoolState → Reply × PoolState
fs_write name sector payload = on_fs name (write_fs sector payload)
