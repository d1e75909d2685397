-- a new pool, and pools that are full: of blocks, or of mappings
use Rattle.std.specs.Prelude.{◌≡◌, ℕ, zero, suc, ◌+◌, List, [], ◌∷◌, true, false, replicate, Some, None}
use Rattle.st_units.specs.declared.cause.Cause.TheVariants.{MappingFull, NoSpace}
use Rattle.st_units.specs.declared.rows.DevRow.{DevRow}
use Rattle.st_model.specs.declared.call.Call.TheVariants.{CreateFilesystems, FsWrite, PoolReport, SnapshotFilesystem}
use Rattle.st_model.specs.declared.call.Payload.TheVariants.{Fill}
use Rattle.st_model.specs.declared.info.PoolInfo.{PoolInfo}
use Rattle.st_model.specs.declared.info.ShownMode.TheVariants as shows
use Rattle.st_model.specs.declared.reply.Given.TheVariants as given
use Rattle.st_model.specs.declared.reply.Given.TheVariants.{Changed, CreatedFilesystems, Written}
use Rattle.st_model.specs.declared.reply.Identity.TheVariants.{Filesystem}
use Rattle.st_model.specs.declared.state.EngineState.{EngineState}
use Rattle.st_model.specs.declared.state.FsState.{FsState}
use Rattle.st_model.specs.declared.state.PoolMode.TheVariants.{Up}
use Rattle.st_model.specs.declared.state.PoolState.{PoolState}
use Rattle.st_model.specs.Answer.{accepted, refused}
use Rattle.test_model.specs.Filesystems.{a, b, created, is_made, made, of_default, p, s, start}
use Rattle.test_model.specs.Scripts.{device, replies}

-- so many blocks from this one on, each with the cell of the next number
abbrev from_block : ℕ → ℕ → List (ℕ × ℕ)
from_block zero block = []
from_block (suc k) block = (block, block + 1) ∷ from_block k (block + 1)

abbrev from_cell : ℕ → ℕ → List (ℕ × List ℕ)
from_cell zero cell = []
from_cell (suc k) cell = (cell, replicate 65536 7) ∷ from_cell k (cell + 1)

abbrev of_map : List (ℕ × ℕ) → List ℕ → ℕ → FsState
of_map map name serial = record { row = record { serial = serial; name = name; size = 131072; limit = None; origin = None; merge = false }; map = map }

-- the pool p with these filesystems, whose cells are so many; each of its blocks is allocated
abbrev full_pool : List DevRow → List FsState → ℕ → ℕ → ℕ → PoolState
full_pool rows filesystems cells blocks next = record {
  serial = 1;
  name = p;
  mode = Up;
  devices = rows;
  filesystems = filesystems;
  cells = from_cell cells 1;
  next_cell = cells + 1;
  next_filesystem = next;
  allocated = blocks;
  filesystem_limit = 100;
  overprovisioning = true;
  commits = 1000;
  cache = None;
}

abbrev with_pool : List DevRow → PoolState → EngineState
with_pool rows pool = record { pools = pool ∷ []; devices = rows; next = 2 }

abbrev one : List DevRow
one = device 0 65536 ∷ []

-- all 484 blocks are written
abbrev of_blocks : EngineState
of_blocks = with_pool one (full_pool one (of_map (from_block 484 0) a 1 ∷ []) 484 484 2)

abbrev pub SpaceEnds : Type 0
SpaceEnds = replies of_blocks (FsWrite p a 61952 (Fill 7 1) ∷ FsWrite p a 0 (Fill 8 1) ∷ SnapshotFilesystem p a s ∷ FsWrite p a 0 (Fill 9 1) ∷ [])
    ≡ refused (NoSpace 0 1) ∷ accepted (Written 1) ∷ accepted (Changed true (Some (Filesystem 1 2))) ∷ refused (NoSpace 0 1) ∷ []

abbrev both : List DevRow
both = device 0 65536 ∷ device 1 65536 ∷ []

-- so many snapshots of the filesystem with this map, from this serial on; the serial is their name's second byte
abbrev snapshots : List (ℕ × ℕ) → ℕ → ℕ → List FsState
snapshots map zero serial = []
snapshots map (suc k) serial = of_map map (115 ∷ (48 + serial) ∷ []) serial ∷ snapshots map k (serial + 1)

-- 512 blocks under 64 filesystems are all the mappings that a pool may have
abbrev of_mappings : EngineState
of_mappings = with_pool both (full_pool both (of_map (from_block 512 0) a 1 ∷ snapshots (from_block 512 0) 63 2) 512 994 65)

abbrev pub MappingsEnd : Type 0
MappingsEnd = replies of_mappings (SnapshotFilesystem p a s ∷ CreateFilesystems p (of_default b ∷ []) ∷ FsWrite p b 0 (Fill 1 1) ∷ FsWrite p a 0 (Fill 1 128) ∷ [])
    ≡ refused (MappingFull 32768 512) ∷ accepted (CreatedFilesystems true (created b 65 ∷ [])) ∷ refused (MappingFull 32768 1) ∷ accepted (Written 128) ∷ []

-- what a report says of a new pool
abbrev new_info : PoolInfo
new_info = record {
  serial = 1;
  name = p;
  mode = shows.Up;
  devs = one;
  filesystems = [];
  fs_limit = 100;
  overprovisioning = true;
  room = 484;
  allocated = 32;
  used = 0;
  cache = None;
}

abbrev pub NewIsReported : Type 0
NewIsReported = replies start (made ∷ PoolReport p ∷ []) ≡ is_made ∷ accepted (given.Pool new_info) ∷ []
