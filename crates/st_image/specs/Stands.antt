-- The state that records and an image are.
use Rattle.std.specs.Prelude.{◌≡◌, ◌⊎◌, ℕ, ◌*◌, ◌<◌, Bool, true, false, ◌||◌, bytes_eq, nat_eq, nat_lt, List, [], ◌∷◌, length, map, filter, Option, Some, None, slice_get, if◌then◌else◌}
use Rattle.std.specs.List.{AllByRecursion}
use Rattle.st_units.specs.declared.rows.DevRow.{DevRow}
use Rattle.st_units.specs.declared.rows.FsRow.{FsRow}
use Rattle.st_poolrec.specs.declared.record.PoolRec.{PoolRec}
use Rattle.st_flexrec.specs.declared.rows.CellRow.{CellRow}
use Rattle.st_flexlog.specs.declared.state.FlexState.{FlexState}
use Rattle.st_flexlog.specs.declared.state.Mapping.{Mapping}
use Rattle.st_seg.specs.Blocks.{blocks_of}
use Rattle.st_linear.specs.Places.{place_at}
use Rattle.st_model.specs.declared.state.FsState.{FsState}
use Rattle.st_model.specs.declared.state.CacheState.{CacheState}
use Rattle.st_model.specs.declared.state.PoolMode.TheVariants.{Stopped, Incomplete}
use Rattle.st_model.specs.declared.state.PoolState.{PoolState}
use Rattle.st_limits.specs.declared.TheConstants.{SECTOR_BYTES, BLOCK_BYTES}
use Rattle.st_limits.specs.Sums.{cache_capacity}
use Rattle.st_model.specs.Sums.{cache_rows, sectors_in}
use Rattle.st_model.specs.Merged.{merged}
use Rattle.st_rack.specs.Device.{Path, Image, cells}
use Rattle.st_image.specs.Bears.{BearsWhole, Bears, HasRow, newest_over, path_in}

-- a block of the data tier on a device: where it begins, and how many bytes it has
abbrev pub Range : Type 0
Range = Path × ℕ × ℕ

abbrev pub range_in : List DevRow → Option (ℕ × ℕ) → Range
range_in rows None = ([], 0, 0)
range_in rows (Some place) = (path_in (slice_get rows place.0), SECTOR_BYTES * place.1, BLOCK_BYTES)

-- where a block of the linear table lies
abbrev pub range_of : PoolRec → ℕ → Range
range_of rec place = range_in rec.devs (place_at (blocks_of rec.segments) place)

abbrev pub bytes_in : Image → Range → List ℕ
bytes_in c q = cells (c q.0) q.1 q.2

-- each cell with its bytes
abbrev pub cells_of : PoolRec → List CellRow → Image → List (ℕ × List ℕ)
cells_of rec rows c = map (λ (row : CellRow). (row.cell, bytes_in c (range_of rec row.place))) rows

-- the cell of a mapping among others that rise by number, once
abbrev pub put_cell_of : Mapping → List CellRow → List CellRow
put_cell_of m [] = record { cell = m.cell; place = m.place } ∷ []
put_cell_of m (row ∷ rows) = if nat_lt m.cell row.cell then record { cell = m.cell; place = m.place } ∷ (row ∷ rows) else (if nat_eq m.cell row.cell then row ∷ rows else row ∷ put_cell_of m rows)

-- the cells that mappings name, with their places
abbrev pub cell_rows : List Mapping → List CellRow
cell_rows [] = []
cell_rows (m ∷ ms) = put_cell_of m (cell_rows ms)

-- the map of the filesystem of this serial
abbrev pub map_of : List Mapping → ℕ → List (ℕ × ℕ)
map_of mappings serial = map (λ (m : Mapping). (m.block, m.cell)) (filter (λ (m : Mapping). nat_eq m.fs serial) mappings)

abbrev pub filesystems_of : FlexState → List FsState
filesystems_of st = map (λ (row : FsRow). record { row = row; map = map_of st.mappings row.serial }) st.filesystems

abbrev pub cold_cache : List DevRow → Option CacheState
cold_cache [] = None
cold_cache rows = Some (record { capacity = cache_capacity (sectors_in rows); cells = []; hits = 0; misses = 0 })

-- a pool that isn't started, with these records and the cells of this image
abbrev pub state_of : ℕ → PoolRec → FlexState → Image → PoolState
state_of g rec st c = record {
  serial = rec.serial;
  name = rec.name;
  mode = Stopped;
  devices = rec.devs;
  filesystems = filesystems_of st;
  cells = cells_of rec (cell_rows st.mappings) c;
  next_cell = st.next_cell;
  next_filesystem = st.next_fs;
  allocated = length (blocks_of rec.segments);
  filesystem_limit = rec.fs_limit;
  overprovisioning = rec.overprovisioning;
  commits = g;
  cache = cold_cache (cache_rows rec.devs);
}

-- The records of a known pool of which all devices are there: each place of a cell is allocated.
pub record Whole (p : ℕ) (devs : List (Path × ℕ)) (c : Image) (g : ℕ) (rec : PoolRec) (st : FlexState) : Type 0 where
  pub bears : BearsWhole p devs g rec st c
  pub alive : rec.gone ≡ false
  pub places : AllByRecursion (λ (row : CellRow). row.place < length (blocks_of rec.segments)) (cell_rows st.mappings)

-- no candidate, or the newest is gone
pub data NoPool (p : ℕ) (devs : List (Path × ℕ)) (c : Image) : Type 0 where
  Nothing : newest_over p devs c ≡ None → NoPool p devs c
  Gone : (g : ℕ) (rec : PoolRec) → Bears p devs g rec c → rec.gone ≡ true → NoPool p devs c

-- a pool of which a device is missing
abbrev pub lacking_of : PoolRec → Path → PoolState
lacking_of rec path = record {
  serial = rec.serial;
  name = rec.name;
  mode = Incomplete path;
  devices = rec.devs;
  filesystems = [];
  cells = [];
  next_cell = 1;
  next_filesystem = 1;
  allocated = 0;
  filesystem_limit = 0;
  overprovisioning = false;
  commits = 0;
  cache = None;
}

abbrev pub is_on : Path → List (Path × ℕ) → Bool
is_on path [] = false
is_on path (d ∷ ds) = bytes_eq d.0 path || is_on path ds

-- the first device of these rows that isn't there
abbrev pub missing : List DevRow → List (Path × ℕ) → Option Path
missing [] devs = None
missing (row ∷ rows) devs = if is_on row.path devs then missing rows devs else Some row.path

-- The record of a known pool of which a device is missing: the rows that are there are right.
pub record Lacking (p : ℕ) (devs : List (Path × ℕ)) (c : Image) (g : ℕ) (rec : PoolRec) (path : Path) : Type 0 where
  pub bears : Bears p devs g rec c
  pub alive : rec.gone ≡ false
  pub lacks : missing rec.devs devs ≡ Some path
  pub rows : AllByRecursion (λ (row : DevRow). is_on row.path devs ≡ true → HasRow p devs c row) rec.devs

-- a pool of which all is there, as its merge, or one of which a device is missing
abbrev pub IsFound : ℕ → List (Path × ℕ) → Image → PoolState → Type 0
IsFound p devs c pool = (g : ℕ) × (rec : PoolRec) × (st : FlexState) × Whole p devs c g rec st × (pool ≡ merged (state_of g rec st c))

abbrev pub IsLacking : ℕ → List (Path × ℕ) → Image → PoolState → Type 0
IsLacking p devs c pool = (g : ℕ) × (rec : PoolRec) × (path : Path) × Lacking p devs c g rec path × (pool ≡ lacking_of rec path)

-- What the devices stand for, for one pool: no pool, or a state.
abbrev pub StandsFor : ℕ → List (Path × ℕ) → Image → Option PoolState → Type 0
StandsFor p devs c None = NoPool p devs c
StandsFor p devs c (Some pool) = IsFound p devs c pool ⊎ IsLacking p devs c pool
