-- which states of a pool are valid
use Rattle.std.specs.Prelude.{ℕ, ◌≡◌, ◌≢◌, ◌*◌, ◌/◌, ◌%◌, ◌^◌, ◌<◌, ◌≤◌, ◌==◌, ◌&&◌, List, [], ◌∷◌, length, Bool, true, false, Option, Some, None, bytes_eq}
use Rattle.std.specs.List.{AllByRecursion, list_any}
use Rattle.st_limits.specs.Sums.{cache_capacity}
use Rattle.st_limits.specs.declared.TheConstants.{BLOCK_BYTES, BLOCK_SECTORS, MAX_COMMITS, MAX_FILESYSTEMS, MAX_FS_SECTORS, MAX_MAPPINGS, MIN_DEVICE_SECTORS}
use Rattle.st_units.specs.declared.rows.DevRow.{DevRow}
use Rattle.st_model.specs.declared.call.Call.{Call}
use Rattle.st_model.specs.declared.call.Call.TheVariants.{CreatePool}
use Rattle.st_model.specs.declared.state.CacheState.{CacheState}
use Rattle.st_model.specs.declared.state.FsState.{FsState}
use Rattle.st_model.specs.declared.state.PoolMode.{PoolMode}
use Rattle.st_model.specs.declared.state.PoolMode.TheVariants.{Up, Down, Stopped, Unsettled, Incomplete}
use Rattle.st_model.specs.declared.state.PoolState.{PoolState}
use Rattle.st_model.specs.Look.{Text}
use Rattle.st_model.specs.Merged.{is_mapped}
use Rattle.st_model.specs.Sums.{AreSmall, cache_rows, is_data, mappings, room, sectors_in, used}

module _ {X : Type 0} where
  -- so it is of each item and each one after it
  abbrev pub EachPair : (X → X → Type 0) → List X → Type 0
  EachPair R [] = Unit {0}
  EachPair R (x ∷ xs) = AllByRecursion (R x) xs × EachPair R xs

  -- whether the map has an entry for the number
  abbrev pub has_number : ℕ → List (ℕ × X) → Bool
  has_number n = list_any (λ (entry : ℕ × X). entry.0 == n)

-- the entries stand in rising order of their numbers, each number once
abbrev pub IsMap : {X : Type 0} → List (ℕ × X) → Type 0
IsMap {X} = EachPair (λ (a b : ℕ × X). a.0 < b.0)

-- a size of a filesystem, or a limit of one: whole blocks, up to the greatest size
pub record IsSize (sectors : ℕ) : Type 0 where
  pub whole : sectors % BLOCK_SECTORS ≡ 0
  pub some : BLOCK_SECTORS ≤ sectors
  pub bounded : sectors ≤ MAX_FS_SECTORS

-- a limit, where there is one, is a size that isn't below the filesystem's own
abbrev pub IsLimit : ℕ → Option ℕ → Type 0
IsLimit size None = Unit {0}
IsLimit size (Some limit) = IsSize limit × (size ≤ limit)

abbrev pub has_serial : ℕ → List FsState → Bool
has_serial serial = list_any (λ (fs : FsState). fs.row.serial == serial)

-- an origin, where there is one, is an older filesystem of the pool
abbrev pub IsOrigin : List FsState → ℕ → Option ℕ → Type 0
IsOrigin filesystems serial None = Unit {0}
IsOrigin filesystems serial (Some origin) = (origin < serial) × (has_serial origin filesystems ≡ true)

abbrev pub is_marked : ℕ → List FsState → Bool
is_marked serial = list_any (λ (fs : FsState). fs.row.merge && (fs.row.serial == serial))

-- a filesystem that is marked has an origin, which isn't marked
abbrev pub IsMark : List FsState → Bool → Option ℕ → Type 0
IsMark filesystems false origin = Unit {0}
IsMark filesystems true None = ⊥
IsMark filesystems true (Some origin) = is_marked origin filesystems ≡ false

-- a block of so many has a cell that was given out and is kept
pub record IsMapping (p : PoolState) (blocks block cell : ℕ) : Type 0 where
  pub within : block < blocks
  pub from_one : 1 ≤ cell
  pub below_next : cell < p.next_cell
  pub kept : has_number cell p.cells ≡ true

-- a filesystem of the pool
pub record IsValidFs (p : PoolState) (fs : FsState) : Type 0 where
  pub from_one : 1 ≤ fs.row.serial
  pub below_next : fs.row.serial < p.next_filesystem
  pub size : IsSize fs.row.size
  pub limit : IsLimit fs.row.size fs.row.limit
  pub origin : IsOrigin p.filesystems fs.row.serial fs.row.origin
  pub mark : IsMark p.filesystems fs.row.merge fs.row.origin
  pub map : IsMap fs.map
  pub mapped : AllByRecursion (λ (entry : ℕ × ℕ). IsMapping p (fs.row.size / BLOCK_SECTORS) entry.0 entry.1) fs.map

-- an older filesystem and a younger one: serials rise, names differ, and no two that are marked have one origin
pub record AreFsPair (older younger : FsState) : Type 0 where
  pub serials : older.row.serial < younger.row.serial
  pub names : older.row.name ≢ younger.row.name
  pub marks : older.row.merge ≡ true → younger.row.merge ≡ true → older.row.origin ≢ younger.row.origin

-- a cell that the pool keeps is mapped, and has a block of bytes
pub record IsCell (p : PoolState) (cell : ℕ) (bytes : List ℕ) : Type 0 where
  pub mapped : is_mapped p.filesystems cell ≡ true
  pub full : length bytes ≡ BLOCK_BYTES

-- there is a first device, and it is a data device
abbrev pub StartsWithData : List DevRow → Type 0
StartsWithData [] = ⊥
StartsWithData (row ∷ rows) = is_data row.tier ≡ true

-- the devices of a pool, one to sixteen
pub record AreDevices (rows : List DevRow) : Type 0 where
  pub first : StartsWithData rows
  pub small : AreSmall rows
  pub large : AllByRecursion (λ (row : DevRow). MIN_DEVICE_SECTORS ≤ row.sectors) rows
  pub distinct : EachPair (λ (a b : DevRow). a.path ≢ b.path) rows

-- a cache is on cache devices, and lists cells of the pool
pub record IsValidCache (p : PoolState) (cache : CacheState) : Type 0 where
  pub on : 1 ≤ length (cache_rows p.devices)
  pub capacity : cache.capacity ≡ cache_capacity (sectors_in (cache_rows p.devices))
  pub few : length cache.cells ≤ cache.capacity
  pub distinct : EachPair (λ (a b : ℕ). a ≢ b) cache.cells
  pub kept : AllByRecursion (λ cell. has_number cell p.cells ≡ true) cache.cells
  pub hits : cache.hits < 2 ^ 64
  pub misses : cache.misses < 2 ^ 64

-- there is a cache exactly where there is a cache device
abbrev pub IsCacheOf : PoolState → Option CacheState → Type 0
IsCacheOf p None = cache_rows p.devices ≡ []
IsCacheOf p (Some cache) = IsValidCache p cache

-- a cache that isn't in use
pub record IsCold (cache : CacheState) : Type 0 where
  pub empty : cache.cells ≡ []
  pub hits : cache.hits ≡ 0
  pub misses : cache.misses ≡ 0

abbrev pub IsColdIfAny : Option CacheState → Type 0
IsColdIfAny None = Unit {0}
IsColdIfAny (Some cache) = IsCold cache

-- a pool of which all is known
pub record IsWhole (p : PoolState) : Type 0 where
  pub devices : AreDevices p.devices
  pub ordered : EachPair AreFsPair p.filesystems
  pub filesystems : AllByRecursion (IsValidFs p) p.filesystems
  pub count : length p.filesystems ≤ MAX_FILESYSTEMS
  pub mappings : mappings p ≤ MAX_MAPPINGS
  pub cell_map : IsMap p.cells
  pub cells : AllByRecursion (λ (entry : ℕ × List ℕ). IsCell p entry.0 entry.1) p.cells
  pub used : used p ≤ p.allocated
  pub allocated : p.allocated ≤ room p
  pub cell_from_one : 1 ≤ p.next_cell
  pub cell_bounded : p.next_cell ≤ 2 * p.commits
  pub filesystem_from_one : 1 ≤ p.next_filesystem
  pub filesystem_bounded : p.next_filesystem ≤ MAX_FILESYSTEMS * p.commits
  pub commits : p.commits ≤ MAX_COMMITS
  pub limit : p.filesystem_limit ≤ MAX_FILESYSTEMS
  pub cache : IsCacheOf p p.cache

-- a pool that isn't up: its cache is cold
pub record IsHalted (p : PoolState) : Type 0 where
  pub whole : IsWhole p
  pub cold : IsColdIfAny p.cache

-- nothing is known of what the pool holds
pub record IsBlank (p : PoolState) : Type 0 where
  pub filesystems : p.filesystems ≡ []
  pub cells : p.cells ≡ []
  pub next_cell : p.next_cell ≡ 1
  pub next_filesystem : p.next_filesystem ≡ 1
  pub allocated : p.allocated ≡ 0
  pub limit : p.filesystem_limit ≡ 0
  pub overprovisioning : p.overprovisioning ≡ false
  pub commits : p.commits ≡ 0
  pub cache : p.cache ≡ None

-- a pool whose making is in flight: it has a serial and the name of the call, and nothing else;
-- the call has each device once
pub record IsBegun (p : PoolState) (name : Text) (paths : List Text) : Type 0 where
  pub named : p.name ≡ name
  pub devices : p.devices ≡ []
  pub blank : IsBlank p
  pub distinct : EachPair (λ (a b : Text). a ≢ b) paths

-- a pool of which a device is missing: it has a serial, a name and devices, and nothing else
pub record IsLacking (p : PoolState) (path : Text) : Type 0 where
  pub devices : AreDevices p.devices
  pub blank : IsBlank p
  pub missing : list_any (λ (row : DevRow). bytes_eq row.path path) p.devices ≡ true

-- a pool with a call in flight is as it was before the call
abbrev pub IsBefore : PoolState → Call → Type 0
IsBefore p (CreatePool name devices) = IsBegun p name devices
IsBefore p _ = IsHalted p

abbrev pub IsValidIn : PoolState → PoolMode → Type 0
IsValidIn p Up = IsWhole p
IsValidIn p (Down call) = IsBefore p call
IsValidIn p Stopped = IsHalted p
IsValidIn p (Unsettled call) = IsBefore p call
IsValidIn p (Incomplete path) = IsLacking p path

-- a pool whose serial was given out before the next one; its devices are small in each mode
pub record IsValidPool (next : ℕ) (p : PoolState) : Type 0 where
  pub serial : p.serial < next
  pub from_one : 1 ≤ p.serial
  pub devices : AreSmall p.devices
  pub state : IsValidIn p p.mode
