-- What is true of all pools, devices and images.
use Rattle.std.specs.Prelude.{◌≡◌, ◌≢◌, ℕ, ◌+◌, true, List, take, Option, Some, map, slice_get}
use Rattle.std.specs.List.{AllByRecursion}
use Rattle.st_limits.specs.Sums.{IsDeviceSize}
use Rattle.st_units.specs.declared.rows.DevRow.{DevRow}
use Rattle.st_seg.specs.Blocks.{blocks_of}
use Rattle.st_datatier.specs.Segments.{segment_rows}
use Rattle.st_poolrec.specs.Conditions.{take_in_order}
use Rattle.st_poolrec.specs.declared.record.PoolRec.{PoolRec}
use Rattle.st_flexrec.specs.declared.rows.CellRow.{CellRow}
use Rattle.st_flexlog.specs.declared.state.FlexState.{FlexState}
use Rattle.st_model.specs.declared.call.Call.{Call}
use Rattle.st_model.specs.declared.state.PoolMode.TheVariants.{Up, Stopped}
use Rattle.st_model.specs.declared.state.PoolState.{PoolState}
use Rattle.st_model.specs.declared.state.EngineState.{EngineState}
use Rattle.st_model.specs.Checks.{cooled, halted}
use Rattle.st_model.specs.Merged.{merged}
use Rattle.st_rack.specs.Device.{Path, State, Image, Settling, held}
use Rattle.st_rack.specs.Calls.{Devices, Has}
use Rattle.st_rack.specs.Moments.{OnDevice, AllCut}
use Rattle.st_image.specs.Left.{LeftOf}
use Rattle.st_image.specs.Bears.{paths}
use Rattle.st_image.specs.Stands.{Range, range_of, cells_of, state_of, StandsFor}
use Rattle.st_model.specs.InPlace.{Piece, put_pieces}
use Rattle.st_image.specs.Survivors.{IsBefore, after, Survives}
use Rattle.st_image.specs.Kept.{as_pair, in_use, Kept}
use Rattle.st_image.specs.Calm.{Shows, Calm}
use Rattle.st_image.specs.Committed.{Committed}
use Rattle.st_image.specs.EngineKept.{EngineKept}
use Rattle.st_image.specs.RowBlocks.{row_blocks}
use Rattle.st_image.specs.Rack.{RackStands, IsForeign}
use Rattle.st_image.specs.Pieces.{ArePieces, bytes_of}
use Rattle.st_image.specs.Frame.{AgreesOn}

-- An image stands for one thing at most.
abbrev pub StandsOnce : Type 0
StandsOnce = (p : ℕ) (devs : Devices) (c : Image) (a b : Option PoolState) → StandsFor p devs c a → StandsFor p devs c b → a ≡ b

-- A rack's devices stand for one state of the engine at most.
abbrev pub RackStandsOnce : Type 0
RackStandsOnce = (devs : Devices) (c : Image) (s t : EngineState) → RackStands devs c s → RackStands devs c t → s ≡ t

-- Where they stand for a state, no serial breaks a rule.
abbrev pub NotForeign : Type 0
NotForeign = (devs : Devices) (c : Image) (s : EngineState) → RackStands devs c s → (p : ℕ) → IsForeign devs c p → ⊥

-- What a crash leaves of a pool that is up stands for its merge, with the cells as reads give them.
abbrev pub UpStands : Type 0
UpStands = (p : ℕ) (devs : Devices) (g : ℕ) (rec : PoolRec) (st : FlexState) (s : State) (c : Image) → Calm p devs g rec st s → LeftOf p devs s c → StandsFor p devs c (Some (merged (state_of g rec st (held s))))

-- What commits leave shows in whatever a crash leaves.
abbrev pub CommittedShows : Type 0
CommittedShows = (p : ℕ) (devs : Devices) (g : ℕ) (rec : PoolRec) (st : FlexState) (s : State) (c : Image) → Committed p devs g rec st s → LeftOf p devs s c → Shows p devs g rec st c

-- An image that agrees with another but for some pieces of cells has its cells, with the bytes that it has itself in these pieces.
abbrev pub CellsWithPieces : Type 0
CellsWithPieces = (rec : PoolRec) (rows : List CellRow) (qs : List Piece) (rs : List Range) (c m : Image) → ArePieces rec rows qs rs → ((k : ℕ) (row : CellRow) → slice_get rows k ≡ Some row → AgreesOn (range_of rec row.place) rs c m)
    → cells_of rec rows c ≡ put_pieces qs (bytes_of rs c) (cells_of rec rows m)

-- A pool that is up is kept, where its state is what its records and the cells' bytes say.
abbrev pub UpIsKept : Type 0
UpIsKept = (pool : PoolState) (devs : Devices) (rec : PoolRec) (st : FlexState) (s : State) → pool.mode ≡ Up → pool.devices ≡ rec.devs → cooled Stopped pool ≡ state_of pool.commits rec st (held s)
    → Calm pool.serial (map as_pair rec.devs) pool.commits rec st s → Kept pool devs s

-- A pool is kept while the devices that it uses are what they were: where a rack is split, or joined.
abbrev pub KeptWhereSame : Type 0
KeptWhereSame = (pool : PoolState) (devs : Devices) (s t : State) → Kept pool devs s → ((k : ℕ) (d : Path) → slice_get (paths (in_use pool devs)) k ≡ Some d → t d ≡ s d) → Kept pool devs t

-- A sync of a device, with success or without, keeps it, at each moment.
abbrev pub KeptBySync : Type 0
KeptBySync = (pool : PoolState) (devs : Devices) (s t : State) → Kept pool devs s → (dev : Path) → OnDevice dev Settling s t → Kept pool devs t

-- A power cut keeps it.
abbrev pub KeptByCut : Type 0
KeptByCut = (pool : PoolState) (devs : Devices) (s t : State) → Kept pool devs s → (rack : Devices) → ((k : ℕ) (d : Path) → slice_get (paths (in_use pool devs)) k ≡ Some d → (n : ℕ) × Has rack d n) → AllCut rack s t → Kept pool devs t

-- So it is of a whole rack: a sync of a device keeps each pool, and a free device goes on standing for none.
abbrev pub EngineKeptBySync : Type 0
EngineKeptBySync = (e : EngineState) (devs : Devices) (s t : State) → EngineKept e devs s → (dev : Path) → OnDevice dev Settling s t → EngineKept e devs t

-- A power cut keeps all of them, where the devices that pools use are in the rack.
abbrev pub EngineKeptByCut : Type 0
EngineKeptByCut = (e : EngineState) (devs : Devices) (s t : State) → EngineKept e devs s → AllByRecursion (λ (pool : PoolState). (k : ℕ) (d : Path) → slice_get (paths (in_use pool devs)) k ≡ Some d → (n : ℕ) × Has devs d n) e.pools
    → AllCut devs s t → EngineKept e devs t

-- A pool that is stopped is kept as it was.
abbrev pub KeptByStop : Type 0
KeptByStop = (pool : PoolState) (devs : Devices) (s : State) → Kept pool devs s → Kept (halted pool) devs s

-- Of what survives a call, other commits than those before tell that the call was done.
abbrev pub OtherCommits : Type 0
OtherCommits = (pool : PoolState) (call : Call) (devs : Devices) (q : PoolState) → Survives pool call devs (Some q) → q.commits ≢ pool.commits → Some q ≡ after pool call devs

-- The same commits tell that it wasn't, where the call makes a commit.
abbrev pub SameCommits : Type 0
SameCommits = (pool : PoolState) (call : Call) (devs : Devices) (q : PoolState) → Survives pool call devs (Some q) → ((r : PoolState) → after pool call devs ≡ Some r → r.commits ≡ pool.commits + 1) → q.commits ≡ pool.commits
    → IsBefore pool call (Some q)

-- The blocks that a data tier has taken, as segments of a pool's rows, keep the conditions of its record.
abbrev pub SegmentsInOrder : Type 0
SegmentsInOrder = (n : ℕ) (rows : List DevRow) → AllByRecursion (λ (row : DevRow). IsDeviceSize row.sectors) rows → take_in_order 0 (segment_rows 0 n rows) rows ≡ true

-- They are the first blocks that the pool's devices have for data, in order of its rows.
abbrev pub SegmentsAreBlocks : Type 0
SegmentsAreBlocks = (n : ℕ) (rows : List DevRow) → blocks_of (segment_rows 0 n rows) ≡ take n (row_blocks 0 rows)
