-- writes, and the cells that they take
use Rattle.std.specs.Prelude.{◌≡◌, ℕ, zero, suc, ◌+◌, ◌*◌, List, [], ◌∷◌, ◌++◌, true, false, length, map, Option, Some, None}
use Rattle.st_units.specs.declared.cause.Cause.TheVariants.{BadSize, NoSuchFilesystem, OutOfRange}
use Rattle.st_model.specs.declared.call.Call.{Call}
use Rattle.st_model.specs.declared.call.Call.TheVariants.{Check, CreateFilesystems, CreatePool, DestroyFilesystems, FsRead, FsWrite, InitCache, SetMerge, SnapshotFilesystem, StartPool, StopPool}
use Rattle.st_model.specs.declared.call.Payload.TheVariants.{Fill}
use Rattle.st_model.specs.declared.call.PoolId.TheVariants.{ByName}
use Rattle.st_model.specs.declared.reply.Given.TheVariants.{Changed, Checked, CreatedFilesystems, Done, Written}
use Rattle.st_model.specs.declared.reply.Identity.TheVariants.{Filesystem, Pool}
use Rattle.st_model.specs.declared.reply.Reply.{Reply}
use Rattle.st_model.specs.declared.state.CacheState.{CacheState}
use Rattle.st_model.specs.declared.state.EngineState.{EngineState}
use Rattle.st_model.specs.declared.state.FsState.{FsState}
use Rattle.st_model.specs.declared.state.PoolState.{PoolState}
use Rattle.st_model.specs.Answer.{accepted, refused}
use Rattle.st_model.specs.Look.{Text}
use Rattle.st_model.specs.Sums.{used}
use Rattle.test_model.specs.Filesystems.{a, created, is_made, lines, made, of_default, p, s, start}
use Rattle.test_model.specs.Scripts.{after, device, on_rack, replies, sim}

-- the pool p with the filesystem a of the default size
abbrev pub with_a : List Call
with_a = made ∷ CreateFilesystems p (of_default a ∷ []) ∷ []

abbrev pub is_with_a : List Reply
is_with_a = is_made ∷ accepted (CreatedFilesystems true (created a 1 ∷ [])) ∷ []

-- one sector in a block of a
abbrev in_block : ℕ → Call
in_block block = FsWrite p a (128 * block) (Fill 7 1)

abbrev blocks : List ℕ
blocks = 0 ∷ 1 ∷ 2 ∷ 3 ∷ 4 ∷ 5 ∷ 6 ∷ 7 ∷ 8 ∷ 9 ∷ 10 ∷ 11 ∷ 12 ∷ 13 ∷ 14 ∷ 15 ∷ []

-- of each pool what is allocated and what is used
abbrev space : EngineState → List (ℕ × ℕ)
space state = map {B = ℕ × ℕ} (λ (pool : PoolState). (pool.allocated, used pool)) state.pools

-- sixteen blocks leave sixteen of the first thirty-two free; with one more the next check extends by sixty-four
abbrev grown_calls : List Call
grown_calls = with_a ++ map in_block blocks ++ Check p ∷ in_block 16 ∷ Check p ∷ []

abbrev pub CheckExtends : Type 0
CheckExtends =
    (replies start grown_calls
    ≡ is_with_a ++ map (λ (n : ℕ). accepted (Written 1)) blocks ++ accepted (Checked false 0 0) ∷ accepted (Written 1) ∷ accepted (Checked true 64 0) ∷ [])
    × (space (after start grown_calls) ≡ (96, 17) ∷ [])

-- of each filesystem how many blocks are mapped
abbrev mapped : EngineState → List (List ℕ)
mapped state = map (λ (pool : PoolState). map (λ (fs : FsState). length fs.map) pool.filesystems) state.pools

-- a block is shared with the snapshot; a write over it and the next takes two cells; then the origin goes
abbrev shared_calls : List Call
shared_calls = with_a ++ FsWrite p a 0 (Fill 1 1) ∷ SnapshotFilesystem p a s ∷ FsWrite p a 64 (Fill 9 128) ∷ []

abbrev pub SharedIsKept : Type 0
SharedIsKept =
    (replies start shared_calls ≡ is_with_a ++ accepted (Written 1) ∷ accepted (Changed true (Some (Filesystem 1 2))) ∷ accepted (Written 128) ∷ [])
    × ((space (after start shared_calls) ≡ (32, 3) ∷ [])
    × ((mapped (after start shared_calls) ≡ (2 ∷ 1 ∷ []) ∷ [])
    × ((space (after (after start shared_calls) (DestroyFilesystems p (a ∷ []) ∷ [])) ≡ (32, 1) ∷ [])
    × (lines (after (after start shared_calls) (DestroyFilesystems p (a ∷ []) ∷ [])) ≡ ((s, None) ∷ []) ∷ []))))

-- a marked snapshot replaces its origin at the next start
abbrev merged_calls : List Call
merged_calls =
    with_a
    ++ FsWrite p a 0 (Fill 1 1)
    ∷ SnapshotFilesystem p a s
    ∷ FsWrite p s 0 (Fill 2 1)
    ∷ SetMerge p s true
    ∷ SetMerge p s true
    ∷ StopPool p
    ∷ StartPool (ByName p)
    ∷ FsRead p s 0 1
    ∷ []

abbrev pub MergedAtStart : Type 0
MergedAtStart =
    (replies start merged_calls
    ≡ is_with_a
    ++ accepted (Written 1)
    ∷ accepted (Changed true (Some (Filesystem 1 2)))
    ∷ accepted (Written 1)
    ∷ accepted (Done true)
    ∷ accepted (Done false)
    ∷ accepted (Changed true (Some (Pool 1)))
    ∷ accepted (Changed true (Some (Pool 1)))
    ∷ refused NoSuchFilesystem
    ∷ [])
    × ((space (after start merged_calls) ≡ (32, 1) ∷ []) × (lines (after start merged_calls) ≡ ((a, None) ∷ []) ∷ []))

-- past the end, and more sectors than a read may have
abbrev pub ReadsAreBounded : Type 0
ReadsAreBounded = replies start (with_a ++ FsRead p a 32767 2 ∷ FsRead p a 0 9 ∷ []) ≡ is_with_a ++ refused OutOfRange ∷ refused (BadSize a) ∷ []

-- of each pool its filesystems with their origins, and what is used
abbrev pub lines_and_use : EngineState → List (List (Text × Option ℕ) × ℕ)
lines_and_use state = map {B = List (Text × Option ℕ) × ℕ} (λ (pool : PoolState). (map {B = Text × Option ℕ} (λ (fs : FsState). (fs.row.name, fs.row.origin)) pool.filesystems, used pool)) state.pools

-- this many numbers from this one on
abbrev numbers : ℕ → ℕ → List ℕ
numbers zero n = []
numbers (suc k) n = n ∷ numbers k (n + 1)

-- 63 blocks are written, with a check between; a cache of 62 blocks; each is read once, and the first twice more
abbrev cached_calls : List Call
cached_calls =
    CreatePool p (sim 0 ∷ [])
    ∷ CreateFilesystems p (of_default a ∷ [])
    ∷ map in_block (numbers 20 0)
    ++ Check p
    ∷ map in_block (numbers 43 20)
    ++ InitCache p (sim 1 ∷ [])
    ∷ map (λ block. FsRead p a (128 * block) 1) (numbers 63 0)
    ++ FsRead p a 0 1
    ∷ FsRead p a 0 1
    ∷ []

abbrev cache_info : Option CacheState → Option (ℕ × (ℕ × (ℕ × ℕ)))
cache_info None = None
cache_info (Some cache) = Some (cache.capacity, (cache.hits, (cache.misses, length cache.cells)))

abbrev pub CacheCounts : Type 0
CacheCounts = map (λ (pool : PoolState). cache_info pool.cache) (after (on_rack (device 0 65536 ∷ device 1 8192 ∷ [])) cached_calls).pools ≡ Some (62, (1, (64, 62))) ∷ []
