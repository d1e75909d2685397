-- what a user reads, and what a write leaves of it
use Rattle.std.specs.Prelude.{◌≡◌, ℕ, ◌+◌, ◌*◌, ◌<◌, ◌≤◌, Bool, true, false, not, List, take, drop, Option, Some, None, option_map}
use Rattle.std.specs.List.{AllByRecursion}
use Rattle.st_limits.specs.declared.TheConstants.{SECTOR_BYTES}
use Rattle.st_model.specs.declared.call.Call.{Call}
use Rattle.st_model.specs.declared.call.Call.TheVariants.{StopPool, StartPool, DestroyFilesystems, SnapshotFilesystem, SetSizeLimit, SetFsLimit, SetOverprovisioning, SetMerge, FsWrite, FsRead, Check}
use Rattle.st_model.specs.declared.call.Payload.{Payload}
use Rattle.st_model.specs.declared.call.PoolId.TheVariants.{ByName}
use Rattle.st_model.specs.declared.entry.Env.{Env}
use Rattle.st_model.specs.declared.entry.Env.TheVariants.{Plain}
use Rattle.st_model.specs.declared.reply.Given.{Given}
use Rattle.st_model.specs.declared.reply.Given.TheVariants.{Created, Changed, Added, CreatedFilesystems, DestroyedFilesystems, Done, Read, Checked}
use Rattle.st_model.specs.declared.state.EngineState.{EngineState}
use Rattle.st_model.specs.declared.state.FsState.{FsState}
use Rattle.st_model.specs.declared.state.PoolState.{PoolState}
use Rattle.st_model.specs.Checks.{fs_at}
use Rattle.st_model.specs.Content.{sector_bytes}
use Rattle.st_model.specs.InPlace.{sectors_in}
use Rattle.st_model.specs.Look.{Text, has_path}
use Rattle.st_model.specs.Merged.{is_origin}
use Rattle.st_model.specs.Parts.{own}
use Rattle.st_model.specs.Step.{changes, step}
use Rattle.st_model.specs.Sums.{used}
use Rattle.st_model.specs.Valid.{IsValid}
use Rattle.st_model.specs.steps.FsWrite.{bytes_in}

abbrev pub reads_in : Text → ℕ → PoolState → Option (List ℕ)
reads_in file sector p = option_map (λ (fs : FsState). sector_bytes p fs sector) (fs_at file p.filesystems)

abbrev pub reads_of : Text → ℕ → Option PoolState → Option (List ℕ)
reads_of file sector None = None
reads_of file sector (Some p) = reads_in file sector p

-- the bytes of a sector of a filesystem of a started pool; none where there is no such pool or filesystem
abbrev pub reads : EngineState → Text → Text → ℕ → Option (List ℕ)
reads s pool file sector = reads_of file sector (own pool s)

-- where a write is answered Ok, each of its sectors reads as what was written to it
abbrev pub WritesAreRead : Type 0
WritesAreRead = (s : EngineState) (pool name : Text) (sector : ℕ) (payload : Payload) → IsValid s
    → (step s (FsWrite pool name sector payload) Plain).0.code ≡ 0
    → (k : ℕ) → k < sectors_in payload
    → reads (step s (FsWrite pool name sector payload) Plain).1 pool name (sector + k) ≡ Some (take SECTOR_BYTES (drop (SECTOR_BYTES * k) (bytes_in payload)))

-- whatever a write met and was answered, each sector that isn't one of its own reads as before, in every filesystem of every pool
abbrev pub WritesKeepOthers : Type 0
WritesKeepOthers = (s : EngineState) (pool name : Text) (sector : ℕ) (payload : Payload) (env : Env) → IsValid s
    → (other file : Text) (k : ℕ) → (other ≡ pool → file ≡ name → sector ≤ k → k < sector + sectors_in payload → ⊥)
    → reads (step s (FsWrite pool name sector payload) env).1 other file k ≡ reads s other file k

-- a read gives the bytes of its sectors, one after the other
abbrev pub ReadsTell : Type 0
ReadsTell = (s : EngineState) (pool name : Text) (sector sectors : ℕ) (bytes : List ℕ) → IsValid s
    → (step s (FsRead pool name sector sectors) Plain).0.result ≡ Some (Read bytes)
    → (k : ℕ) → k < sectors → reads s pool name (sector + k) ≡ Some (take SECTOR_BYTES (drop (SECTOR_BYTES * k) bytes))

-- reads, checks and settings of a pool
abbrev pub keeps_content : Call → Bool
keeps_content (SetSizeLimit pool name limit) = true
keeps_content (SetFsLimit pool limit) = true
keeps_content (SetOverprovisioning pool value) = true
keeps_content (SetMerge pool name value) = true
keeps_content (FsRead pool name sector sectors) = true
keeps_content (Check pool) = true
keeps_content call = false

-- whatever one of these met and was answered, each sector of each filesystem reads as before
abbrev pub SettingsKeepContent : Type 0
SettingsKeepContent = (s : EngineState) (call : Call) (env : Env) → keeps_content call ≡ true
    → (other file : Text) (k : ℕ) → reads (step s call env).1 other file k ≡ reads s other file k

-- a snapshot that was made reads at every sector as its origin did
abbrev pub SnapshotsRead : Type 0
SnapshotsRead = (s : EngineState) (pool origin name : Text) → IsValid s
    → changes (step s (SnapshotFilesystem pool origin name) Plain).0.result ≡ true
    → (k : ℕ) → reads (step s (SnapshotFilesystem pool origin name) Plain).1 pool name k ≡ reads s pool origin k

-- whatever it met and was answered, it changes nothing that any other filesystem reads
abbrev pub SnapshotsKeepOthers : Type 0
SnapshotsKeepOthers = (s : EngineState) (pool origin name : Text) (env : Env) → IsValid s
    → (other file : Text) (k : ℕ) → (other ≡ pool → file ≡ name → ⊥)
    → reads (step s (SnapshotFilesystem pool origin name) env).1 other file k ≡ reads s other file k

-- whatever a destruction of filesystems met and was answered, all that aren't named read as before, snapshots of those that went too
abbrev pub DestroyingKeepsOthers : Type 0
DestroyingKeepsOthers = (s : EngineState) (pool : Text) (names : List Text) (env : Env) → IsValid s
    → (other file : Text) (k : ℕ) → (other ≡ pool → has_path file names ≡ true → ⊥)
    → reads (step s (DestroyFilesystems pool names) env).1 other file k ≡ reads s other file k

abbrev pub are_kin : Option FsState → Option FsState → Bool
are_kin None other = false
are_kin (Some fs) None = false
are_kin (Some fs) (Some origin) = is_origin origin.row.serial fs.row.origin

-- in the started pool the one filesystem has the other as its origin
abbrev pub comes_from : Text → Text → Option PoolState → Bool
comes_from name origin None = false
comes_from name origin (Some p) = are_kin (fs_at name p.filesystems) (fs_at origin p.filesystems)

-- the state once a snapshot is marked, and its pool stopped and started
abbrev pub merged_state : EngineState → Text → Text → EngineState
merged_state s pool name =
    let marked = (step s (SetMerge pool name true) Plain).1 in
    let stopped = (step marked (StopPool pool) Plain).1 in
    (step stopped (StartPool (ByName pool)) Plain).1

-- then the origin reads as the snapshot did
abbrev pub MergesAreRead : Type 0
MergesAreRead = (s : EngineState) (pool name origin : Text) → IsValid s → comes_from name origin (own pool s) ≡ true
    → changes (step s (SetMerge pool name true) Plain).0.result ≡ true
    → (k : ℕ) → reads (merged_state s pool name) pool origin k ≡ reads s pool name k

-- the result begins with the truth value false: what was asked for held already
abbrev pub is_false : Given → Bool
is_false (Created changed made) = not changed
is_false (Changed changed identity) = not changed
is_false (Added changed devices) = not changed
is_false (CreatedFilesystems changed made) = not changed
is_false (DestroyedFilesystems changed ended) = not changed
is_false (Done changed) = not changed
is_false (Checked changed added grown) = not changed
is_false given = false

abbrev pub says_false : Option Given → Bool
says_false None = false
says_false (Some given) = is_false given

-- then it changes nothing
abbrev pub FalseChangesNothing : Type 0
FalseChangesNothing = (s : EngineState) (call : Call) → IsValid s → says_false (step s call Plain).0.result ≡ true → (step s call Plain).1 ≡ s

-- no call, whatever it met, leaves a pool that uses more than is allocated to it
abbrev pub UsedIsAllocated : Type 0
UsedIsAllocated = (s : EngineState) (call : Call) (env : Env) → IsValid s → AllByRecursion (λ (p : PoolState). used p ≤ p.allocated) (step s call env).1.pools
