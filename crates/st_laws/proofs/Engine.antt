-- the laws, on the engine's state
use Rattle.std.proofs.Common.{◌≡◌, ℕ, ◌+◌, ◌*◌, ◌<◌, ◌≤◌, ◌==◌, ◌&&◌, List, [], ◌∷◌, filter, take, drop, Bool, true, false, cond, Option, Some, None, option_map, bytes_eq, unwrap_or, refl, sym, ap, ◌∙◌, subst, arith}
use Rattle.std.proofs.lemmas.Slice.Eq.{bytes_eq-Decides}
use Rattle.st_units.specs.declared.cause.Cause.TheVariants.{DeviceFault, NoSuchPool, PoolStopped, OutOfMemory}
use Rattle.st_model.specs.declared.call.Call.{Call}
use Rattle.st_model.specs.declared.call.Call.TheVariants.{CreatePool, DestroyPool, StopPool, StartPool, RenamePool, AddDataDevs, InitCache, AddCacheDevs, CreateFilesystems, DestroyFilesystems, SnapshotFilesystem, RenameFilesystem, SetSizeLimit, SetFsLimit, SetOverprovisioning, FsWrite, FsRead, Check, PoolReport, PoolReports, EngineStateReport, SetMerge, PowerCycle}
use Rattle.st_model.specs.declared.call.Payload.{Payload}
use Rattle.st_model.specs.declared.entry.Env.{Env}
use Rattle.st_model.specs.declared.entry.Env.TheVariants.{Plain, NoMem, FaultRead, FaultWrite, After, Before}
use Rattle.st_model.specs.declared.reply.Given.{Given}
use Rattle.st_model.specs.declared.reply.Given.TheVariants.{Read}
use Rattle.st_model.specs.declared.reply.Reply.{Reply}
use Rattle.st_model.specs.declared.state.EngineState.{EngineState}
use Rattle.st_model.specs.declared.state.PoolMode.{PoolMode}
use Rattle.st_model.specs.declared.state.PoolMode.TheVariants as modes
use Rattle.st_model.specs.declared.state.PoolState.{PoolState}
use Rattle.st_model.specs.Answer.{refused}
use Rattle.st_model.specs.Checks.{down}
use Rattle.st_model.specs.Flight.{in_flight}
use Rattle.st_model.specs.InPlace.{sectors_in}
use Rattle.st_model.specs.Lifted.{Doing, IsWithin, Keeps, answer_in, answer_of, is_known, on_pool, one_changed, runs_as}
use Rattle.st_model.specs.Local.{Outcome, where_so}
use Rattle.st_model.specs.Look.{Text, devices_taken, is_called, is_started, is_up, name_given}
use Rattle.st_model.specs.Parts.{own}
use Rattle.st_model.specs.Plain.{plain}
use Rattle.st_model.specs.Step.{changes, fault_on, is_ok, step, touches, usual, wrote}
use Rattle.st_model.specs.Sums.{used}
use Rattle.st_model.specs.Valid.{IsValid}
use Rattle.st_model.specs.ValidPool.{IsBefore, IsValidIn, IsValidPool, IsWhole}
use Rattle.st_model.specs.steps.Check.{check_pool}
use Rattle.st_model.specs.steps.SetFsLimit.{set_fs_limit}
use Rattle.st_model.specs.steps.SetMerge.{set_merge}
use Rattle.st_model.specs.steps.SetOverprovisioning.{set_overprovisioning}
use Rattle.st_model.specs.steps.SetSizeLimit.{set_size_limit}
use Rattle.st_model.specs.steps.DestroyFilesystems.{destroy_filesystems}
use Rattle.st_model.specs.steps.FsRead.{fs_read}
use Rattle.st_model.specs.steps.FsWrite.{bytes_in, fs_write}
use Rattle.st_model.specs.steps.SnapshotFilesystem.{snapshot_filesystem}
use Rattle.st_model.proofs.Flights.{found-holds}
use Rattle.st_model.proofs.Inner.{down_keeps}
use Rattle.st_model.proofs.Kept.{up_mode}
use Rattle.st_model.proofs.Lifting.{own_changed, within_keeps}
use Rattle.st_model.proofs.Lists.{All-filter, All-weaker, found_passes}
use Rattle.st_model.proofs.LocalCalls.{check-within, destroy_fs-within, fs_read-within, fs_write-within, limit-within, overprovisioning-within, set_merge-within, size_limit-within, snapshot-within}
use Rattle.st_model.proofs.Validity.{step-keeps}
use Rattle.st_laws.specs.Reads.{ReadsTell, SettingsKeepContent, WritesKeepOthers, SnapshotsRead, SnapshotsKeepOthers, DestroyingKeepsOthers, UsedIsAllocated, WritesAreRead, reads, reads_in, reads_of}
use Rattle.st_laws.proofs.Destroyed.{destroyed-other}
use Rattle.st_laws.proofs.Settings.{check-keeps, limit-keeps, merge-keeps, overprovisioning-keeps, size_limit-keeps}
use Rattle.st_laws.proofs.Snapshot.{snapshot-other, snapshot-reads}
use Rattle.st_laws.proofs.Reading.{pool-tells, read-keeps}
use Rattle.st_laws.proofs.ReadBack.{pool-other, pool-written}

both : (a b : Bool) → (a && b) ≡ true → (a ≡ true) × (b ≡ true)
both true true h = (refl, refl)
both true false h = absurd cc
both false b h = absurd cc

-- what is known of a started pool of a valid state
pub record IsFound (name : Text) (p : PoolState) : Type 0 where
  pub named : p.name ≡ name
  pub whole : p.mode ≡ modes.Up → IsWhole p

pub found : (s : EngineState) (name : Text) (p : PoolState) → IsValid s → own name s ≡ Some p → IsFound name p
found s name p v e = record {
  named = (bytes_eq-Decides p.name name).0 (found_passes (is_called name) (filter (λ (x : PoolState). is_started x.mode) s.pools) p e);
  whole = λ up.
      subst (λ (m : PoolMode). IsValidIn p m) up
      (found-holds (IsValidPool s.next) (is_called name) (filter (λ (x : PoolState). is_started x.mode) s.pools) p (All-filter (IsValidPool s.next) (λ (x : PoolState). is_started x.mode) s.pools v.pools) e).state;
}

-- a change of one pool that keeps what is read
reads_changed : (s : EngineState) (pool : Text) (g : PoolState → PoolState) → Keeps g → (other file : Text) (k : ℕ)
    → ((p : PoolState) → own other s ≡ Some p → runs_as pool p ≡ true → reads_in file k (g p) ≡ reads_in file k p)
    → reads (Rattle.st_model.specs.Lifted.changed pool g s) other file k ≡ reads s other file k
reads_changed s pool g keeps other file k h = ap (reads_of file k) (own_changed pool g keeps other s) ∙ here (own other s) refl
  where
    here : (o : Option PoolState) → own other s ≡ o → reads_of file k (option_map (one_changed pool g) o) ≡ reads_of file k o
    here None e = refl
    here (Some p) e = by (runs_as pool p) refl
      where
        by : (b : Bool) → runs_as pool p ≡ b → reads_in file k (cond b (g p) p) ≡ reads_in file k p
        by true r = h p e r
        by false r = refl

where_kept : (b : Bool) (s : EngineState) (r q : Reply) → (unwrap_or (where_so b (r, s)) (q, s)).1 ≡ s
where_kept true s r q = refl
where_kept false s r q = refl

-- what a call within a pool leaves to be read, whatever it met
usual-stays : (s : EngineState) (call : Call) (pool : Text) (f : Doing) → IsWithin f → plain s call ≡ Some (on_pool pool f s) → in_flight s call ≡ Some (pool, call) → devices_taken call ≡ [] → name_given call ≡ None
    → (other file : Text) (k : ℕ) → ((p : PoolState) → own other s ≡ Some p → runs_as pool p ≡ true → reads_in file k (f p).1 ≡ reads_in file k p)
    → (env : Env) → reads (unwrap_or (usual s call env) (refused OutOfMemory, s)).1 other file k ≡ reads s other file k
unfolding on_pool
usual-stays s call pool f within is flight none new other file k h Plain =
    ap (λ (o : Outcome). reads (unwrap_or o (refused OutOfMemory, s)).1 other file k) is ∙ reads_changed s pool (λ p. (f p).1) (within_keeps f within) other file k h
usual-stays s call pool f within is flight none new other file k h NoMem = refl
usual-stays s call pool f within is flight none new other file k h FaultRead = ap (λ (t : EngineState). reads t other file k) (where_kept (is_ok (plain s call) && touches s call) s (refused DeviceFault) (refused OutOfMemory))
usual-stays s call pool f within is flight none new other file k h FaultWrite =
    ap (λ (o : Option (Text × Call)). reads (unwrap_or (fault_on s o (wrote s call)) (refused OutOfMemory, s)).1 other file k) flight ∙ here (wrote s call)
  where
    failed : EngineState
    failed = Rattle.st_model.specs.Lifted.changed pool (down call) s

    here : (b : Bool) → reads (unwrap_or (where_so b (refused DeviceFault, failed)) (refused OutOfMemory, s)).1 other file k ≡ reads s other file k
    here true = reads_changed s pool (down call) (down_keeps call none new) other file k (λ p e r. refl)
    here false = refl
usual-stays s call pool f within is flight none new other file k h After = refl
usual-stays s call pool f within is flight none new other file k h (Before bytes) = refl

-- the pool is up, and whole, and the one that is named
record IsRun (s : EngineState) (pool other : Text) (p : PoolState) : Type 0 where
  whole : IsWhole p
  same : other ≡ pool

run_of : (s : EngineState) (pool other : Text) (p : PoolState) → IsValid s → own other s ≡ Some p → runs_as pool p ≡ true → IsRun s pool other p
run_of s pool other p v e r =
    let f = found s other p v e in
    let runs = both (is_up p.mode) (is_called pool p) r in
    record { whole = f.whole (up_mode p.mode runs.0); same = sym f.named ∙ (bytes_eq-Decides p.name pool).0 runs.1 }

pub writes-keep-others : WritesKeepOthers
writes-keep-others s pool name sector payload env v other file k out =
    usual-stays s (FsWrite pool name sector payload) pool (fs_write name sector payload) (fs_write-within name sector payload) refl refl refl refl other file k
    (λ p e r. let run = run_of s pool other p v e r in pool-other name sector payload p run.whole file k (out run.same)) env

pub snapshots-keep-others : SnapshotsKeepOthers
snapshots-keep-others s pool origin name env v other file k out =
    usual-stays s (SnapshotFilesystem pool origin name) pool (snapshot_filesystem origin name) (snapshot-within origin name) refl refl refl refl other file k
    (λ p e r. let run = run_of s pool other p v e r in snapshot-other origin name p file k (out run.same)) env

pub destroying-keeps-others : DestroyingKeepsOthers
destroying-keeps-others s pool names env v other file k out =
    usual-stays s (DestroyFilesystems pool names) pool (destroy_filesystems names) (destroy_fs-within names) refl refl refl refl other file k
    (λ p e r. let run = run_of s pool other p v e r in destroyed-other names p file k (out run.same)) env

pub settings-keep-content : SettingsKeepContent
settings-keep-content s (SetSizeLimit pool name limit) env h other file k = usual-stays s (SetSizeLimit pool name limit) pool (set_size_limit name limit) (size_limit-within name limit) refl refl refl refl other file k (λ p e r. size_limit-keeps name limit p file k) env
settings-keep-content s (SetFsLimit pool limit) env h other file k = usual-stays s (SetFsLimit pool limit) pool (set_fs_limit limit) (limit-within limit) refl refl refl refl other file k (λ p e r. limit-keeps limit p file k) env
settings-keep-content s (SetOverprovisioning pool value) env h other file k = usual-stays s (SetOverprovisioning pool value) pool (set_overprovisioning value) (overprovisioning-within value) refl refl refl refl other file k (λ p e r. overprovisioning-keeps value p file k) env
settings-keep-content s (SetMerge pool name value) env h other file k = usual-stays s (SetMerge pool name value) pool (set_merge name value) (set_merge-within name value) refl refl refl refl other file k (λ p e r. merge-keeps name value p file k) env
settings-keep-content s (FsRead pool name sector sectors) env h other file k = usual-stays s (FsRead pool name sector sectors) pool (fs_read name sector sectors) (fs_read-within name sector sectors) refl refl refl refl other file k (λ p e r. read-keeps name sector sectors p file k) env
settings-keep-content s (Check pool) env h other file k = usual-stays s (Check pool) pool check_pool check-within refl refl refl refl other file k (λ p e r. check-keeps p file k) env
settings-keep-content s (CreatePool name devices) env h other file k = absurd cc
settings-keep-content s (DestroyPool name) env h other file k = absurd cc
settings-keep-content s (StopPool name) env h other file k = absurd cc
settings-keep-content s (StartPool id) env h other file k = absurd cc
settings-keep-content s (RenamePool name new) env h other file k = absurd cc
settings-keep-content s (AddDataDevs pool devices) env h other file k = absurd cc
settings-keep-content s (InitCache pool devices) env h other file k = absurd cc
settings-keep-content s (AddCacheDevs pool devices) env h other file k = absurd cc
settings-keep-content s (CreateFilesystems pool specs) env h other file k = absurd cc
settings-keep-content s (DestroyFilesystems pool names) env h other file k = absurd cc
settings-keep-content s (SnapshotFilesystem pool origin name) env h other file k = absurd cc
settings-keep-content s (RenameFilesystem pool name new) env h other file k = absurd cc
settings-keep-content s (FsWrite pool name sector payload) env h other file k = absurd cc
settings-keep-content s (PoolReport pool) env h other file k = absurd cc
settings-keep-content s (PoolReports pools) env h other file k = absurd cc
settings-keep-content s EngineStateReport env h other file k = absurd cc
settings-keep-content s PowerCycle env h other file k = absurd cc

not_known : (b : Bool) → (refused (cond b PoolStopped NoSuchPool)).code ≡ 0 → ⊥
not_known true h = absurd cc
not_known false h = absurd cc

not_changed : (b : Bool) → changes (refused (cond b PoolStopped NoSuchPool)).result ≡ true → ⊥
not_changed true h = absurd cc
not_changed false h = absurd cc

snapshot-read : (s : EngineState) (pool origin name : Text) → IsValid s → changes (on_pool pool (snapshot_filesystem origin name) s).0.result ≡ true → (k : ℕ) → reads (on_pool pool (snapshot_filesystem origin name) s).1 pool name k ≡ reads s pool origin k
unfolding on_pool
snapshot-read s pool origin name v ok k =
    ap (reads_of name k) (own_changed pool (λ x. (snapshot_filesystem origin name x).1) (within_keeps (snapshot_filesystem origin name) (snapshot-within origin name)) pool s) ∙ here (own pool s) refl ok
  where
    up_named : (p : PoolState) → p.mode ≡ modes.Up → p.name ≡ pool → one_changed pool (λ x. (snapshot_filesystem origin name x).1) p ≡ (snapshot_filesystem origin name p).1
    up_named p up named = rw (up, (bytes_eq-Decides p.name pool).1 named) refl

    in_mode : (p : PoolState) → IsFound pool p → (m : PoolMode) → p.mode ≡ m → changes (answer_in (λ x. (snapshot_filesystem origin name x).0) p m).result ≡ true
        → reads_in name k (one_changed pool (λ x. (snapshot_filesystem origin name x).1) p) ≡ reads_in origin k p
    in_mode p known modes.Up e ok = ap (reads_in name k) (up_named p e known.named) ∙ snapshot-reads origin name p k ok
    in_mode p known (modes.Down call) e ok = absurd cc
    in_mode p known modes.Stopped e ok = absurd cc
    in_mode p known (modes.Unsettled call) e ok = absurd cc
    in_mode p known (modes.Incomplete path) e ok = absurd cc

    here : (o : Option PoolState) → own pool s ≡ o → changes (answer_of (λ x. (snapshot_filesystem origin name x).0) (is_known pool s) o).result ≡ true
        → reads_of name k (option_map (one_changed pool (λ x. (snapshot_filesystem origin name x).1)) o) ≡ reads_of origin k o
    here None e ok = absurd (not_changed (is_known pool s) ok)
    here (Some p) e ok = in_mode p (found s pool p v e) p.mode refl ok

not_told : (b : Bool) (given : Given) → (refused (cond b PoolStopped NoSuchPool)).result ≡ Some given → ⊥
not_told true given h = absurd cc
not_told false given h = absurd cc

told : (s : EngineState) (pool name : Text) (sector sectors : ℕ) (bytes : List ℕ) → IsValid s → (on_pool pool (fs_read name sector sectors) s).0.result ≡ Some (Read bytes) → (k : ℕ) → k < sectors
    → reads s pool name (sector + k) ≡ Some (take 512 (drop (512 * k) bytes))
unfolding on_pool
told s pool name sector sectors bytes v ok k less = here (own pool s) refl ok
  where
    in_mode : (p : PoolState) → IsFound pool p → (m : PoolMode) → p.mode ≡ m → (answer_in (λ x. (fs_read name sector sectors x).0) p m).result ≡ Some (Read bytes) → reads_in name (sector + k) p ≡ Some (take 512 (drop (512 * k) bytes))
    in_mode p known modes.Up e ok = pool-tells name sector sectors p (known.whole e) bytes ok k less
    in_mode p known (modes.Down call) e ok = absurd cc
    in_mode p known modes.Stopped e ok = absurd cc
    in_mode p known (modes.Unsettled call) e ok = absurd cc
    in_mode p known (modes.Incomplete path) e ok = absurd cc

    here : (o : Option PoolState) → own pool s ≡ o → (answer_of (λ x. (fs_read name sector sectors x).0) (is_known pool s) o).result ≡ Some (Read bytes) → reads_of name (sector + k) o ≡ Some (take 512 (drop (512 * k) bytes))
    here None e ok = absurd (not_told (is_known pool s) (Read bytes) ok)
    here (Some p) e ok = in_mode p (found s pool p v e) p.mode refl ok

pub reads-tell : ReadsTell
reads-tell s pool name sector sectors bytes v ok k less = told s pool name sector sectors bytes v ok k less

pub snapshots-read : SnapshotsRead
snapshots-read s pool origin name v ok k = snapshot-read s pool origin name v ok k

plain-read : (s : EngineState) (pool name : Text) (sector : ℕ) (payload : Payload) → IsValid s → (on_pool pool (fs_write name sector payload) s).0.code ≡ 0 → (k : ℕ) → k < sectors_in payload
    → reads (on_pool pool (fs_write name sector payload) s).1 pool name (sector + k) ≡ Some (take 512 (drop (512 * k) (bytes_in payload)))
unfolding on_pool
plain-read s pool name sector payload v ok k less =
    ap (reads_of name (sector + k)) (own_changed pool (λ x. (fs_write name sector payload x).1) (within_keeps (fs_write name sector payload) (fs_write-within name sector payload)) pool s) ∙ here (own pool s) refl ok
  where
    up_named : (p : PoolState) → p.mode ≡ modes.Up → p.name ≡ pool → one_changed pool (λ x. (fs_write name sector payload x).1) p ≡ (fs_write name sector payload p).1
    up_named p up named = rw (up, (bytes_eq-Decides p.name pool).1 named) refl

    in_mode : (p : PoolState) → IsFound pool p → (m : PoolMode) → p.mode ≡ m → (answer_in (λ x. (fs_write name sector payload x).0) p m).code ≡ 0
        → reads_in name (sector + k) (one_changed pool (λ x. (fs_write name sector payload x).1) p) ≡ Some (take 512 (drop (512 * k) (bytes_in payload)))
    in_mode p known modes.Up e ok = ap (reads_in name (sector + k)) (up_named p e known.named) ∙ pool-written name sector payload p (known.whole e) ok k less
    in_mode p known (modes.Down call) e ok = absurd cc
    in_mode p known modes.Stopped e ok = absurd cc
    in_mode p known (modes.Unsettled call) e ok = absurd cc
    in_mode p known (modes.Incomplete path) e ok = absurd cc

    here : (o : Option PoolState) → own pool s ≡ o → (answer_of (λ x. (fs_write name sector payload x).0) (is_known pool s) o).code ≡ 0
        → reads_of name (sector + k) (option_map (one_changed pool (λ x. (fs_write name sector payload x).1)) o) ≡ Some (take 512 (drop (512 * k) (bytes_in payload)))
    here None e ok = absurd (not_known (is_known pool s) ok)
    here (Some p) e ok = in_mode p (found s pool p v e) p.mode refl ok

pub writes-are-read : WritesAreRead
writes-are-read s pool name sector payload v ok k less = plain-read s pool name sector payload v ok k less

-- what is used in each mode
pool-used : (next : ℕ) (p : PoolState) → IsValidPool next p → used p ≤ p.allocated
pool-used next p v = here p.mode v.state
  where
    before : (call : Call) → IsBefore p call → used p ≤ p.allocated
    before (CreatePool name devices) h = let none = h.blank.cells in let used : used p ≡ 0 = ap Rattle.std.proofs.Common.length none in omega (arith, used)
    before _ h = h.whole.used

    here : (m : PoolMode) → IsValidIn p m → used p ≤ p.allocated
    here modes.Up h = h.used
    here (modes.Down call) h = before call h
    here modes.Stopped h = h.whole.used
    here (modes.Unsettled call) h = before call h
    here (modes.Incomplete path) h = let used : used p ≡ 0 = ap Rattle.std.proofs.Common.length h.blank.cells in omega (arith, used)

pub used-is-allocated : UsedIsAllocated
used-is-allocated s call env v =
    let t : EngineState = (step s call env).1 in
    All-weaker (IsValidPool t.next) (λ (p : PoolState). used p ≤ p.allocated) t.pools (pool-used t.next) (step-keeps s call env v).pools
