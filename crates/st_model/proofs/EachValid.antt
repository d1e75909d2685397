-- a step keeps validity: by what the call met, once, and then a line for each call
use Rattle.std.proofs.Common.{◌≡◌, ℕ, List, Bool, true, false, Option, Some, None, refl, subst, [], sym, ◌∙◌, ◌==◌, ◌&&◌}
use Rattle.st_units.specs.declared.cause.Cause.TheVariants.{DeviceFault}
use Rattle.st_units.specs.declared.rows.FsSpec.{FsSpec}
use Rattle.st_model.specs.declared.call.Call.{Call}
use Rattle.st_model.specs.declared.call.Call.TheVariants.{DestroyPool, StopPool, RenamePool, CreateFilesystems, RenameFilesystem, SetSizeLimit, SetFsLimit, SetOverprovisioning, FsWrite, FsRead, Check, PoolReport, PoolReports, EngineStateReport, PowerCycle, SetMerge, DestroyFilesystems, SnapshotFilesystem}
use Rattle.st_model.specs.declared.entry.Env.{Env}
use Rattle.st_model.specs.declared.entry.Env.TheVariants.{Plain, NoMem, FaultRead, FaultWrite, After, Before}
use Rattle.st_model.specs.declared.state.EngineState.{EngineState}
use Rattle.st_model.specs.declared.state.PoolState.{PoolState}
use Rattle.st_model.specs.Answer.{refused}
use Rattle.st_model.specs.Look.{Text, devices_taken, name_given}
use Rattle.st_model.specs.Sound.{are_few}
use Rattle.st_units.specs.declared.rows.DevRow.{DevRow}
use Rattle.st_model.specs.steps.EngineStateReport.{report_plain}
use Rattle.st_model.specs.Checks.{down}
use Rattle.st_model.specs.Flight.{in_flight}
use Rattle.st_model.specs.Lifted.{Doing, IsWithin, changed, on_pool}
use Rattle.st_model.specs.Local.{where_so}
use Rattle.st_model.specs.Step.{wrote, fault_on, usual, outcome, is_changed, is_ok, changes}
use Rattle.st_model.specs.Plain.{plain}
use Rattle.st_model.specs.Valid.{IsOn, IsValid}
use Rattle.st_model.specs.ValidPool.{IsBefore, IsHalted, IsWhole}
use Rattle.st_model.specs.declared.call.Payload.{Payload}
use Rattle.st_model.specs.Parts.{own}
use Rattle.st_model.specs.steps.Check.{check_pool}
use Rattle.st_model.specs.steps.FsRead.{fs_read, misses}
use Rattle.st_model.specs.steps.FsWrite.{fs_write}
use Rattle.st_model.specs.steps.PoolReports.{pool_reports}
use Rattle.st_model.specs.steps.RenameFilesystem.{rename_filesystem}
use Rattle.st_model.specs.steps.SetMerge.{set_merge}
use Rattle.st_model.proofs.ValidMerge.{set_merge-again, set_merge-whole}
use Rattle.st_model.specs.steps.SetOverprovisioning.{set_overprovisioning}
use Rattle.st_model.specs.steps.SetSizeLimit.{set_size_limit}
use Rattle.st_model.specs.steps.PoolReport.{pool_report}
use Rattle.st_model.proofs.Alone.{alone_before}
use Rattle.st_model.proofs.Among.{up}
use Rattle.st_model.proofs.Kept.{alone_of, doing-valid, failed-valid, failed_ok-valid}
use Rattle.st_model.proofs.LocalCalls.{overprovisioning-within, rename_fs-within, report-within, size_limit-within, set_merge-within, check-within, fs_read-within, fs_write-within, destroy_fs-within, snapshot-within}
use Rattle.st_model.proofs.ValidDestroy.{destroy-valid, destroy_failed-valid}
use Rattle.st_model.proofs.ValidFields.{overprovisioning-again, overprovisioning-whole, rename_filesystem-again, rename_filesystem-whole, size_limit-again, size_limit-whole}
use Rattle.st_model.proofs.ValidCreateFs.{create_fs-valid, create_fs_failed-valid}
use Rattle.st_model.proofs.ValidLimit.{limit-valid, limit_failed-valid}
use Rattle.st_model.proofs.ValidCheck.{check-again, check-whole}
use Rattle.st_model.proofs.ValidRead.{fs_read-again, fs_read-whole}
use Rattle.st_model.proofs.ValidWrite.{fs_write-again, fs_write-whole}
use Rattle.st_model.proofs.ValidRename.{rename-valid}
use Rattle.st_model.proofs.ValidRenameFailed.{rename_failed-valid}
use Rattle.st_model.proofs.ValidStart.{IsValidAfter, cycle-valid, where-valid, stop-valid}
use Rattle.st_model.specs.steps.AddDevices.{Adding}
use Rattle.st_model.specs.steps.DestroyFilesystems.{destroy_filesystems}
use Rattle.st_model.specs.steps.SnapshotFilesystem.{snapshot_filesystem}
use Rattle.st_model.proofs.AddFailed.{IsAddCall, add_failed-valid}
use Rattle.st_model.proofs.ValidAdding.{add-valid}
use Rattle.st_model.proofs.ValidDestroyFs.{destroy_fs-again, destroy_fs-whole}
use Rattle.st_model.proofs.ValidSnapshot.{snapshot-again, snapshot-whole}

pub where-if : (b : Bool) (after : _ × EngineState) → (b ≡ true → IsValid after.1) → IsValidAfter (where_so b after)
where-if true after h = h refl
where-if false after h = tt

-- what the write that failed leaves is valid, where the call wrote
abbrev pub IsValidFault : EngineState → Option (Text × Call) → Bool → Type 0
IsValidFault s None b = Unit {0}
IsValidFault s (Some flight) b = b ≡ true → IsValid (changed flight.0 (down flight.1) s)

fault-valid : (s : EngineState) (flight : Option (Text × Call)) (b : Bool) → IsValidFault s flight b → IsValidAfter (fault_on s flight b)
fault-valid s None b h = tt
fault-valid s (Some flight) b h = where-if b _ h

pub usual-valid : (s : EngineState) (call : Call) (env : Env) → IsValid s → IsValidAfter (plain s call) → IsValidFault s (in_flight s call) (wrote s call) → IsValidAfter (usual s call env)
usual-valid s call Plain v h f = h
usual-valid s call NoMem v h f = v
usual-valid s call FaultRead v h f = where-valid _ (refused DeviceFault, s) v
usual-valid s call FaultWrite v h f = fault-valid s (in_flight s call) (wrote s call) f
usual-valid s call After v h f = tt
usual-valid s call (Before bytes) v h f = tt

report_pool-valid : (s : EngineState) (pool : Text) → IsValid s → IsValid (Rattle.st_model.specs.Lifted.on_pool pool pool_report s).1
unfolding pool_report
report_pool-valid s pool v = doing-valid s pool pool_report report-within (λ p w. w) v

report-valid : (s : EngineState) → IsValid s → IsValid (report_plain s).1
unfolding report_plain
report-valid s v = v

pub rename_pool-keeps : (s : EngineState) (name new : Text) (env : Env) → IsValid s → IsValidAfter (outcome s (RenamePool name new) env)
rename_pool-keeps s name new env v = usual-valid s (RenamePool name new) env v (rename-valid s name new v) (λ h. rename_failed-valid s name new h v)

pub stop-keeps : (s : EngineState) (name : Text) (env : Env) → IsValid s → IsValidAfter (outcome s (StopPool name) env)
stop-keeps s name env v = usual-valid s (StopPool name) env v (stop-valid s name v) tt

pub create_fs-keeps : (s : EngineState) (pool : Text) (specs : List FsSpec) (env : Env) → IsValid s → IsValidAfter (outcome s (CreateFilesystems pool specs) env)
create_fs-keeps s pool specs env v = usual-valid s (CreateFilesystems pool specs) env v (create_fs-valid s pool specs v) (λ h. create_fs_failed-valid s pool specs h v)

pub limit-keeps : (s : EngineState) (pool : Text) (limit : ℕ) (env : Env) → IsValid s → IsValidAfter (outcome s (SetFsLimit pool limit) env)
limit-keeps s pool limit env v = usual-valid s (SetFsLimit pool limit) env v (limit-valid s pool limit v) (λ h. limit_failed-valid s pool limit h v)

pub report-keeps : (s : EngineState) (pool : Text) (env : Env) → IsValid s → IsValidAfter (outcome s (PoolReport pool) env)
report-keeps s pool env v = usual-valid s (PoolReport pool) env v (report_pool-valid s pool v) tt

pub engine-keeps : (s : EngineState) (env : Env) → IsValid s → IsValidAfter (outcome s EngineStateReport env)
engine-keeps s env v = usual-valid s EngineStateReport env v (report-valid s v) tt

-- a call within a pool that takes no device and gives no name: what it owes
pub record IsWithinCall (pool : Text) (call : Call) (f : Doing) : Type 0 where
  pub of_plain : (s : EngineState) → plain s call ≡ Some (on_pool pool f s)
  pub of_outcome : (s : EngineState) (env : Env) → outcome s call env ≡ usual s call env
  pub of_flight : (s : EngineState) → in_flight s call ≡ Some (pool, call)
  pub of_wrote : (s : EngineState) → wrote s call ≡ is_changed (plain s call)
  pub takes : devices_taken call ≡ []
  pub gives : name_given call ≡ None
  pub before : (p : PoolState) → IsHalted (down call p) → IsBefore (down call p) call
  pub on : (n : Text) → pool ≡ n → IsOn n call
  pub alone : (rows : List DevRow) (p : PoolState) → plain (alone_before rows (down call p) call) call ≡ Some (on_pool pool f (alone_of rows (down call p)))
  pub within : IsWithin f
  pub whole : (p : PoolState) → IsWhole p → IsWhole (f p).1
  pub again : (p : PoolState) → (((f p).0.code == 0) && changes (f p).0.result) ≡ true → (f (up (down call p))).0.code ≡ 0

pub within-keeps : (pool : Text) (call : Call) (f : Doing) → IsWithinCall pool call f → (s : EngineState) (env : Env) → IsValid s → IsValidAfter (outcome s call env)
within-keeps pool call f c s env v =
    subst IsValidAfter (sym (c.of_outcome s env))
    (usual-valid s call env v (subst IsValidAfter (sym (c.of_plain s)) (doing-valid s pool f c.within c.whole v))
    (subst (λ o. IsValidFault s o (wrote s call)) (sym (c.of_flight s)) (λ h. failed-valid s pool call f (c.of_plain s) c.takes c.gives c.before c.on c.alone c.again (sym (c.of_wrote s) ∙ h) v)))

pub rename_fs-call : (pool fs new : Text) → IsWithinCall pool (RenameFilesystem pool fs new) (rename_filesystem fs new)
rename_fs-call pool fs new = record {
  of_plain = λ s. refl;
  of_outcome = λ s env. refl;
  of_flight = λ s. refl;
  of_wrote = λ s. refl;
  takes = refl;
  gives = refl;
  before = λ p h. h;
  on = λ n e. e;
  alone = λ rows p. refl;
  within = rename_fs-within fs new;
  whole = rename_filesystem-whole fs new;
  again = λ p. rename_filesystem-again fs new p (up (down (RenameFilesystem pool fs new) p)) refl refl;
}

pub size_limit-call : (pool fs : Text) (limit : Option ℕ) → IsWithinCall pool (SetSizeLimit pool fs limit) (set_size_limit fs limit)
size_limit-call pool fs limit = record {
  of_plain = λ s. refl;
  of_outcome = λ s env. refl;
  of_flight = λ s. refl;
  of_wrote = λ s. refl;
  takes = refl;
  gives = refl;
  before = λ p h. h;
  on = λ n e. e;
  alone = λ rows p. refl;
  within = size_limit-within fs limit;
  whole = size_limit-whole fs limit;
  again = λ p. size_limit-again fs limit p (up (down (SetSizeLimit pool fs limit) p)) refl refl;
}

pub overprovisioning-call : (pool : Text) (value : Bool) → IsWithinCall pool (SetOverprovisioning pool value) (set_overprovisioning value)
overprovisioning-call pool value = record {
  of_plain = λ s. refl;
  of_outcome = λ s env. refl;
  of_flight = λ s. refl;
  of_wrote = λ s. refl;
  takes = refl;
  gives = refl;
  before = λ p h. h;
  on = λ n e. e;
  alone = λ rows p. refl;
  within = overprovisioning-within value;
  whole = overprovisioning-whole value;
  again = λ p. overprovisioning-again value p (up (down (SetOverprovisioning pool value) p)) refl;
}

pub set_merge-call : (pool fs : Text) (value : Bool) → IsWithinCall pool (SetMerge pool fs value) (set_merge fs value)
set_merge-call pool fs value = record {
  of_plain = λ s. refl;
  of_outcome = λ s env. refl;
  of_flight = λ s. refl;
  of_wrote = λ s. refl;
  takes = refl;
  gives = refl;
  before = λ p h. h;
  on = λ n e. e;
  alone = λ rows p. refl;
  within = set_merge-within fs value;
  whole = set_merge-whole fs value;
  again = λ p. set_merge-again fs value p (up (down (SetMerge pool fs value) p)) refl refl;
}

pub fs_write-call : (pool fs : Text) (sector : ℕ) (payload : Payload) → IsWithinCall pool (FsWrite pool fs sector payload) (fs_write fs sector payload)
fs_write-call pool fs sector payload = record {
  of_plain = λ s. refl;
  of_outcome = λ s env. refl;
  of_flight = λ s. refl;
  of_wrote = λ s. refl;
  takes = refl;
  gives = refl;
  before = λ p h. h;
  on = λ n e. e;
  alone = λ rows p. refl;
  within = fs_write-within fs sector payload;
  whole = fs_write-whole fs sector payload;
  again = λ p. fs_write-again fs sector payload p (up (down (FsWrite pool fs sector payload) p)) refl (λ x. refl);
}

pub check-call : (pool : Text) → IsWithinCall pool (Check pool) (check_pool)
check-call pool = record {
  of_plain = λ s. refl;
  of_outcome = λ s env. refl;
  of_flight = λ s. refl;
  of_wrote = λ s. refl;
  takes = refl;
  gives = refl;
  before = λ p h. h;
  on = λ n e. e;
  alone = λ rows p. refl;
  within = check-within;
  whole = check-whole;
  again = λ p. check-again p (up (down (Check pool) p)) refl;
}

-- a read that misses writes to the cache
first_so : (a b : Bool) → (a && b) ≡ true → a ≡ true
first_so true b h = refl
first_so false b h = absurd cc

pub fs_read-keeps : (s : EngineState) (pool fs : Text) (sector sectors : ℕ) (env : Env) → IsValid s → IsValidAfter (outcome s (FsRead pool fs sector sectors) env)
fs_read-keeps s pool fs sector sectors env v =
    let call = FsRead pool fs sector sectors in
    usual-valid s call env v (doing-valid s pool (fs_read fs sector sectors) (fs_read-within fs sector sectors) (fs_read-whole fs sector sectors) v)
    (λ h. failed_ok-valid s pool call (fs_read fs sector sectors) refl refl refl (λ p halted. halted) (λ n e. e) (λ rows p. refl)
    (λ p. fs_read-again fs sector sectors p (up (down call p)) refl) (first_so (is_ok (plain s call)) (misses fs sector sectors (own pool s)) h) v)

pub destroy_fs-call : (pool : Text) (names : List Text) → IsWithinCall pool (DestroyFilesystems pool names) (destroy_filesystems names)
destroy_fs-call pool names = record {
  of_plain = λ s. refl;
  of_outcome = λ s env. refl;
  of_flight = λ s. refl;
  of_wrote = λ s. refl;
  takes = refl;
  gives = refl;
  before = λ p h. h;
  on = λ n e. e;
  alone = λ rows p. refl;
  within = destroy_fs-within names;
  whole = destroy_fs-whole names;
  again = λ p. destroy_fs-again names p (up (down (DestroyFilesystems pool names) p)) refl;
}

pub snapshot-call : (pool origin name : Text) → IsWithinCall pool (SnapshotFilesystem pool origin name) (snapshot_filesystem origin name)
snapshot-call pool origin name = record {
  of_plain = λ s. refl;
  of_outcome = λ s env. refl;
  of_flight = λ s. refl;
  of_wrote = λ s. refl;
  takes = refl;
  gives = refl;
  before = λ p h. h;
  on = λ n e. e;
  alone = λ rows p. refl;
  within = snapshot-within origin name;
  whole = snapshot-whole origin name;
  again = λ p. snapshot-again origin name p (up (down (SnapshotFilesystem pool origin name) p)) refl (λ fs. refl);
}

reports-valid : (s : EngineState) (pools : List Text) → IsValid s → IsValid (pool_reports pools s).1
unfolding pool_reports
reports-valid s pools v = v

pub reports-keeps : (s : EngineState) (pools : List Text) (env : Env) → IsValid s → IsValidAfter (outcome s (PoolReports pools) env)
reports-keeps s pools env v = usual-valid s (PoolReports pools) env v (where-valid (are_few pools) (pool_reports pools s) (reports-valid s pools v)) tt

pub cycle-keeps : (s : EngineState) (env : Env) → IsValid s → IsValidAfter (outcome s PowerCycle env)
cycle-keeps s env v = usual-valid s PowerCycle env v (cycle-valid s v) tt

pub destroy-keeps : (s : EngineState) (name : Text) (env : Env) → IsValid s → IsValidAfter (outcome s (DestroyPool name) env)
destroy-keeps s name env v = usual-valid s (DestroyPool name) env v (destroy-valid s name v) (λ h. destroy_failed-valid s name h v)

pub add-keeps : (a : Adding) (make : Text → List Text → Call) → IsAddCall a make → (s : EngineState) (name : Text) (devices : List Text) (env : Env) → IsValid s → IsValidAfter (outcome s (make name devices) env)
add-keeps a make c s name devices env v =
    subst IsValidAfter (sym (c.of_outcome s name devices env))
    (usual-valid s (make name devices) env v (subst IsValidAfter (sym (c.of_plain s name devices)) (add-valid a c.adding s name devices v))
    (subst (λ o. IsValidFault s o (wrote s (make name devices))) (sym (c.of_flight s name devices)) (λ h. add_failed-valid a make c s name devices (sym (c.of_wrote s name devices) ∙ h) v)))
