-- a call that answers false changes nothing
use Rattle.std.proofs.Common.{◌≡◌, ℕ, List, [], ◌∷◌, Bool, true, false, cond, map, Option, Some, None, unwrap_or, refl, ap, ◌∙◌, subst}
use Rattle.std.specs.List.{AllByRecursion}
use Rattle.st_units.specs.declared.cause.Cause.TheVariants.{OutOfMemory}
use Rattle.st_units.specs.declared.rows.FsSpec.{FsSpec}
use Rattle.st_model.specs.declared.call.Call.{Call}
use Rattle.st_model.specs.declared.call.Call.TheVariants.{CreatePool, DestroyPool, StopPool, StartPool, RenamePool, AddDataDevs, InitCache, AddCacheDevs, CreateFilesystems, DestroyFilesystems, SnapshotFilesystem, RenameFilesystem, SetSizeLimit, SetFsLimit, SetOverprovisioning, FsWrite, FsRead, Check, PoolReport, PoolReports, EngineStateReport, SetMerge, PowerCycle}
use Rattle.st_model.specs.declared.call.PoolId.{PoolId}
use Rattle.st_model.specs.declared.reply.Reply.{Reply}
use Rattle.st_model.specs.declared.state.EngineState.{EngineState}
use Rattle.st_model.specs.declared.state.FsState.{FsState}
use Rattle.st_model.specs.declared.state.PoolMode.{PoolMode}
use Rattle.st_model.specs.declared.state.PoolMode.TheVariants.{Up, Down, Stopped, Unsettled, Incomplete}
use Rattle.st_model.specs.declared.state.PoolState.{PoolState}
use Rattle.st_model.specs.Answer.{first_answer, refused, unless_answered}
use Rattle.st_model.specs.Checks.{fs_at, in_fs, on_fs}
use Rattle.st_model.specs.Flight.{new_to}
use Rattle.st_model.specs.Lifted.{Doing, answer_in, answer_of, is_known, on_pool, one_changed, runs_as}
use Rattle.st_model.specs.Local.{Outcome, where_so}
use Rattle.st_model.specs.Look.{Text, is_started}
use Rattle.st_model.specs.Parts.{own, pool_at}
use Rattle.st_model.specs.Plain.{plain}
use Rattle.st_model.specs.Sound.{are_few}
use Rattle.st_model.specs.Valid.{IsValid}
use Rattle.st_model.specs.steps.AddCacheDevs.{more_cache}
use Rattle.st_model.specs.steps.AddDataDevs.{data_devs}
use Rattle.st_model.specs.steps.AddDevices.{Adding, add_answers, add_devices, add_found}
use Rattle.st_model.specs.declared.call.Payload.{Payload}
use Rattle.st_model.specs.InPlace.{sectors_in}
use Rattle.st_model.specs.steps.Check.{check_answers, check_pool}
use Rattle.st_model.specs.steps.FsRead.{fs_read, read_answers, read_fs}
use Rattle.st_model.specs.steps.FsWrite.{fs_write, write_answers, write_fs}
use Rattle.st_model.specs.steps.CreateFilesystems.{create_filesystems, fs_answers, to_create}
use Rattle.st_model.specs.steps.CreatePool.{create_answer, create_plain}
use Rattle.st_model.specs.steps.DestroyFilesystems.{destroy_filesystems, destroy_fs_answers, to_destroy}
use Rattle.st_model.specs.steps.DestroyPool.{destroy_answers, destroy_found, destroy_pool}
use Rattle.st_model.specs.steps.EngineStateReport.{report_plain}
use Rattle.st_model.specs.steps.InitCache.{new_cache}
use Rattle.st_model.specs.steps.PoolReport.{pool_report}
use Rattle.st_model.specs.steps.PoolReports.{pool_reports}
use Rattle.st_model.specs.steps.PowerCycle.{power_cycle}
use Rattle.st_model.specs.steps.RenameFilesystem.{rename_filesystem, rename_fs, rename_fs_answers}
use Rattle.st_model.specs.steps.RenamePool.{rename_answers, rename_found, rename_pool}
use Rattle.st_model.specs.steps.SetFsLimit.{limit_answers, set_fs_limit}
use Rattle.st_model.specs.steps.SetMerge.{mark_fs, merge_answers, set_merge}
use Rattle.st_model.specs.steps.SetOverprovisioning.{overprovisioning_answers, set_overprovisioning}
use Rattle.st_model.specs.steps.SetSizeLimit.{limit_fs, set_size_limit, size_limit_answers}
use Rattle.st_model.specs.steps.SnapshotFilesystem.{named_answer, snapshot_answers, snapshot_filesystem, take_snapshot}
use Rattle.st_model.specs.steps.StartPool.{pool_meant, start_found, start_in, start_pool}
use Rattle.st_model.specs.steps.StopPool.{stop_found, stop_pool}
use Rattle.st_model.proofs.Among.{IsPlaced, all_placed}
use Rattle.st_model.proofs.Kept.{own_of}
use Rattle.st_laws.specs.Reads.{FalseChangesNothing, says_false}

-- what answers false changes nothing
abbrev Keeps : {S : Type 0} → S → Reply × S → Type 0
Keeps s after = says_false after.0.result ≡ true → after.1 ≡ s

unless-keeps : {S : Type 0} (a : Option Reply) (s : S) (next : Reply × S) → says_false next.0.result ≡ false → Keeps s (unless_answered a s next)
unless-keeps None s next zero h = absurd (clash (says_false next.0.result) zero h)
  where
    clash : (b : Bool) → b ≡ false → b ≡ true → ⊥
    clash b f t = absurd cc
unless-keeps (Some r) s next zero h = refl

fs-keeps : (f : FsState → PoolState → Reply × PoolState) → ((fs : FsState) (p : PoolState) → Keeps p (f fs p)) → (name : Text) (p : PoolState) → Keeps p (on_fs name f p)
fs-keeps f h name p = here (fs_at name p.filesystems)
  where
    here : (o : Option FsState) → Keeps p (in_fs f p o)
    here None e = refl
    here (Some fs) e = h fs p e

-- a call within a pool
module _ (s : EngineState) (name : Text) (f : Doing) (keeps : (p : PoolState) → Keeps p (f p)) where
  one_kept : (p : PoolState) → IsPlaced s.devices s.pools p → says_false (on_pool name f s).0.result ≡ true → one_changed name (λ q. (f q).1) p ≡ p
  unfolding on_pool
  one_kept p placed h = here (runs_as name p) refl
    where
      here : (b : Bool) → runs_as name p ≡ b → cond b (f p).1 p ≡ p
      here false e = refl
      here true e =
          let o = own_of s name p placed e in
          let same : answer_of (λ q. (f q).0) (is_known name s) (own name s) ≡ (f p).0 = ap (answer_of (λ q. (f q).0) (is_known name s)) o.own ∙ ap (answer_in (λ q. (f q).0) p) o.is_up in
          keeps p (subst (λ (r : Reply). says_false r.result ≡ true) same h)

  all_kept : (ps : List PoolState) → AllByRecursion (IsPlaced s.devices s.pools) ps → says_false (on_pool name f s).0.result ≡ true → map (one_changed name (λ q. (f q).1)) ps ≡ ps
  all_kept [] a h = refl
  all_kept (p ∷ ps) a h = rw (one_kept p a.0 h, all_kept ps a.1 h) refl

  pool-keeps : IsValid s → Keeps s (on_pool name f s)
  unfolding on_pool
  pool-keeps v h = ap (λ (l : List PoolState). record s { pools = l }) (all_kept s.pools (all_placed s.devices s.pools v.apart) h)

-- each call within a pool
create_fs-keeps : (specs : List FsSpec) (p : PoolState) → Keeps p (create_filesystems specs p)
unfolding create_filesystems
create_fs-keeps specs p = unless-keeps (first_answer (fs_answers (to_create specs p) p)) p _ refl

rename_fs-keeps : (name new : Text) (p : PoolState) → Keeps p (rename_filesystem name new p)
unfolding rename_filesystem
rename_fs-keeps name new = fs-keeps (rename_fs new) (λ fs p. unless-keeps (first_answer (rename_fs_answers new fs p)) p _ refl) name

size_limit-keeps : (name : Text) (limit : Option ℕ) (p : PoolState) → Keeps p (set_size_limit name limit p)
unfolding set_size_limit
size_limit-keeps name limit = fs-keeps (limit_fs limit) (λ fs p. unless-keeps (first_answer (size_limit_answers limit fs p)) p _ refl) name

limit-keeps : (limit : ℕ) (p : PoolState) → Keeps p (set_fs_limit limit p)
unfolding set_fs_limit
limit-keeps limit p = unless-keeps (first_answer (limit_answers limit p)) p _ refl

overprovisioning-keeps : (value : Bool) (p : PoolState) → Keeps p (set_overprovisioning value p)
unfolding set_overprovisioning
overprovisioning-keeps value p = unless-keeps (first_answer (overprovisioning_answers value p)) p _ refl

merge-keeps : (name : Text) (value : Bool) (p : PoolState) → Keeps p (set_merge name value p)
unfolding set_merge
merge-keeps name value = fs-keeps (mark_fs value) (λ fs p. unless-keeps (first_answer (merge_answers value fs p)) p _ refl) name

destroy_fs-keeps : (names : List Text) (p : PoolState) → Keeps p (destroy_filesystems names p)
unfolding destroy_filesystems
destroy_fs-keeps names p = unless-keeps (first_answer (destroy_fs_answers (to_destroy names p) p)) p _ refl

snapshot-keeps : (origin name : Text) (p : PoolState) → Keeps p (snapshot_filesystem origin name p)
unfolding snapshot_filesystem
snapshot-keeps origin name p = here (named_answer (fs_at origin p.filesystems) (fs_at name p.filesystems))
  where
    here : (a : Option Reply) → Keeps p (unless_answered a p (on_fs origin (take_snapshot name) p))
    here None = fs-keeps (take_snapshot name) (λ fs p. unless-keeps (first_answer (snapshot_answers name fs p)) p _ refl) origin p
    here (Some r) = λ h. refl

report-keeps : (p : PoolState) → Keeps p (pool_report p)
unfolding pool_report
report-keeps p h = refl

write-keeps : (name : Text) (sector : ℕ) (payload : Payload) (p : PoolState) → Keeps p (fs_write name sector payload p)
unfolding fs_write
write-keeps name sector payload = fs-keeps (write_fs sector payload) (λ fs p. unless-keeps (first_answer (write_answers fs sector (sectors_in payload) p)) p _ refl) name

read-keeps : (name : Text) (sector sectors : ℕ) (p : PoolState) → Keeps p (fs_read name sector sectors p)
unfolding fs_read
read-keeps name sector sectors = fs-keeps (read_fs sector sectors) (λ fs p. unless-keeps (first_answer (read_answers fs sector sectors)) p _ refl) name

check-keeps : (p : PoolState) → Keeps p (check_pool p)
unfolding check_pool
check-keeps p = unless-keeps (first_answer (check_answers p)) p _ refl

-- each other call
create-keeps : (s : EngineState) (name : Text) (paths : List Text) → Keeps s (create_plain s name paths)
unfolding create_plain
create-keeps s name paths = unless-keeps (create_answer s name paths) s _ refl

destroy-keeps : (s : EngineState) (name : Text) → Keeps s (destroy_pool name s)
unfolding destroy_pool
destroy-keeps s name = here (pool_at name s.pools)
  where
    here : (o : Option PoolState) → Keeps s (destroy_found s o)
    here None h = refl
    here (Some p) h = unless-keeps (first_answer (destroy_answers p)) s _ refl h

stop-keeps : (s : EngineState) (name : Text) → Keeps s (stop_pool name s)
unfolding stop_pool
stop-keeps s name = here (pool_at name s.pools)
  where
    so : (b : Bool) (a c : Reply × EngineState) → says_false a.0.result ≡ false → c.1 ≡ s → Keeps s (cond b a c)
    so true a c zero e h = absurd (clash (says_false a.0.result) zero h)
      where
        clash : (b : Bool) → b ≡ false → b ≡ true → ⊥
        clash b f t = absurd cc
    so false a c zero e h = e

    here : (o : Option PoolState) → Keeps s (stop_found s name o)
    here None h = refl
    here (Some p) h = so (is_started p.mode) _ _ refl refl h

rename-keeps : (s : EngineState) (name new : Text) → Keeps s (rename_pool name new s)
unfolding rename_pool
rename-keeps s name new = here (pool_at name s.pools)
  where
    here : (o : Option PoolState) → Keeps s (rename_found s name new o)
    here None h = refl
    here (Some p) h = unless-keeps (first_answer (rename_answers s name new p)) s _ refl h

add-keeps : (a : Adding) (s : EngineState) (name : Text) (devices : List Text) → Keeps s (add_devices a name devices s)
unfolding add_devices
add-keeps a s name devices = here (pool_at name s.pools)
  where
    here : (o : Option PoolState) → Keeps s (add_found a s name devices o)
    here None h = refl
    here (Some p) h = unless-keeps (first_answer (add_answers a s devices (new_to (a.there p.devices) devices) p)) s _ refl h

abbrev KeepsIfAny : EngineState → Outcome → Type 0
KeepsIfAny s None = Unit {0}
KeepsIfAny s (Some after) = Keeps s after

start-keeps : (s : EngineState) (id : PoolId) → KeepsIfAny s (start_pool id s)
unfolding start_pool
start-keeps s id = here (pool_meant id s)
  where
    in_mode : (p : PoolState) (m : PoolMode) → KeepsIfAny s (start_in s p m)
    in_mode p Up = λ h. refl
    in_mode p (Down call) = λ h. refl
    in_mode p Stopped = λ h. absurd cc
    in_mode p (Unsettled call) = tt
    in_mode p (Incomplete path) = λ h. refl

    here : (o : Option PoolState) → KeepsIfAny s (start_found s o)
    here None = λ h. refl
    here (Some p) = in_mode p p.mode

cycle-keeps : (s : EngineState) → Keeps s (power_cycle s)
unfolding power_cycle
cycle-keeps s h = absurd cc

engine-keeps : (s : EngineState) → Keeps s (report_plain s)
unfolding report_plain
engine-keeps s h = refl

reports-keep : (s : EngineState) (pools : List Text) (b : Bool) → KeepsIfAny s (where_so b (pool_reports pools s))
unfolding pool_reports
reports-keep s pools true = λ h. refl
reports-keep s pools false = tt

plain-keeps : (s : EngineState) (call : Call) → IsValid s → KeepsIfAny s (plain s call)
plain-keeps s (CreatePool name devices) v = create-keeps s name devices
plain-keeps s (DestroyPool name) v = destroy-keeps s name
plain-keeps s (StopPool name) v = stop-keeps s name
plain-keeps s (StartPool id) v = start-keeps s id
plain-keeps s (RenamePool name new) v = rename-keeps s name new
plain-keeps s (CreateFilesystems pool specs) v = pool-keeps s pool (create_filesystems specs) (create_fs-keeps specs) v
plain-keeps s (RenameFilesystem pool name new) v = pool-keeps s pool (rename_filesystem name new) (rename_fs-keeps name new) v
plain-keeps s (SetSizeLimit pool name limit) v = pool-keeps s pool (set_size_limit name limit) (size_limit-keeps name limit) v
plain-keeps s (SetFsLimit pool limit) v = pool-keeps s pool (set_fs_limit limit) (limit-keeps limit) v
plain-keeps s (SetOverprovisioning pool value) v = pool-keeps s pool (set_overprovisioning value) (overprovisioning-keeps value) v
plain-keeps s (SetMerge pool name value) v = pool-keeps s pool (set_merge name value) (merge-keeps name value) v
plain-keeps s (PoolReport pool) v = pool-keeps s pool pool_report report-keeps v
plain-keeps s (PoolReports pools) v = reports-keep s pools (are_few pools)
plain-keeps s EngineStateReport v = engine-keeps s
plain-keeps s PowerCycle v = cycle-keeps s
plain-keeps s (AddDataDevs pool devices) v = add-keeps data_devs s pool devices
plain-keeps s (InitCache pool devices) v = add-keeps new_cache s pool devices
plain-keeps s (AddCacheDevs pool devices) v = add-keeps more_cache s pool devices
plain-keeps s (DestroyFilesystems pool names) v = pool-keeps s pool (destroy_filesystems names) (destroy_fs-keeps names) v
plain-keeps s (SnapshotFilesystem pool origin name) v = pool-keeps s pool (snapshot_filesystem origin name) (snapshot-keeps origin name) v
plain-keeps s (FsWrite pool name sector payload) v = pool-keeps s pool (fs_write name sector payload) (write-keeps name sector payload) v
plain-keeps s (FsRead pool name sector sectors) v = pool-keeps s pool (fs_read name sector sectors) (read-keeps name sector sectors) v
plain-keeps s (Check pool) v = pool-keeps s pool check_pool check-keeps v

plain-false : (s : EngineState) (call : Call) → IsValid s → says_false (unwrap_or (plain s call) (refused OutOfMemory, s)).0.result ≡ true → (unwrap_or (plain s call) (refused OutOfMemory, s)).1 ≡ s
plain-false s call v = here (plain s call) (plain-keeps s call v)
  where
    here : (o : Outcome) → KeepsIfAny s o → says_false (unwrap_or o (refused OutOfMemory, s)).0.result ≡ true → (unwrap_or o (refused OutOfMemory, s)).1 ≡ s
    here None k h = refl
    here (Some after) k h = k h

pub false-changes-nothing : FalseChangesNothing
false-changes-nothing s (CreatePool name devices) v = plain-false s (CreatePool name devices) v
false-changes-nothing s (DestroyPool name) v = plain-false s (DestroyPool name) v
false-changes-nothing s (StopPool name) v = plain-false s (StopPool name) v
false-changes-nothing s (StartPool id) v = plain-false s (StartPool id) v
false-changes-nothing s (RenamePool name new) v = plain-false s (RenamePool name new) v
false-changes-nothing s (AddDataDevs pool devices) v = plain-false s (AddDataDevs pool devices) v
false-changes-nothing s (InitCache pool devices) v = plain-false s (InitCache pool devices) v
false-changes-nothing s (AddCacheDevs pool devices) v = plain-false s (AddCacheDevs pool devices) v
false-changes-nothing s (CreateFilesystems pool specs) v = plain-false s (CreateFilesystems pool specs) v
false-changes-nothing s (DestroyFilesystems pool names) v = plain-false s (DestroyFilesystems pool names) v
false-changes-nothing s (SnapshotFilesystem pool origin name) v = plain-false s (SnapshotFilesystem pool origin name) v
false-changes-nothing s (RenameFilesystem pool name new) v = plain-false s (RenameFilesystem pool name new) v
false-changes-nothing s (SetSizeLimit pool name limit) v = plain-false s (SetSizeLimit pool name limit) v
false-changes-nothing s (SetFsLimit pool limit) v = plain-false s (SetFsLimit pool limit) v
false-changes-nothing s (SetOverprovisioning pool value) v = plain-false s (SetOverprovisioning pool value) v
false-changes-nothing s (FsWrite pool name sector payload) v = plain-false s (FsWrite pool name sector payload) v
false-changes-nothing s (FsRead pool name sector sectors) v = plain-false s (FsRead pool name sector sectors) v
false-changes-nothing s (Check pool) v = plain-false s (Check pool) v
false-changes-nothing s (PoolReport pool) v = plain-false s (PoolReport pool) v
false-changes-nothing s (PoolReports pools) v = plain-false s (PoolReports pools) v
false-changes-nothing s EngineStateReport v = plain-false s EngineStateReport v
false-changes-nothing s (SetMerge pool name value) v = plain-false s (SetMerge pool name value) v
false-changes-nothing s PowerCycle v = plain-false s PowerCycle v
