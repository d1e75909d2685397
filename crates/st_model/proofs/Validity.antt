-- the closing table: a step keeps validity, a line for each call
use Rattle.std.proofs.Common.{◌≡◌, List, Bool, true, false, cond, Option, Some, None, unwrap_or, refl}
use Rattle.st_units.specs.declared.cause.Cause.TheVariants.{EmptyDevices, NameInUse, TooManyDevices, TooManyPools, DeviceFault, OutOfMemory}
use Rattle.st_model.specs.declared.call.Call.{Call}
use Rattle.st_model.specs.declared.call.Call.TheVariants.{CreatePool, DestroyPool, StopPool, StartPool, RenamePool, AddDataDevs, InitCache, AddCacheDevs, CreateFilesystems, DestroyFilesystems, SnapshotFilesystem, RenameFilesystem, SetSizeLimit, SetFsLimit, SetOverprovisioning, FsWrite, FsRead, Check, PoolReport, PoolReports, EngineStateReport, SetMerge, PowerCycle}
use Rattle.st_model.specs.declared.entry.Env.{Env}
use Rattle.st_model.specs.declared.entry.Env.TheVariants.{Plain, NoMem, FaultRead, FaultWrite, After, Before}
use Rattle.st_model.specs.declared.reply.Given.TheVariants.{Created}
use Rattle.st_model.specs.declared.reply.Reply.{Reply}
use Rattle.st_model.specs.declared.state.EngineState.{EngineState}
use Rattle.st_model.specs.declared.state.PoolState.{PoolState}
use Rattle.st_model.specs.Answer.{accepted, refused}
use Rattle.st_model.specs.Look.{Text}
use Rattle.st_model.specs.steps.CreatePool.{create_answer, create_answers, create_plain, answer_held, is_made}
use Rattle.st_model.specs.Laws.{KeepsValidity}
use Rattle.st_model.specs.Local.{Outcome}
use Rattle.st_model.specs.Step.{is_changed, wrote, outcome}
use Rattle.st_model.specs.Valid.{IsValid}
use Rattle.st_model.proofs.Answers0.{IsNoChange, changed-unanswered, no_change_by, no_change_where}
use Rattle.st_model.proofs.AddCalls.{data-call, init-call, more-call}
use Rattle.st_model.proofs.EachValid.{add-keeps, where-if, rename_pool-keeps, stop-keeps, create_fs-keeps, limit-keeps, report-keeps, engine-keeps, within-keeps, rename_fs-call, size_limit-call, overprovisioning-call, destroy_fs-call, snapshot-call, reports-keeps, destroy-keeps, cycle-keeps, set_merge-call, fs_write-call, fs_read-keeps, check-call}
use Rattle.st_model.proofs.StartKeeps.{start-keeps}
use Rattle.st_model.proofs.ValidMaking.{create-valid, broken-valid}
use Rattle.st_model.proofs.ValidStart.{IsValidAfter, where-valid}

no_change_held : (name : Text) (paths : List Text) (o : Option PoolState) → IsNoChange (answer_held name paths o)
no_change_held name paths None = tt
no_change_held name paths (Some p) = here (is_made name paths p)
  where
    here : (b : Bool) → IsNoChange (cond b (Some (accepted (Created false None))) (Some (refused NameInUse)))
    here true = refl
    here false = refl

create-wrote : (s : EngineState) (name : Text) (paths : List Text) → is_changed (Some (create_plain s name paths)) ≡ true → create_answer s name paths ≡ None
unfolding create_plain create_answer
create-wrote s name paths h =
    changed-unanswered (create_answers s name paths) s _
    (no_change_where _ EmptyDevices, (no_change_by _, (no_change_held name paths _, (no_change_by _, (no_change_by _, (no_change_where _ TooManyDevices, (no_change_where _ TooManyPools, tt))))))) h

create_pool-keeps : (s : EngineState) (name : Text) (paths : List Text) (env : Env) → IsValid s → IsValidAfter (outcome s (CreatePool name paths) env)
create_pool-keeps s name paths Plain v = create-valid s name paths v
create_pool-keeps s name paths NoMem v = v
create_pool-keeps s name paths FaultRead v = where-valid _ (refused DeviceFault, s) v
create_pool-keeps s name paths FaultWrite v = where-if (wrote s (CreatePool name paths)) _ (λ h. broken-valid s name paths (create-wrote s name paths h) v)
create_pool-keeps s name paths After v = tt
create_pool-keeps s name paths (Before bytes) v = tt

outcome-keeps : (s : EngineState) (call : Call) (env : Env) → IsValid s → IsValidAfter (outcome s call env)
outcome-keeps s (CreatePool name devices) env v = create_pool-keeps s name devices env v
outcome-keeps s (StopPool name) env v = stop-keeps s name env v
outcome-keeps s (StartPool id) env v = start-keeps s id env v
outcome-keeps s (RenamePool name new) env v = rename_pool-keeps s name new env v
outcome-keeps s (CreateFilesystems pool specs) env v = create_fs-keeps s pool specs env v
outcome-keeps s (SetFsLimit pool limit) env v = limit-keeps s pool limit env v
outcome-keeps s (PoolReport pool) env v = report-keeps s pool env v
outcome-keeps s EngineStateReport env v = engine-keeps s env v
outcome-keeps s (DestroyPool name) env v = destroy-keeps s name env v
outcome-keeps s (AddDataDevs pool devices) env v = add-keeps _ _ data-call s pool devices env v
outcome-keeps s (InitCache pool devices) env v = add-keeps _ _ init-call s pool devices env v
outcome-keeps s (AddCacheDevs pool devices) env v = add-keeps _ _ more-call s pool devices env v
outcome-keeps s (DestroyFilesystems pool names) env v = within-keeps pool _ _ (destroy_fs-call pool names) s env v
outcome-keeps s (SnapshotFilesystem pool origin new) env v = within-keeps pool _ _ (snapshot-call pool origin new) s env v
outcome-keeps s (RenameFilesystem pool fs new) env v = within-keeps pool _ _ (rename_fs-call pool fs new) s env v
outcome-keeps s (SetSizeLimit pool fs limit) env v = within-keeps pool _ _ (size_limit-call pool fs limit) s env v
outcome-keeps s (SetOverprovisioning pool value) env v = within-keeps pool _ _ (overprovisioning-call pool value) s env v
outcome-keeps s (FsRead pool fs sector sectors) env v = fs_read-keeps s pool fs sector sectors env v
outcome-keeps s (Check pool) env v = within-keeps pool _ _ (check-call pool) s env v
outcome-keeps s (FsWrite pool fs sector payload) env v = within-keeps pool _ _ (fs_write-call pool fs sector payload) s env v
outcome-keeps s (SetMerge pool fs value) env v = within-keeps pool _ _ (set_merge-call pool fs value) s env v
outcome-keeps s (PoolReports pools) env v = reports-keeps s pools env v
outcome-keeps s PowerCycle env v = cycle-keeps s env v

stepped : (o : Outcome) (r : Reply) (s : EngineState) → IsValid s → IsValidAfter o → IsValid (unwrap_or o (r, s)).1
stepped None r s v h = v
stepped (Some after) r s v h = h

pub step-keeps : KeepsValidity
step-keeps s call env v = stepped (outcome s call env) (refused OutOfMemory) s v (outcome-keeps s call env v)
