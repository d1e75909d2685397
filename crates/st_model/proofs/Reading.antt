-- a call that wants to read changes no state
use Rattle.std.proofs.Common.{◌≡◌, List, [], ◌∷◌, Bool, true, false, cond, map, None, unwrap_or, refl, ap}
use Rattle.st_units.specs.declared.cause.Cause.TheVariants.{OutOfMemory}
use Rattle.st_model.specs.declared.call.Call.{Call}
use Rattle.st_model.specs.declared.call.Call.TheVariants.{CreatePool, DestroyPool, StopPool, StartPool, RenamePool, AddDataDevs, InitCache, AddCacheDevs, CreateFilesystems, DestroyFilesystems, SnapshotFilesystem, RenameFilesystem, SetSizeLimit, SetFsLimit, SetOverprovisioning, FsWrite, FsRead, Check, PoolReport, PoolReports, EngineStateReport, SetMerge, PowerCycle}
use Rattle.st_model.specs.declared.entry.Env.{Env}
use Rattle.st_model.specs.declared.entry.Env.TheVariants.{Plain, NoMem, FaultRead, FaultWrite, After, Before}
use Rattle.st_model.specs.declared.reply.Reply.{Reply}
use Rattle.st_model.specs.declared.state.EngineState.{EngineState}
use Rattle.st_model.specs.declared.state.PoolState.{PoolState}
use Rattle.st_model.specs.Answer.{refused}
use Rattle.st_model.specs.Flight.{in_flight}
use Rattle.st_model.specs.Laws.{ReadsKeep}
use Rattle.st_model.specs.Lifted.{on_pool, one_changed, runs_as}
use Rattle.st_model.specs.Local.{where_so}
use Rattle.st_model.specs.Look.{Text}
use Rattle.st_model.specs.Plain.{plain}
use Rattle.st_model.specs.Step.{usual, is_ok, touches}
use Rattle.st_model.specs.steps.EngineStateReport.{report_plain}
use Rattle.st_model.specs.steps.PoolReport.{pool_report}
use Rattle.st_model.specs.steps.PoolReports.{pool_reports}
use Rattle.st_model.specs.Sound.{are_few}

kept_where : (b : Bool) (r q : Reply) (s : EngineState) → (unwrap_or (where_so b (r, s)) (q, s)).1 ≡ s
kept_where true r q s = refl
kept_where false r q s = refl

-- a call that never writes, and keeps the state where it meets nothing
usual_keeps : (s : EngineState) (call : Call) (env : Env) (r : Reply) → in_flight s call ≡ None → (unwrap_or (plain s call) (r, s)).1 ≡ s → (unwrap_or (usual s call env) (r, s)).1 ≡ s
usual_keeps s call Plain r none h = h
usual_keeps s call NoMem r none h = refl
usual_keeps s call FaultRead r none h = kept_where (Rattle.std.specs.Prelude.◌&&◌ (is_ok (plain s call)) (touches s call)) _ r s
usual_keeps s call FaultWrite r none h = rw none refl
usual_keeps s call After r none h = refl
usual_keeps s call (Before bytes) r none h = refl

same_pools : (name : Text) (ps : List PoolState) → map (one_changed name (λ p. p)) ps ≡ ps
same_pools name [] = refl
same_pools name (p ∷ ps) = rw (same_pools name ps) (here (runs_as name p))
  where
    here : (b : Bool) → (cond b p p ∷ ps) ≡ p ∷ ps
    here true = refl
    here false = refl

pool_kept : (s : EngineState) (pool : Text) → (on_pool pool pool_report s).1 ≡ s
unfolding on_pool pool_report
pool_kept s pool = ap (λ (l : List PoolState). record s { pools = l }) (same_pools pool s.pools)

reports_kept : (s : EngineState) (pools : List Text) (b : Bool) → (unwrap_or (where_so b (pool_reports pools s)) (refused OutOfMemory, s)).1 ≡ s
unfolding pool_reports
reports_kept s pools true = refl
reports_kept s pools false = refl

engine_kept : (s : EngineState) → (report_plain s).1 ≡ s
unfolding report_plain
engine_kept s = refl

pub reads-keep : ReadsKeep
reads-keep s (PoolReport pool) env h = usual_keeps s (PoolReport pool) env (refused OutOfMemory) refl (pool_kept s pool)
reads-keep s (PoolReports pools) env h = usual_keeps s (PoolReports pools) env (refused OutOfMemory) refl (reports_kept s pools (are_few pools))
reads-keep s EngineStateReport env h = usual_keeps s EngineStateReport env (refused OutOfMemory) refl (engine_kept s)
reads-keep s (CreatePool p devices) env h = absurd cc
reads-keep s (DestroyPool p) env h = absurd cc
reads-keep s (StopPool p) env h = absurd cc
reads-keep s (StartPool id) env h = absurd cc
reads-keep s (RenamePool p new) env h = absurd cc
reads-keep s (AddDataDevs p devices) env h = absurd cc
reads-keep s (InitCache p devices) env h = absurd cc
reads-keep s (AddCacheDevs p devices) env h = absurd cc
reads-keep s (CreateFilesystems p filesystems) env h = absurd cc
reads-keep s (DestroyFilesystems p names) env h = absurd cc
reads-keep s (SnapshotFilesystem p origin new) env h = absurd cc
reads-keep s (RenameFilesystem p fs new) env h = absurd cc
reads-keep s (SetSizeLimit p fs limit) env h = absurd cc
reads-keep s (SetFsLimit p limit) env h = absurd cc
reads-keep s (SetOverprovisioning p value) env h = absurd cc
reads-keep s (FsWrite p fs sector payload) env h = absurd cc
reads-keep s (FsRead p fs sector sectors) env h = absurd cc
reads-keep s (Check p) env h = absurd cc
reads-keep s (SetMerge p fs value) env h = absurd cc
reads-keep s PowerCycle env h = absurd cc
