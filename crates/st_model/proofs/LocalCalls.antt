-- each call within one pool
use Rattle.std.proofs.Common.{◌≡◌, ℕ, List, [], ◌∷◌, Bool, ◌&&◌, Option, Some, None, refl, ap, ◌∙◌, subst}
use Rattle.st_units.specs.declared.rows.FsSpec.{FsSpec}
use Rattle.st_wants.specs.Names.{is_named, names_of}
use Rattle.st_model.specs.declared.call.Call.{Call}
use Rattle.st_model.specs.declared.call.Call.TheVariants.{CreatePool, DestroyPool, StopPool, StartPool, RenamePool, AddDataDevs, InitCache, AddCacheDevs, CreateFilesystems, DestroyFilesystems, SnapshotFilesystem, RenameFilesystem, SetSizeLimit, SetFsLimit, SetOverprovisioning, FsWrite, FsRead, Check, PoolReport, PoolReports, EngineStateReport, SetMerge, PowerCycle}
use Rattle.st_model.specs.declared.entry.Env.{Env}
use Rattle.st_model.specs.Answer.{first_answer}
use Rattle.st_model.specs.Checks.{fs_at, on_fs}
use Rattle.st_model.specs.Look.{Text}
use Rattle.st_model.specs.Laws.{Locality}
use Rattle.st_model.specs.Lifted.{IsWithin}
use Rattle.st_model.specs.Plain.{plain}
use Rattle.st_model.specs.Local.{IsLocal}
use Rattle.st_model.specs.Parts.{own}
use Rattle.st_model.specs.Step.{is_ok, usual}
use Rattle.st_model.specs.Content.{touches_mapped}
use Rattle.st_model.specs.InPlace.{sectors_in}
use Rattle.st_model.specs.steps.Check.{check_answers, check_pool}
use Rattle.st_model.specs.steps.FsRead.{fs_read, misses, read_answers, read_fs}
use Rattle.st_model.specs.steps.FsWrite.{fs_write, write_answers, write_fs}
use Rattle.st_model.specs.declared.call.Payload.{Payload}
use Rattle.st_model.specs.steps.CreateFilesystems.{create_filesystems, to_create, fs_answers}
use Rattle.st_model.specs.steps.PoolReport.{pool_report}
use Rattle.st_model.specs.steps.SetFsLimit.{set_fs_limit, limit_answers}
use Rattle.st_model.proofs.Inner.{IsInner, only, fs_within, same_changed, same_ok, unless_within, usual-local, by_doing}
use Rattle.st_model.proofs.Lifting.{lifted-local, named_self}
use Rattle.st_model.proofs.Reports.{reports-local}
use Rattle.st_model.specs.steps.DestroyFilesystems.{destroy_filesystems, destroy_fs_answers, to_destroy}
use Rattle.st_model.specs.steps.RenameFilesystem.{rename_filesystem, rename_fs, rename_fs_answers}
use Rattle.st_model.specs.steps.SetMerge.{mark_fs, merge_answers, set_merge}
use Rattle.st_model.specs.steps.SetOverprovisioning.{overprovisioning_answers, set_overprovisioning}
use Rattle.st_model.specs.steps.SetSizeLimit.{limit_fs, set_size_limit, size_limit_answers}
use Rattle.st_model.specs.steps.SnapshotFilesystem.{named_answer, snapshot_answers, snapshot_filesystem, take_snapshot}

pub create-within : (specs : List FsSpec) → IsWithin (create_filesystems specs)
unfolding create_filesystems
create-within specs p = unless_within (first_answer (fs_answers (to_create specs p) p)) p _ (record { serial = refl; name = refl; mode = refl; devices = refl })

pub limit-within : (limit : ℕ) → IsWithin (set_fs_limit limit)
unfolding set_fs_limit
limit-within limit p = unless_within (first_answer (limit_answers limit p)) p _ (record { serial = refl; name = refl; mode = refl; devices = refl })

pub report-within : IsWithin pool_report
unfolding pool_report
report-within p = record { serial = refl; name = refl; mode = refl; devices = refl }

pub rename_fs-within : (name new : Text) → IsWithin (rename_filesystem name new)
unfolding rename_filesystem
rename_fs-within name new = fs_within (rename_fs new) (λ fs p. unless_within (first_answer (rename_fs_answers new fs p)) p _ (record { serial = refl; name = refl; mode = refl; devices = refl })) name

pub size_limit-within : (name : Text) (limit : Option ℕ) → IsWithin (set_size_limit name limit)
unfolding set_size_limit
size_limit-within name limit = fs_within (limit_fs limit) (λ fs p. unless_within (first_answer (size_limit_answers limit fs p)) p _ (record { serial = refl; name = refl; mode = refl; devices = refl })) name

pub set_merge-within : (name : Text) (value : Bool) → IsWithin (set_merge name value)
unfolding set_merge
set_merge-within name value = fs_within (mark_fs value) (λ fs p. unless_within (first_answer (merge_answers value fs p)) p _ (record { serial = refl; name = refl; mode = refl; devices = refl })) name

pub overprovisioning-within : (value : Bool) → IsWithin (set_overprovisioning value)
unfolding set_overprovisioning
overprovisioning-within value p = unless_within (first_answer (overprovisioning_answers value p)) p _ (record { serial = refl; name = refl; mode = refl; devices = refl })

pub destroy_fs-within : (names : List Text) → IsWithin (destroy_filesystems names)
unfolding destroy_filesystems
destroy_fs-within names p = unless_within (first_answer (destroy_fs_answers (to_destroy names p) p)) p _ (record { serial = refl; name = refl; mode = refl; devices = refl })

pub snapshot-within : (origin name : Text) → IsWithin (snapshot_filesystem origin name)
unfolding snapshot_filesystem
snapshot-within origin name p =
    unless_within (named_answer (fs_at origin p.filesystems) (fs_at name p.filesystems)) p (on_fs origin (take_snapshot name) p)
    (fs_within (take_snapshot name) (λ fs p. unless_within (first_answer (snapshot_answers name fs p)) p _ (record { serial = refl; name = refl; mode = refl; devices = refl })) origin p)

pub fs_write-within : (name : Text) (sector : ℕ) (payload : Payload) → IsWithin (fs_write name sector payload)
unfolding fs_write
fs_write-within name sector payload =
    fs_within (write_fs sector payload) (λ fs p. unless_within (first_answer (write_answers fs sector (sectors_in payload) p)) p _ (record { serial = refl; name = refl; mode = refl; devices = refl })) name

pub fs_read-within : (name : Text) (sector n : ℕ) → IsWithin (fs_read name sector n)
unfolding fs_read
fs_read-within name sector n = fs_within (read_fs sector n) (λ fs p. unless_within (first_answer (read_answers fs sector n)) p _ (record { serial = refl; name = refl; mode = refl; devices = refl })) name

pub check-within : IsWithin check_pool
unfolding check_pool
check-within p = unless_within (first_answer (check_answers p)) p _ (record { serial = refl; name = refl; mode = refl; devices = refl })

create-inner : (pool : Text) (specs : List FsSpec) → IsInner (only pool) (CreateFilesystems pool specs)
create-inner pool specs = by_doing pool _ (create_filesystems specs) _ (λ s. refl) (create-within specs) (λ s. refl) (named_self pool, (refl, refl)) (λ s t a. refl) (λ s. refl)

limit-inner : (pool : Text) (limit : ℕ) → IsInner (only pool) (SetFsLimit pool limit)
limit-inner pool limit = by_doing pool _ (set_fs_limit limit) _ (λ s. refl) (limit-within limit) (λ s. refl) (named_self pool, (refl, refl)) (λ s t a. refl) (λ s. refl)

report-inner : (pool : Text) → IsInner (only pool) (PoolReport pool)
report-inner pool = by_doing pool _ pool_report _ (λ s. refl) report-within (λ s. refl) tt (λ s t a. refl) (λ s. refl)

-- a read writes where it misses, which its pool alone tells
fs_read-inner : (pool fs : Text) (sector sectors : ℕ) → IsInner (only pool) (FsRead pool fs sector sectors)
fs_read-inner pool fs sector sectors =
    let call : Call = FsRead pool fs sector sectors in
    let local = lifted-local pool (fs_read fs sector sectors) (fs_read-within fs sector sectors) in
    record {
      plain = local;
      touches = λ s t a. ap (touches_mapped fs sector sectors) (a.pools pool (named_self pool));
      wrote = λ s t a.
          ap (λ b. b && misses fs sector sectors (own pool s)) (same_ok (only pool) (plain s call) (plain t call) (local.alike s t a))
          ∙ ap (λ o. is_ok (plain t call) && misses fs sector sectors o) (a.pools pool (named_self pool));
      flight = Some (pool, call);
      in_flight = λ s. refl;
      quiet = (named_self pool, (refl, refl));
    }

-- so for the names that the want has
inner_at : (pool : Text) (names : List Text) (call : Call) (env : Env) → pool ∷ [] ≡ names → IsInner (only pool) call → IsLocal (is_named names) (λ s. usual s call env)
inner_at pool names call env e h = subst (λ (ns : List Text). IsLocal (is_named ns) (λ s. usual s call env)) e (usual-local (only pool) call env h)

reports-inner : (pools : List Text) → IsInner (is_named (names_of pools)) (PoolReports pools)
reports-inner pools =
    let local = reports-local pools in
    record {
      plain = local;
      touches = λ s t a. refl;
      wrote = λ s t a. same_changed (is_named (names_of pools)) _ _ (local.alike s t a);
      flight = None;
      in_flight = λ s. refl;
      quiet = tt;
    }

pub outcome-local : Locality
outcome-local (CreateFilesystems pool specs) env names mode h = inner_at pool names _ env (cc) (create-inner pool specs)
outcome-local (SetFsLimit pool limit) env names mode h = inner_at pool names _ env (cc) (limit-inner pool limit)
outcome-local (PoolReport pool) env names mode h = inner_at pool names _ env (cc) (report-inner pool)
outcome-local (RenameFilesystem pool fs new) env names mode h = inner_at pool names _ env (cc) (by_doing pool (RenameFilesystem pool fs new) (rename_filesystem fs new) (Some (pool, RenameFilesystem pool fs new)) (λ s. refl) (rename_fs-within fs new) (λ s. refl) (named_self pool, (refl, refl)) (λ s t a. refl) (λ s. refl))
outcome-local (SetSizeLimit pool fs limit) env names mode h = inner_at pool names _ env (cc) (by_doing pool (SetSizeLimit pool fs limit) (set_size_limit fs limit) (Some (pool, SetSizeLimit pool fs limit)) (λ s. refl) (size_limit-within fs limit) (λ s. refl) (named_self pool, (refl, refl)) (λ s t a. refl) (λ s. refl))
outcome-local (SetOverprovisioning pool value) env names mode h = inner_at pool names _ env (cc) (by_doing pool (SetOverprovisioning pool value) (set_overprovisioning value) (Some (pool, SetOverprovisioning pool value)) (λ s. refl) (overprovisioning-within value) (λ s. refl) (named_self pool, (refl, refl)) (λ s t a. refl) (λ s. refl))
outcome-local (PoolReports pools) env names mode h = subst (λ (ns : List Text). IsLocal (is_named ns) (λ s. usual s (PoolReports pools) env)) (cc) (usual-local (is_named (names_of pools)) (PoolReports pools) env (reports-inner pools))
outcome-local (CreatePool p devices) env names mode h = absurd cc
outcome-local (DestroyPool p) env names mode h = absurd cc
outcome-local (StopPool p) env names mode h = absurd cc
outcome-local (StartPool id) env names mode h = absurd cc
outcome-local (RenamePool p new) env names mode h = absurd cc
outcome-local (AddDataDevs p devices) env names mode h = absurd cc
outcome-local (InitCache p devices) env names mode h = absurd cc
outcome-local (AddCacheDevs p devices) env names mode h = absurd cc
outcome-local EngineStateReport env names mode h = absurd cc
outcome-local PowerCycle env names mode h = absurd cc
outcome-local (DestroyFilesystems pool fs) env names mode h = inner_at pool names _ env (cc) (by_doing pool (DestroyFilesystems pool fs) (destroy_filesystems fs) (Some (pool, DestroyFilesystems pool fs)) (λ s. refl) (destroy_fs-within fs) (λ s. refl) (named_self pool, (refl, refl)) (λ s t a. refl) (λ s. refl))
outcome-local (SnapshotFilesystem pool origin new) env names mode h = inner_at pool names _ env (cc) (by_doing pool (SnapshotFilesystem pool origin new) (snapshot_filesystem origin new) (Some (pool, SnapshotFilesystem pool origin new)) (λ s. refl) (snapshot-within origin new) (λ s. refl) (named_self pool, (refl, refl)) (λ s t a. refl) (λ s. refl))
outcome-local (FsWrite pool fs sector payload) env names mode h = inner_at pool names _ env (cc) (by_doing pool (FsWrite pool fs sector payload) (fs_write fs sector payload) (Some (pool, FsWrite pool fs sector payload)) (λ s. refl) (fs_write-within fs sector payload) (λ s. refl) (named_self pool, (refl, refl)) (λ s t a. ap (touches_mapped fs sector (sectors_in payload)) (a.pools pool (named_self pool))) (λ s. refl))
outcome-local (FsRead pool fs sector sectors) env names mode h = inner_at pool names _ env (cc) (fs_read-inner pool fs sector sectors)
outcome-local (Check pool) env names mode h = inner_at pool names _ env (cc) (by_doing pool (Check pool) check_pool (Some (pool, Check pool)) (λ s. refl) check-within (λ s. refl) (named_self pool, (refl, refl)) (λ s t a. refl) (λ s. refl))
outcome-local (SetMerge pool fs value) env names mode h = inner_at pool names _ env (cc) (by_doing pool (SetMerge pool fs value) (set_merge fs value) (Some (pool, SetMerge pool fs value)) (λ s. refl) (set_merge-within fs value) (λ s. refl) (named_self pool, (refl, refl)) (λ s t a. refl) (λ s. refl))
