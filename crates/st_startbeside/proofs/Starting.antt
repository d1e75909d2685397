-- what a start does to one pool alone, it does to it beside others
use Rattle.std.proofs.Common.{◌≡◌, ◌⊎◌, inl, inr, ℕ, List, [], ◌∷◌, Bool, true, false, cond, not, ◌&&◌, ◌||◌, bytes_eq, map, length, Option, Some, None, refl, sym, ap, subst, ◌∙◌}
use Rattle.std.specs.Prelude.{find, ◌==◌}
use Rattle.std.specs.List.{AllByRecursion}
use Rattle.st_units.specs.declared.cause.Cause.TheVariants.{DeviceFault, OutOfMemory}
use Rattle.st_model.specs.declared.call.Call.{Call}
use Rattle.st_model.specs.declared.call.Call.TheVariants.{CreatePool, DestroyPool, StopPool, StartPool, RenamePool, AddDataDevs, InitCache, AddCacheDevs, CreateFilesystems, DestroyFilesystems, SnapshotFilesystem, RenameFilesystem, SetSizeLimit, SetFsLimit, SetOverprovisioning, FsWrite, FsRead, Check, PoolReport, PoolReports, EngineStateReport, SetMerge, PowerCycle}
use Rattle.st_model.specs.declared.call.PoolId.{PoolId}
use Rattle.st_model.specs.declared.call.PoolId.TheVariants.{ByName}
use Rattle.st_model.specs.declared.entry.Env.{Env}
use Rattle.st_model.specs.declared.entry.Env.TheVariants.{Plain, NoMem, FaultRead, FaultWrite, After, Before}
use Rattle.st_model.specs.declared.reply.Reply.{Reply}
use Rattle.st_model.specs.declared.state.EngineState.{EngineState}
use Rattle.st_model.specs.declared.state.PoolMode.{PoolMode}
use Rattle.st_model.specs.declared.state.PoolMode.TheVariants.{Up, Down, Stopped, Unsettled, Incomplete}
use Rattle.st_model.specs.declared.state.PoolState.{PoolState}
use Rattle.st_model.specs.Answer.{refused, first_answer, unless_answered}
use Rattle.st_model.specs.Checks.{cooled, settled}
use Rattle.st_model.specs.Flight.{all_but, started_as, state_before}
use Rattle.st_model.specs.Found.{found_after, found_after_of, found_before, started_so, unsettled_in, vanished, with_own_serial}
use Rattle.st_model.specs.Lifted.{changed}
use Rattle.st_model.specs.Local.{Outcome, where_so}
use Rattle.st_model.specs.Look.{Text, flight_of, gives_name, has_path, holder, holds, is_called, is_up}
use Rattle.st_model.specs.Parts.{paths_taken, pool_at}
use Rattle.st_model.specs.Plain.{plain}
use Rattle.st_model.specs.Step.{can_start, on_flight, outcome, reaches}
use Rattle.st_model.specs.steps.CreatePool.{create_answer}
use Rattle.st_model.specs.steps.DestroyPool.{destroy_answers, destroy_found, destroy_pool}
use Rattle.st_model.specs.steps.RenamePool.{rename_answers, rename_found, rename_pool, renamed}
use Rattle.st_model.specs.steps.StartPool.{pool_meant, start_found, start_in, start_pool, started_reply}
use Rattle.st_model.proofs.Among.{IsPlaced, any_before, holds_own, same_number, self, unheld_before, up}
use Rattle.st_model.proofs.Flights.{find_none}
use Rattle.st_model.proofs.FoundByLaw.{before-valid}
use Rattle.st_model.proofs.Lists.{All-weaker}
use Rattle.st_table.specs.Steps.{StepsPut, with_other}
use Rattle.st_beside.specs.Beside.{DestroyBeside, IsAlone, RenameBeside, beside, put_back}
use Rattle.st_startbeside.specs.Starts.{IsMeantAlone, IsWholeFlight, StartBeside}
use Rattle.st_startbeside.proofs.Before.{IsKnownPool, accepted_before, before_call, has_serial, known_at, on_pool, others_of, own_rows, serial_before}
use Rattle.st_startbeside.proofs.Creating.{AreDevicesOf, created_after, rows_alike, unanswered, unanswered_there}
use Rattle.st_startbeside.proofs.Finding.{IsLeft, LeavesOne, found_beside, started_beside, taken_beside, vanished_beside, where_beside}

or_right : (a b : Bool) → b ≡ true → (a || b) ≡ true
or_right true b h = refl
or_right false b h = h

or_false : (a : Bool) → a ≡ false → (a || false) ≡ false
or_false a h = rw h refl

module _ (put : StepsPut) (destroys : DestroyBeside) (renames : RenameBeside) (id : PoolId) (p : PoolState) (s e : EngineState) (met : IsMeantAlone id p s e) where
  are : IsAlone p s e
  are = met.alone

  known : IsKnownPool s p
  known = known_at s p are.valid are.here

  meant_alone : pool_meant (ByName p.name) e ≡ Some p
  meant_alone = ap (λ (ps : List PoolState). find (is_called p.name) ps) are.alone ∙ ap (λ (t : Bool). cond t (Some p) None) (self p.name)

  -- the pool in its own place changes nothing
  left : put_back p e.pools s ≡ s
  left = ap (λ (ps : List PoolState). put_back p ps s) are.alone ∙ own_place
    where
      own_place : with_other p.name p s ≡ s
      own_place = sym (put.by_serial s p.name p p are.valid are.here) ∙ ap (λ (ps : List PoolState). record s { pools = ps }) (same s.pools known.placed.beside)
        where
          same : (ps : List PoolState) → AllByRecursion (Rattle.st_model.proofs.Among.IsBeside s.devices p) ps → map (λ (x : PoolState). cond (has_serial p x) p x) ps ≡ ps
          same [] h = refl
          same (x ∷ ps) h = λ i. one h.0 i ∷ same ps h.1 i
            where
              one : (x ≡ p) ⊎ Rattle.st_model.proofs.Among.IsOther s.devices p x → cond (has_serial p x) p x ≡ x
              one (inl q) = let t : has_serial p x ≡ true = ap (λ (y : PoolState). y.serial == p.serial) q ∙ same_number p.serial in ap (λ (b : Bool). cond b p x) t ∙ sym q
              one (inr o) = ap (λ (b : Bool). cond b p x) o.serial

  stays : (r : Reply) → Some (r, s) ≡ beside p s (Some (r, e))
  stays r = ap (λ (t : EngineState). Some (r, t)) (sym left)

  -- ---- what it meets

  plain_beside : start_pool id s ≡ beside p s (start_pool (ByName p.name) e)
  unfolding start_pool
  plain_beside = ap (start_found s) met.meant ∙ (by_mode p.mode refl ∙ ap (λ (o : Option PoolState). beside p s (start_found e o)) (sym meant_alone))
    where
      by_mode : (m : PoolMode) → p.mode ≡ m → start_in s p m ≡ beside p s (start_in e p m)
      by_mode Up is = stays _
      by_mode (Down call) is = stays _
      by_mode Stopped is = started_beside put p s e are (started_reply p) (cooled Up p)
      by_mode (Unsettled call) is = refl
      by_mode (Incomplete path) is = stays _

  fails : where_so (reaches (pool_meant id s)) (refused DeviceFault, s) ≡ beside p s (where_so (reaches (pool_meant (ByName p.name) e)) (refused DeviceFault, e))
  fails =
      ap (λ (o : Option PoolState). where_so (reaches o) (refused DeviceFault, s)) met.meant
      ∙ (where_beside put p s e are (can_start p.mode) (refused DeviceFault, s) (refused DeviceFault, e) (stays (refused DeviceFault))
      ∙ ap (λ (o : Option PoolState). beside p s (where_so (reaches o) (refused DeviceFault, e))) (sym meant_alone))

  -- ---- what it finds of a call in flight

  module _ (call : Call) (up_to : p.mode ≡ Unsettled call) where
    abbrev b : EngineState
    b = record s { pools = map (started_as p.serial) s.pools }

    abbrev f : EngineState
    f = record e { pools = map (started_as p.serial) e.pools }

    one_started : f.pools ≡ up p ∷ []
    one_started = ap (map (started_as p.serial)) are.alone ∙ ap (λ (t : Bool). cond t (up p) p ∷ []) (same_number p.serial)

    before_alone : Rattle.st_model.specs.ValidPool.IsHalted p → IsAlone (up p) b f
    before_alone halted = record {
      valid = before-valid s p are.valid known.placed halted (own_rows s p call known up_to) known.good;
      here = any_before s.devices p s.pools known.placed.beside known.placed.among;
      alone = one_started;
    }

    here_before : with_own_serial p.serial b ≡ Some (up p)
    here_before = serial_before s.devices p s.pools known.placed.beside known.placed.among

  after_destroy : (name : Text) → p.mode ≡ Unsettled (DestroyPool name) → found_after s p (DestroyPool name) ≡ beside p s (found_after e p (DestroyPool name))
  unfolding destroy_pool
  after_destroy name up_to = subst (λ (n : Text). found_after s p (DestroyPool n) ≡ beside p s (found_after e p (DestroyPool n))) (sym (on_pool s p (DestroyPool name) known up_to)) (
      ap (found_after_of s p before) (destroys (up p) before before_e Plain both)
      ∙ found_beside put p s e before before_e are both (here_before (DestroyPool name) up_to) (plain before_e (DestroyPool p.name)) one)
    where
      before : EngineState
      before = b (DestroyPool name) up_to

      before_e : EngineState
      before_e = f (DestroyPool name) up_to

      both : IsAlone (up p) before before_e
      both = before_alone (DestroyPool name) up_to (before_call s p (DestroyPool name) known up_to)

      unless_one : (a : Option Reply) (r : Reply) → IsLeft p (unless_answered a before_e (r, record before_e { pools = all_but p.serial before_e.pools })).1.pools
      unless_one None r = inl (ap (all_but p.serial) both.alone ∙ ap (λ (t : Bool). cond (not t) (up p ∷ []) []) (same_number p.serial))
      unless_one (Some x) r = inr (up p, both.alone, refl)

      one : LeavesOne p (plain before_e (DestroyPool p.name))
      one = subst (λ (o : Option PoolState). IsLeft p (destroy_found before_e o).1.pools) (sym (ap (pool_at p.name) both.alone ∙ ap (λ (t : Bool). cond t (Some (up p)) None) (self p.name))) (unless_one (first_answer (destroy_answers (up p))) _)

  after_rename : (name new : Text) → p.mode ≡ Unsettled (RenamePool name new) → found_after s p (RenamePool name new) ≡ beside p s (found_after e p (RenamePool name new))
  unfolding rename_pool
  after_rename name new up_to = subst (λ (n : Text). found_after s p (RenamePool n new) ≡ beside p s (found_after e p (RenamePool n new))) (sym (on_pool s p (RenamePool name new) known up_to)) (
      ap (found_after_of s p before) (renames (up p) before before_e new Plain both free)
      ∙ found_beside put p s e before before_e are both (here_before (RenamePool name new) up_to) (plain before_e (RenamePool p.name new)) one)
    where
      before : EngineState
      before = b (RenamePool name new) up_to

      before_e : EngineState
      before_e = f (RenamePool name new) up_to

      both : IsAlone (up p) before before_e
      both = before_alone (RenamePool name new) up_to (before_call s p (RenamePool name new) known up_to)

      held : holds new p ≡ true
      held = or_right (bytes_eq p.name new) _ (ap (λ (m : PoolMode). gives_name new (flight_of m)) up_to ∙ self new)

      free : (bytes_eq p.name new ≡ true) ⊎ (holder new before.pools ≡ None)
      free = by (bytes_eq p.name new) refl
        where
          by : (t : Bool) → bytes_eq p.name new ≡ t → (bytes_eq p.name new ≡ true) ⊎ (holder new before.pools ≡ None)
          by true k = inl k
          by false k = inr (unheld_before s.devices p new s.pools known.placed.beside held (or_false (bytes_eq p.name new) k))

      unless_one : (a : Option Reply) (r : Reply) → IsLeft p (unless_answered a before_e (r, changed p.name (renamed new) before_e)).1.pools
      unless_one None r = inr (renamed new (up p), ap (map (λ (q : PoolState). cond (is_up q.mode && is_called p.name q) (renamed new q) q)) both.alone ∙ ap (λ (t : Bool). cond t (renamed new (up p)) (up p) ∷ []) (self p.name), refl)
      unless_one (Some x) r = inr (up p, both.alone, refl)

      one : LeavesOne p (plain before_e (RenamePool p.name new))
      one = subst (λ (o : Option PoolState). IsLeft p (rename_found before_e p.name new o).1.pools) (sym (ap (pool_at p.name) both.alone ∙ ap (λ (t : Bool). cond t (Some (up p)) None) (self p.name))) (unless_one (first_answer (rename_answers before_e p.name new (up p))) _)

  after_create : (name : Text) (devices : List Text) → p.mode ≡ Unsettled (CreatePool name devices) → found_after s p (CreatePool name devices) ≡ beside p s (found_after e p (CreatePool name devices))
  after_create name devices up_to =
      created_after s p name devices none
      ∙ (taken_beside put p s e are (Some (Rattle.st_model.specs.steps.CreatePool.new_pool p.serial name (Rattle.st_model.specs.steps.CreatePool.data_rows s.devices (Rattle.st_model.specs.Look.distinct devices))))
      ∙ (ap (λ (rows : List Rattle.st_units.specs.declared.rows.DevRow.DevRow). beside p s (Some (started_so e p (Rattle.st_model.specs.steps.CreatePool.new_pool p.serial name rows)))) (sym (rows_alike before before_e name devices none devs))
      ∙ ap (beside p s) (sym (created_after e p name devices none_e))))
    where
      before : EngineState
      before = state_before s p (CreatePool name devices)

      before_e : EngineState
      before_e = state_before e p (CreatePool name devices)

      begun : Rattle.st_model.specs.ValidPool.IsBegun p name devices
      begun = before_call s p (CreatePool name devices) known up_to

      unheld : holder name before.pools ≡ None
      unheld = find_none (holds name) before.pools (All-weaker _ _ before.pools (λ q o. o.names name (subst (λ (n : Text). holds n p ≡ true) begun.named (holds_own p))) (others_of s.devices p s.pools known.placed.beside))

      none : create_answer before name devices ≡ None
      none = unanswered before name devices unheld (accepted_before s p (CreatePool name devices) known up_to)

      devs : AreDevicesOf devices before before_e
      devs = record {
        none = ap (all_but p.serial) are.alone ∙ ap (λ (t : Bool). cond (not t) (p ∷ []) []) (same_number p.serial);
        next = refl;
        there = λ path among. met.there path (ap (λ (m : PoolMode). has_path path (paths_taken (flight_of m))) up_to ∙ among);
        sectors = λ path among. met.sectors path (ap (λ (m : PoolMode). has_path path (paths_taken (flight_of m))) up_to ∙ among);
      }

      none_e : create_answer before_e name devices ≡ None
      none_e = unanswered_there before before_e name devices none devs begun.distinct

  whole : (call : Call) → p.mode ≡ Unsettled call → IsWholeFlight (Some call)
  whole call up_to = subst (λ (m : PoolMode). IsWholeFlight (flight_of m)) up_to met.flight

  after_call : (call : Call) → p.mode ≡ Unsettled call → IsWholeFlight (Some call) → found_after s p call ≡ beside p s (found_after e p call)
  after_call (CreatePool name devices) up_to w = after_create name devices up_to
  after_call (DestroyPool name) up_to w = after_destroy name up_to
  after_call (RenamePool name new) up_to w = after_rename name new up_to
  after_call (StopPool name) up_to w = absurd w
  after_call (StartPool other) up_to w = absurd w
  after_call (AddDataDevs pool devices) up_to w = absurd w
  after_call (InitCache pool devices) up_to w = absurd w
  after_call (AddCacheDevs pool devices) up_to w = absurd w
  after_call (CreateFilesystems pool specs) up_to w = absurd w
  after_call (DestroyFilesystems pool names) up_to w = absurd w
  after_call (SnapshotFilesystem pool origin name) up_to w = absurd w
  after_call (RenameFilesystem pool name new) up_to w = absurd w
  after_call (SetSizeLimit pool name limit) up_to w = absurd w
  after_call (SetFsLimit pool limit) up_to w = absurd w
  after_call (SetOverprovisioning pool value) up_to w = absurd w
  after_call (FsWrite pool name sector payload) up_to w = absurd w
  after_call (FsRead pool name sector sectors) up_to w = absurd w
  after_call (Check pool) up_to w = absurd w
  after_call (PoolReport pool) up_to w = absurd w
  after_call (PoolReports pools) up_to w = absurd w
  after_call EngineStateReport up_to w = absurd w
  after_call (SetMerge pool name value) up_to w = absurd w
  after_call PowerCycle up_to w = absurd w

  before_start : (bytes : List ℕ) → where_so (length bytes == 0) (started_so s p p) ≡ beside p s (where_so (length bytes == 0) (started_so e p p))
  before_start bytes = where_beside put p s e are (length bytes == 0) (started_so s p p) (started_so e p p) (started_beside put p s e are (started_reply p) (settled p))

  before_of : (bytes : List ℕ) (call : Call) → IsWholeFlight (Some call) → found_before s p call bytes ≡ beside p s (found_before e p call bytes)
  before_of bytes (CreatePool name devices) w = where_beside put p s e are (length bytes == 0) (vanished s p) (vanished e p) (vanished_beside put p s e are)
  before_of bytes (DestroyPool name) w = before_start bytes
  before_of bytes (RenamePool name new) w = before_start bytes
  before_of bytes (StopPool name) w = absurd w
  before_of bytes (StartPool other) w = absurd w
  before_of bytes (AddDataDevs pool devices) w = absurd w
  before_of bytes (InitCache pool devices) w = absurd w
  before_of bytes (AddCacheDevs pool devices) w = absurd w
  before_of bytes (CreateFilesystems pool specs) w = absurd w
  before_of bytes (DestroyFilesystems pool names) w = absurd w
  before_of bytes (SnapshotFilesystem pool origin name) w = absurd w
  before_of bytes (RenameFilesystem pool name new) w = absurd w
  before_of bytes (SetSizeLimit pool name limit) w = absurd w
  before_of bytes (SetFsLimit pool limit) w = absurd w
  before_of bytes (SetOverprovisioning pool value) w = absurd w
  before_of bytes (FsWrite pool name sector payload) w = absurd w
  before_of bytes (FsRead pool name sector sectors) w = absurd w
  before_of bytes (Check pool) w = absurd w
  before_of bytes (PoolReport pool) w = absurd w
  before_of bytes (PoolReports pools) w = absurd w
  before_of bytes EngineStateReport w = absurd w
  before_of bytes (SetMerge pool name value) w = absurd w
  before_of bytes PowerCycle w = absurd w

  found_in : (g h : PoolState → Call → Outcome) → ((call : Call) → p.mode ≡ Unsettled call → IsWholeFlight (Some call) → g p call ≡ beside p s (h p call))
      → Rattle.st_model.specs.Step.found g (pool_meant id s) ≡ beside p s (Rattle.st_model.specs.Step.found h (pool_meant (ByName p.name) e))
  found_in g h each =
      ap (Rattle.st_model.specs.Step.found g) met.meant
      ∙ (by_mode p.mode refl ∙ ap (λ (o : Option PoolState). beside p s (Rattle.st_model.specs.Step.found h o)) (sym meant_alone))
    where
      by_mode : (m : PoolMode) → p.mode ≡ m → on_flight p g (unsettled_in m) ≡ beside p s (on_flight p h (unsettled_in m))
      by_mode Up is = refl
      by_mode (Down call) is = refl
      by_mode Stopped is = refl
      by_mode (Unsettled call) is = each call is (whole call is)
      by_mode (Incomplete path) is = refl

  start_so : (env : Env) → outcome s (StartPool id) env ≡ beside p s (outcome e (StartPool (ByName p.name)) env)
  start_so Plain = plain_beside
  start_so NoMem = stays (refused OutOfMemory)
  start_so FaultRead = fails
  start_so FaultWrite = fails
  start_so After = found_in (found_after s) (found_after e) after_call
  start_so (Before bytes) = found_in (λ q flight. found_before s q flight bytes) (λ q flight. found_before e q flight bytes) (λ call is w. before_of bytes call w)

pub start_beside : StepsPut → DestroyBeside → RenameBeside → StartBeside
start_beside put destroys renames id p s e env met = start_so put destroys renames id p s e met env
