-- The pool that is to be started, beside the others and alone.
use Rattle.std.proofs.Common.{◌≡◌, ℕ, ◌||◌, Bool, true, false, cond, bytes_eq, map, unwrap_or, List, [], ◌∷◌, Option, Some, None, is_some, refl, sym, ap, subst, ◌∙◌}
use Rattle.std.specs.Prelude.{option_map, slice_get}
use Rattle.st_units.specs.declared.cause.Cause.TheVariants.{DeviceFault}
use Rattle.st_units.specs.declared.rows.DevRow.{DevRow}
use Rattle.st_model.specs.declared.call.Call.{Call}
use Rattle.st_model.specs.declared.call.Call.TheVariants.{CreatePool, DestroyPool, StopPool, StartPool, RenamePool, AddDataDevs, InitCache, AddCacheDevs, CreateFilesystems, DestroyFilesystems, SnapshotFilesystem, RenameFilesystem, SetSizeLimit, SetFsLimit, SetOverprovisioning, FsWrite, FsRead, Check, PoolReport, PoolReports, EngineStateReport, SetMerge, PowerCycle}
use Rattle.st_model.specs.declared.call.PoolId.{PoolId}
use Rattle.st_model.specs.declared.call.PoolId.TheVariants.{ByName}
use Rattle.st_model.specs.declared.entry.Env.{Env}
use Rattle.st_model.specs.declared.entry.Env.TheVariants.{Plain, NoMem, FaultRead, FaultWrite, After, Before}
use Rattle.st_model.specs.declared.reply.Reply.{Reply}
use Rattle.st_model.specs.declared.state.EngineState.{EngineState}
use Rattle.st_model.specs.declared.state.PoolMode.{PoolMode}
use Rattle.st_model.specs.declared.state.PoolMode.TheVariants.{Up, Down, Stopped, Unsettled, Incomplete}
use Rattle.st_model.specs.declared.state.PoolState.{PoolState}
use Rattle.st_model.specs.Answer.{refused}
use Rattle.st_model.specs.Checks.{halted}
use Rattle.st_model.specs.Local.{Outcome, where_so}
use Rattle.st_model.specs.Look.{Text, flight_of, has_path, is_started, row_of, takes_path, uses}
use Rattle.st_model.specs.Parts.{paths_taken, pool_at, table_of}
use Rattle.st_model.specs.Step.{can_start, outcome, reaches}
use Rattle.st_model.specs.steps.StartPool.{pool_meant}
use Rattle.st_rack.specs.Device.{Path, Image, State, held}
use Rattle.st_rack.specs.Calls.{Devices, Has, sectors_of}
use Rattle.st_image.specs.Kept.{as_pair, in_use, own_devices}
use Rattle.st_image.specs.Survivors.{row_of as row_for}
use Rattle.st_books.specs.declared.books.Books.{Books}
use Rattle.st_cells.specs.Cells.{others}
use Rattle.st_cells.proofs.Lookups.{keep, none_out, own_is}
use Rattle.st_pool.specs.declared.flight.Flight.{Flight}
use Rattle.st_pool.specs.Answered.{is_device_fault}
use Rattle.st_pool.specs.Flights.{Flies, IsPoolCall}
use Rattle.st_pool.specs.Halts.{Halts, HaltedView, IsAs}
use Rattle.st_pool.specs.View.{PoolView, engine_of, now, pool_with}
use Rattle.st_board.specs.Holds.{stopped_at}
use Rattle.st_board.specs.Ran.{AreAll}
use Rattle.st_board.specs.View.{BoardView, pools_of}
use Rattle.st_board.proofs.Serials.{found_halted, only_one, stopped_in}
use Rattle.st_beside.specs.Beside.{beside}
use Rattle.st_startbeside.specs.Starts.{IsMeantAlone, IsWholeFlight, StartBeside}
use Rattle.st_meant.proofs.Meaning.{meant_here}
use Rattle.st_leaving.proofs.Freed.{among, uses_named}
use Rattle.st_waking.specs.declared.ready.Ready.{Ready}
use Rattle.st_waking.specs.Taken.{IsSet}
use Rattle.st_waking.proofs.Sizing.{all_sized}

or_second : (a b : Bool) → b ≡ true → (a || b) ≡ true
or_second true b e = refl
or_second false b e = e

-- a pool that can be started isn't
pub not_started : (p : PoolState) → can_start p.mode ≡ true → is_started p.mode ≡ false
not_started p can = by p.mode can
  where
    by : (m : PoolMode) → can_start m ≡ true → is_started m ≡ false
    by Up e = absurd cc
    by (Down call) e = absurd cc
    by Stopped e = refl
    by (Unsettled call) e = refl
    by (Incomplete path) e = refl

-- the rows of a rack's devices have their sectors
rack_row : (ds : Devices) (p : Path) (n : ℕ) → Has ds p n → option_map (λ (row : DevRow). row.sectors) (row_of p (map row_for ds)) ≡ Some n
rack_row [] p n has = absurd cc
rack_row (d ∷ ds) p n has = by (bytes_eq d.0 p) has (rack_row ds p n)
  where
    by : (b : Bool) → cond b (Some d.1) (sectors_of ds p) ≡ Some n → (Has ds p n → option_map (λ (row : DevRow). row.sectors) (row_of p (map row_for ds)) ≡ Some n)
        → option_map (λ (row : DevRow). row.sectors) (cond b (Some (row_for d)) (row_of p (map row_for ds))) ≡ Some n
    by true k ih = k
    by false k ih = ih k

there_is : (o : Option DevRow) (n : ℕ) → option_map (λ (row : DevRow). row.sectors) o ≡ Some n → is_some o ≡ true
there_is None n k = absurd cc
there_is (Some row) n k = refl

taken_path : (path : Text) (flight : Option Call) → has_path path (paths_taken flight) ≡ takes_path path flight
taken_path path None = refl
taken_path path (Some call) = refl

-- the calls that a pool may be down with
whole_call : (b : Books) (list : List Path) (call : Call) → IsPoolCall b list call → IsWholeFlight (Some call)
whole_call b list (CreatePool name devices) h = tt
whole_call b list (DestroyPool name) h = tt
whole_call b list (RenamePool name new) h = tt
whole_call b list (StopPool name) h = absurd h
whole_call b list (StartPool other) h = absurd h
whole_call b list (AddDataDevs pool devices) h = absurd h
whole_call b list (InitCache pool devices) h = absurd h
whole_call b list (AddCacheDevs pool devices) h = absurd h
whole_call b list (CreateFilesystems pool specs) h = absurd h
whole_call b list (DestroyFilesystems pool names) h = absurd h
whole_call b list (SnapshotFilesystem pool origin name) h = absurd h
whole_call b list (RenameFilesystem pool name new) h = absurd h
whole_call b list (SetSizeLimit pool name limit) h = absurd h
whole_call b list (SetFsLimit pool limit) h = absurd h
whole_call b list (SetOverprovisioning pool value) h = absurd h
whole_call b list (FsWrite pool name sector payload) h = absurd h
whole_call b list (FsRead pool name sector sectors) h = absurd h
whole_call b list (Check pool) h = absurd h
whole_call b list (PoolReport pool) h = absurd h
whole_call b list (PoolReports pools) h = absurd h
whole_call b list EngineStateReport h = absurd h
whole_call b list (SetMerge pool name value) h = absurd h
whole_call b list PowerCycle h = absurd h

whole_flies : (b : Books) (list : List Path) (m : Image) (flight : Option Call) → Flies b list flight → IsWholeFlight (flight_of (halted (pool_with b flight m)).mode)
whole_flies b list m None h = tt
whole_flies b list m (Some call) h = whole_call b list call h

abbrev code_in : Outcome → ℕ
code_in None = 0
code_in (Some a) = a.0.code

-- an answer that isn't DeviceFault met no fault
pub calm : (i : PoolId) (e f : EngineState) (r : Reply) (env : Env) → outcome e (StartPool i) env ≡ Some (r, f) → (r.code ≡ 27 → ⊥) → is_device_fault env ≡ false
calm i e f r Plain h no_fault = refl
calm i e f r NoMem h no_fault = refl
calm i e f r FaultRead h no_fault = absurd (fails (reaches (pool_meant i e)) h)
  where
    fails : (b : Bool) → where_so b (refused DeviceFault, e) ≡ Some (r, f) → ⊥
    fails true k = no_fault (sym (ap code_in k))
    fails false k = cc
calm i e f r FaultWrite h no_fault = absurd (fails (reaches (pool_meant i e)) h)
  where
    fails : (b : Bool) → where_so b (refused DeviceFault, e) ≡ Some (r, f) → ⊥
    fails true k = no_fault (sym (ap code_in k))
    fails false k = cc
calm i e f r After h no_fault = refl
calm i e f r (Before bytes) h no_fault = refl

module _ {D : Type 0} (devs : D → Devices) (moment : D → ℕ) (state_at : D → ℕ → State) (faults : D → ℕ) (s : EngineState) (id : PoolId) (cells : List (PoolView D)) (was : BoardView D)
    (all : AreAll devs moment state_at faults s cells was) (r : Ready) (p : PoolState) (h : HaltedView D) (set : IsSet devs s id was.halted r p h) where
  pub here : pool_at p.name s.pools ≡ Some p
  here = meant_here s id p all.valid set.meant

  pub down : is_started p.mode ≡ false
  down = not_started p set.can

  pub stopped_here : stopped_at p.serial (table_of s).stopped ≡ Some p
  stopped_here = found_halted s.devices p.serial s.pools all.valid.apart ∙ (ap stopped_in (only_one s.devices p.name p s.pools all.valid.apart here).1 ∙ ap (λ (b : Bool). cond b None (Some p)) down)

  -- the halted pool that was taken out stands for it
  pub halts_it : (q : PoolState) × (stopped_at h.serial was.state.stopped ≡ Some q) × Halts devs moment state_at q h → Halts devs moment state_at p h
  halts_it one =
      let there : stopped_at h.serial was.state.stopped ≡ Some p = ap (λ (n : ℕ). stopped_at n was.state.stopped) set.serial ∙ (ap (λ (t : _). stopped_at p.serial t.stopped) all.table ∙ stopped_here) in
      let same : one.0 ≡ p = (let both : Some one.0 ≡ Some p = sym one.1 ∙ there in cc) in
      subst (λ (q : PoolState). Halts devs moment state_at q h) same one.2

  -- no started pool has its name
  pub not_among : pool_at p.name (pools_of cells) ≡ None
  not_among = all.pools.found p.name ∙ (own_is s.devices p.name s.pools all.valid.apart ∙ (ap keep here ∙ ap (λ (b : Bool). cond b (Some p) None) down))

  pub all_others : others p.name (pools_of cells) ≡ pools_of cells
  all_others = none_out p.name (pools_of cells) not_among

  pub sizes : (d : Path) (n : ℕ) → Has (devs h.rack) d n → option_map (λ (row : DevRow). row.sectors) (row_of d s.devices) ≡ Some n
  sizes = all_sized s.devices (devs h.rack) set.sizes

  pub whole : (ds : Devices) → own_devices p.mode p.devices ds ≡ map as_pair p.devices
  whole ds = by p.mode set.can
    where
      by : (m : PoolMode) → can_start m ≡ true → own_devices m p.devices ds ≡ map as_pair p.devices
      by Up e = absurd cc
      by (Down call) e = absurd cc
      by Stopped e = refl
      by (Unsettled call) e = refl
      by (Incomplete path) e = absurd cc

  module _ (halts : Halts devs moment state_at p h) where
    has_it : (d : Path) → uses d p ≡ true → (n : ℕ) × Has (devs h.rack) d n
    has_it d used =
        let it = among d (in_use p (devs h.rack)) (uses_named p (devs h.rack) (whole (devs h.rack)) d ∙ used) in
        (it.device.1, subst (λ (x : Path). Has (devs h.rack) x it.device.1) it.same (halts.own.there it.place it.device it.at))

    flight : IsWholeFlight (flight_of p.mode)
    flight = by h.flight halts.is_as
      where
        by : (o : Option Flight) → IsAs p (devs h.rack) h.devs (now moment state_at h.rack) o → IsWholeFlight (flight_of p.mode)
        by None f = subst IsWholeFlight (sym f.flight) tt
        by (Some f) k =
            let image = held (now moment state_at h.rack) in
            subst (λ (x : PoolState). IsWholeFlight (flight_of x.mode)) (sym (k.was image)) (whole_flies f.books h.devs image f.call k.call)

    abbrev e : EngineState
    e = engine_of p (devs h.rack)

    taken_has : (path : Text) → has_path path (paths_taken (flight_of p.mode)) ≡ true → (n : ℕ) × Has (devs h.rack) path n
    taken_has path on = has_it path (or_second (is_some (row_of path p.devices)) (takes_path path (flight_of p.mode)) (sym (taken_path path (flight_of p.mode)) ∙ on))

    -- the start means it, also in an engine that knows it alone
    pub met : IsMeantAlone id p s e
    met = record {
      alone = record { valid = all.valid; here = here; alone = refl };
      meant = set.meant;
      flight = flight;
      there = λ path on. let has = taken_has path on in there_is (row_of path e.devices) has.0 (rack_row (devs h.rack) path has.0 has.1);
      sectors = λ path on.
          let has = taken_has path on in
          ap (λ (o : Option ℕ). unwrap_or o 0) (rack_row (devs h.rack) path has.0 has.1 ∙ sym (sizes path has.0 has.1));
    }

    pub beside_is : StartBeside → (env : Env) → outcome s (StartPool id) env ≡ beside p s (outcome e (StartPool (ByName p.name)) env)
    beside_is law env = law id p s e env met

  -- where a device failed
  pub fault_is : outcome s (StartPool id) FaultWrite ≡ Some (refused DeviceFault, s)
  fault_is = ap (λ (o : Option PoolState). where_so (reaches o) (refused DeviceFault, s)) set.meant ∙ ap (λ (b : Bool). where_so b (refused DeviceFault, s)) set.can

-- it is that of the place
pub set_at : {D : Type 0} (devs : D → Devices) (s : EngineState) (id : PoolId) (halts : List (HaltedView D)) (r : Ready) (p : PoolState) (h x : HaltedView D) → IsSet devs s id halts r p h → slice_get halts r.place ≡ Some x → IsSet devs s id halts r p x
set_at devs s id halts r p h x set at = let both : Some h ≡ Some x = sym set.at ∙ at in let same : h ≡ x = cc in subst (IsSet devs s id halts r p) same set

-- The pool was taken out: the halted one stands for it.
pub record IsOut {D : Type 0} (devs : D → Devices) (moment : D → ℕ) (state_at : D → ℕ → State) (s : EngineState) (id : PoolId) (halts : List (HaltedView D)) (r : Ready) (name : Text) (x : HaltedView D) : Type 0 where
  pub pool : PoolState
  pub named : pool.name ≡ name
  pub set : IsSet devs s id halts r pool x
  pub stands : Halts devs moment state_at pool x

pub out_of : {D : Type 0} (devs : D → Devices) (moment : D → ℕ) (state_at : D → ℕ → State) (faults : D → ℕ) (s : EngineState) (id : PoolId) (cells : List (PoolView D)) (was : BoardView D) (all : AreAll devs moment state_at faults s cells was) (r : Ready) (name : Text)
    → (p : PoolState) × (h : HaltedView D) × (p.name ≡ name) × IsSet devs s id was.halted r p h → (x : HaltedView D) → slice_get was.halted r.place ≡ Some x
    → (q : PoolState) × (stopped_at x.serial was.state.stopped ≡ Some q) × Halts devs moment state_at q x → IsOut devs moment state_at s id was.halted r name x
out_of devs moment state_at faults s id cells was all r name one x at halts =
    let set = set_at devs s id was.halted r one.0 one.1 x one.3 at in
    record { pool = one.0; named = one.2; set = set; stands = halts_it devs moment state_at faults s id cells was all r one.0 x set halts }
