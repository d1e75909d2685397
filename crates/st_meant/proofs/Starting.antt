-- What a start makes of the only pool of an engine.
use Rattle.std.proofs.Common.{◌≡◌, ◌≢◌, ◌⊎◌, inl, inr, ℕ, Bool, true, false, cond, not, ◌&&◌, bytes_eq, List, [], ◌∷◌, ◌++◌, append-nil, map, Option, Some, None, refl, sym, ap, subst, ◌∙◌, arith}
use Rattle.std.specs.Prelude.{find, ◌==◌}
use Rattle.std.specs.List.{AllByRecursion}
use Rattle.std.proofs.lemmas.Slice.Eq.{bytes_eq-Decides}
use Rattle.st_units.specs.declared.cause.Cause.TheVariants.{DeviceFault, NoSuchPool, OutOfMemory, PoolVanished}
use Rattle.st_units.specs.declared.rows.DevRow.{DevRow}
use Rattle.st_units.specs.declared.rows.Tier.{Tier}
use Rattle.st_model.specs.declared.call.Call.{Call}
use Rattle.st_model.specs.declared.call.Call.TheVariants.{CreatePool, DestroyPool, StopPool, StartPool, RenamePool, AddDataDevs, InitCache, AddCacheDevs, CreateFilesystems, DestroyFilesystems, SnapshotFilesystem, RenameFilesystem, SetSizeLimit, SetFsLimit, SetOverprovisioning, FsWrite, FsRead, Check, PoolReport, PoolReports, EngineStateReport, SetMerge, PowerCycle}
use Rattle.st_model.specs.declared.call.PoolId.TheVariants.{ByName}
use Rattle.st_model.specs.declared.entry.Env.{Env}
use Rattle.st_model.specs.declared.entry.Env.TheVariants.{Plain, NoMem, FaultRead, FaultWrite, After, Before}
use Rattle.st_model.specs.declared.reply.Reply.{Reply}
use Rattle.st_model.specs.declared.state.EngineState.{EngineState}
use Rattle.st_model.specs.declared.state.PoolMode.{PoolMode}
use Rattle.st_model.specs.declared.state.PoolMode.TheVariants.{Up, Down, Stopped, Unsettled, Incomplete}
use Rattle.st_model.specs.declared.state.PoolState.{PoolState}
use Rattle.st_model.specs.declared.reply.Given.TheVariants.{Changed}
use Rattle.st_model.specs.Answer.{accepted, first_answer, refused, unless_answered}
use Rattle.st_model.specs.Checks.{cooled, rows_on, settled}
use Rattle.st_model.specs.Flight.{all_but, started_as, state_before}
use Rattle.st_model.specs.Found.{found_after, found_after_of, found_before, started_so, taken_over, unsettled_in, vanished, with_own_serial}
use Rattle.st_model.specs.Lifted.{changed}
use Rattle.st_model.specs.Local.{Outcome, where_so}
use Rattle.st_model.specs.Look.{Text, devices_taken, distinct, flight_of, is_called, is_started, is_up, without}
use Rattle.st_model.specs.Parts.{new_name, paths_taken, pool_at}
use Rattle.st_model.specs.Step.{found, on_flight, outcome, reaches}
use Rattle.st_model.specs.ValidPool.{EachPair, IsBegun}
use Rattle.st_model.specs.steps.CreatePool.{create_answer, create_plain, data_rows, new_pool, with_pool}
use Rattle.st_model.specs.steps.DestroyPool.{destroy_answers, destroy_found, destroy_pool}
use Rattle.st_model.specs.steps.RenamePool.{rename_answers, rename_found, rename_pool, renamed}
use Rattle.st_model.specs.steps.StartPool.{pool_meant, start_found, start_in, start_pool, started_reply, with_serial}
use Rattle.st_model.proofs.Among.{same_number, self, up}
use Rattle.st_startbeside.specs.Starts.{IsWholeFlight}
use Rattle.st_startbeside.proofs.Before.{IsKnownPool, before_call, known_at}
use Rattle.st_meant.specs.Started.{IsStarted, StartMakes}

-- ---- paths, each once

unequal : (p q : Text) → p ≢ q → bytes_eq p q ≡ false
unequal p q ne = here (bytes_eq p q) refl
  where
    here : (b : Bool) → bytes_eq p q ≡ b → b ≡ false
    here true e = absurd (ne ((bytes_eq-Decides p q).0 e))
    here false e = refl

none_out : (p : Text) (paths : List Text) → AllByRecursion (λ q. p ≢ q) paths → without p paths ≡ paths
none_out p [] h = refl
none_out p (q ∷ paths) h = ap (λ (b : Bool). cond (not b) (q ∷ without p paths) (without p paths)) (unequal p q h.0) ∙ ap (λ (rest : List Text). q ∷ rest) (none_out p paths h.1)

once_once : (paths : List Text) → EachPair (λ (a b : Text). a ≢ b) paths → distinct paths ≡ paths
once_once [] h = refl
once_once (p ∷ paths) h = ap (λ (rest : List Text). p ∷ without p rest) (once_once paths h.1) ∙ ap (λ (rest : List Text). p ∷ rest) (none_out p paths h.0)

on_paths : (tier : Tier) (rack : List DevRow) (ps : List Text) → map (λ (row : DevRow). row.path) (rows_on tier rack ps) ≡ ps
on_paths tier rack [] = refl
on_paths tier rack (p ∷ ps) = ap (λ (rest : List Text). p ∷ rest) (on_paths tier rack ps)

-- ---- replies

abbrev code_in : Outcome → ℕ
code_in None = 1
code_in (Some a) = a.0.code

abbrev pools_in : Outcome → List PoolState
pools_in None = []
pools_in (Some a) = a.1.pools

where_is : (b : Bool) (x a : Reply × EngineState) → where_so b x ≡ Some a → ◌≡◌ {A = Outcome} (Some x) (Some a)
where_is true x a h = h
where_is false x a h = absurd cc

module _ (p : PoolState) (s e f : EngineState) (q : PoolState) (known : IsKnownPool s p) (alone : e.pools ≡ p ∷ []) (left : f.pools ≡ q ∷ []) (halted : is_started p.mode ≡ false) (flight : IsWholeFlight (flight_of p.mode)) where
  abbrev answer : Outcome
  answer = Some (started_reply p, f)

  abbrev Starts : Outcome → Type 0
  Starts o = o ≡ answer → IsStarted p q

  meant_alone : pool_meant (ByName p.name) e ≡ Some p
  meant_alone = ap (λ (ps : List PoolState). find (is_called p.name) ps) alone ∙ ap (λ (t : Bool). cond t (Some p) None) (self p.name)

  refuses : (r : Reply) (g : EngineState) → (r.code ≡ 0 → ⊥) → Starts (Some (r, g))
  refuses r g never h = absurd (never (ap code_in h))

  put_alone : (x : PoolState) → (with_serial p.serial x e).pools ≡ x ∷ []
  put_alone x = ap (λ (ps : List PoolState). map (λ (y : PoolState). cond (y.serial == p.serial) x y) ps) alone ∙ ap (λ (t : Bool). cond t x p ∷ []) (same_number p.serial)

  put_is : (x : PoolState) → ◌≡◌ {A = Outcome} (Some (started_reply p, with_serial p.serial x e)) answer → x ≡ q
  put_is x h = let one : x ∷ [] ≡ q ∷ [] = sym (put_alone x) ∙ (ap pools_in h ∙ left) in cc

  puts : (x : PoolState) → IsStarted p x → Starts (Some (started_reply p, with_serial p.serial x e))
  puts x so h = subst (IsStarted p) (put_is x h) so

  taken : (o : Option PoolState) → ((x : PoolState) → o ≡ Some x → IsStarted p (settled x)) → Starts (Some (taken_over e p o))
  taken None good h = refuses (refused PoolVanished) (record e { pools = all_but p.serial e.pools }) (λ k. omega (arith, k)) h
  taken (Some x) good h = puts (settled x) (good x refl) h

  after_of : (before : EngineState) (a : Reply × EngineState) → ((x : PoolState) → with_own_serial p.serial a.1 ≡ Some x → IsStarted p (settled x)) → Starts (found_after_of e p before (Some a))
  after_of before a good h = taken (with_own_serial p.serial a.1) good (where_is _ (taken_over e p (with_own_serial p.serial a.1)) (started_reply p, f) h)

  -- ---- what it may be

  no_more_paths : (m : PoolMode) → p.mode ≡ m → paths_taken (flight_of m) ≡ [] → map (λ (row : DevRow). row.path) p.devices ≡ (Rattle.st_model.specs.Parts.known p).devices
  no_more_paths m is none = sym (ap (λ (n : PoolMode). map (λ (row : DevRow). row.path) p.devices ++ paths_taken (flight_of n)) is ∙ (ap (λ (ps : List Text). map (λ (row : DevRow). row.path) p.devices ++ ps) none ∙ append-nil (map (λ (row : DevRow). row.path) p.devices)))

  as_it_was : (m : PoolMode) → p.mode ≡ m → paths_taken (flight_of m) ≡ [] → (x : PoolState) → x.mode ≡ Up → x.serial ≡ p.serial → x.devices ≡ p.devices → x.name ≡ p.name → IsStarted p x
  as_it_was m is none x up_now serial devices name = record {
    mode = up_now;
    serial = serial;
    devices = ap (map (λ (row : DevRow). row.path)) devices ∙ no_more_paths m is none;
    name = inl name;
  }

  with_name : (name new : Text) → p.mode ≡ Unsettled (RenamePool name new) → IsStarted p (settled (renamed new (up p)))
  with_name name new is = record {
    mode = refl;
    serial = refl;
    devices = no_more_paths (Unsettled (RenamePool name new)) is refl;
    name = inr (ap (λ (m : PoolMode). new_name (flight_of m)) is);
  }

  as_made : (name : Text) (devices : List Text) (rows : List DevRow) → p.mode ≡ Unsettled (CreatePool name devices) → IsBegun p name devices → IsStarted p (settled (new_pool p.serial name (data_rows rows (distinct devices))))
  as_made name devices rows is begun = record {
    mode = refl;
    serial = refl;
    devices =
        on_paths Rattle.st_units.specs.declared.rows.Tier.TheVariants.DataTier rows (distinct devices)
        ∙ (once_once devices begun.distinct
        ∙ sym (ap (λ (m : PoolMode). map (λ (row : DevRow). row.path) p.devices ++ paths_taken (flight_of m)) is ∙ ap (λ (own : List DevRow). map (λ (row : DevRow). row.path) own ++ devices) begun.devices));
    name = inl (sym begun.named);
  }

  -- of one pool it is found by its serial, if it is found
  one_found : (ps : List PoolState) (y x : PoolState) → ps ≡ y ∷ [] → find (λ (z : PoolState). z.serial == p.serial) ps ≡ Some x → y ≡ x
  one_found ps y x is h = by (y.serial == p.serial) (sym (ap (find (λ (z : PoolState). z.serial == p.serial)) is) ∙ h)
    where
      by : (b : Bool) → cond b (Some y) None ≡ Some x → y ≡ x
      by true k = cc
      by false k = absurd cc

  none_found : (ps : List PoolState) (x : PoolState) → ps ≡ [] → find (λ (z : PoolState). z.serial == p.serial) ps ≡ Some x → ⊥
  none_found ps x is h = let none : None ≡ Some x = sym (ap (find (λ (z : PoolState). z.serial == p.serial)) is) ∙ h in cc

  -- ---- of a pool that was stopped

  plainly : start_pool (ByName p.name) e ≡ answer → IsStarted p q
  unfolding start_pool
  plainly h = by p.mode refl (sym (ap (start_found e) meant_alone) ∙ h)
    where
      by : (m : PoolMode) → p.mode ≡ m → start_in e p m ≡ answer → IsStarted p q
      by Up is k = absurd (let t : is_started p.mode ≡ true = ap is_started is in cc)
      by (Down call) is k = absurd (let t : is_started p.mode ≡ true = ap is_started is in cc)
      by Stopped is k = puts (cooled Up p) (as_it_was Stopped is refl (cooled Up p) refl refl refl refl) k
      by (Unsettled call) is k = absurd cc
      by (Incomplete path) is k = refuses _ e (λ c. omega (arith, c)) k

  -- ---- of one with a call in flight

  one_before : map (started_as p.serial) e.pools ≡ up p ∷ []
  one_before = ap (map (started_as p.serial)) alone ∙ ap (λ (t : Bool). cond t (up p) p ∷ []) (same_number p.serial)

  abbrev before : EngineState
  before = record e { pools = map (started_as p.serial) e.pools }

  before_is : (call : Call) → p.mode ≡ Unsettled call → devices_taken call ≡ [] → (x : PoolState) → with_own_serial p.serial before ≡ Some x → IsStarted p (settled x)
  before_is call is none x h = subst (λ (y : PoolState). IsStarted p (settled y)) (one_found before.pools (up p) x one_before h) (as_it_was (Unsettled call) is none (settled (up p)) refl refl refl refl)

  renames : (name new : Text) → p.mode ≡ Unsettled (RenamePool name new) → Starts (found_after_of e p before (Some (rename_pool name new before)))
  unfolding rename_pool
  renames name new is = by_pool (pool_at name before.pools)
    where
      renamed_state : EngineState
      renamed_state = changed name (renamed new) before

      pools_after : renamed_state.pools ≡ cond (is_called name (up p)) (renamed new (up p)) (up p) ∷ []
      pools_after = ap (map (λ (y : PoolState). cond (is_up y.mode && is_called name y) (renamed new y) y)) one_before

      either : (b : Bool) → IsStarted p (settled (cond b (renamed new (up p)) (up p)))
      either true = with_name name new is
      either false = as_it_was (Unsettled (RenamePool name new)) is refl (settled (up p)) refl refl refl refl

      after_is : (x : PoolState) → with_own_serial p.serial renamed_state ≡ Some x → IsStarted p (settled x)
      after_is x h = subst (λ (y : PoolState). IsStarted p (settled y)) (one_found renamed_state.pools (cond (is_called name (up p)) (renamed new (up p)) (up p)) x pools_after h) (either (is_called name (up p)))

      unless : (a : Option Reply) (r : Reply) → Starts (found_after_of e p before (Some (unless_answered a before (r, renamed_state))))
      unless None r = after_of before (r, renamed_state) after_is
      unless (Some t) r = after_of before (t, before) (before_is (RenamePool name new) is refl)

      by_pool : (o : Option PoolState) → Starts (found_after_of e p before (Some (rename_found before name new o)))
      by_pool None = after_of before (refused NoSuchPool, before) (before_is (RenamePool name new) is refl)
      by_pool (Some y) = unless (first_answer (rename_answers before name new y)) _

  ends : (name : Text) → p.mode ≡ Unsettled (DestroyPool name) → Starts (found_after_of e p before (Some (destroy_pool name before)))
  unfolding destroy_pool
  ends name is = by_pool (pool_at name before.pools)
    where
      after_is : (y x : PoolState) → find (λ (z : PoolState). z.serial == p.serial) (all_but y.serial before.pools) ≡ Some x → IsStarted p (settled x)
      after_is y x h = by (p.serial == y.serial) (sym (ap (λ (ps : List PoolState). find (λ (z : PoolState). z.serial == p.serial) (all_but y.serial ps)) one_before) ∙ h)
        where
          by : (b : Bool) → find (λ (z : PoolState). z.serial == p.serial) (cond (not b) (up p ∷ []) []) ≡ Some x → IsStarted p (settled x)
          by true k = absurd (none_found [] x refl k)
          by false k = subst (λ (z : PoolState). IsStarted p (settled z)) (one_found (up p ∷ []) (up p) x refl k) (as_it_was (Unsettled (DestroyPool name)) is refl (settled (up p)) refl refl refl refl)

      unless : (y : PoolState) (a : Option Reply) (r : Reply) → Starts (found_after_of e p before (Some (unless_answered a before (r, record before { pools = all_but y.serial before.pools }))))
      unless y None r = after_of before (r, record before { pools = all_but y.serial before.pools }) (after_is y)
      unless y (Some t) r = after_of before (t, before) (before_is (DestroyPool name) is refl)

      by_pool : (o : Option PoolState) → Starts (found_after_of e p before (Some (destroy_found before o)))
      by_pool None = after_of before (accepted (Changed false None), before) (before_is (DestroyPool name) is refl)
      by_pool (Some y) = unless y (first_answer (destroy_answers y)) _

  makes : (name : Text) (devices : List Text) → p.mode ≡ Unsettled (CreatePool name devices) → Starts (found_after e p (CreatePool name devices))
  unfolding create_plain
  makes name devices is = unless (create_answer bare name devices) _
    where
      bare : EngineState
      bare = state_before e p (CreatePool name devices)

      made : PoolState
      made = new_pool p.serial name (data_rows e.devices (distinct devices))

      none_left : bare.pools ≡ []
      none_left = ap (all_but p.serial) alone ∙ ap (λ (t : Bool). cond (not t) (p ∷ []) []) (same_number p.serial)

      begun : IsBegun p name devices
      begun = before_call s p (CreatePool name devices) known is

      made_is : (x : PoolState) → with_own_serial p.serial (with_pool bare made) ≡ Some x → IsStarted p (settled x)
      made_is x h = subst (λ (z : PoolState). IsStarted p (settled z)) (one_found (bare.pools ++ made ∷ []) made x (ap (λ (ps : List PoolState). ps ++ made ∷ []) none_left) h) (as_made name devices e.devices is begun)

      unless : (a : Option Reply) (r : Reply) → Starts (found_after_of e p bare (Some (unless_answered a bare (r, with_pool bare made))))
      unless None r = after_of bare (r, with_pool bare made) made_is
      unless (Some t) r = after_of bare (t, bare) (λ x h. absurd (none_found bare.pools x none_left h))

  found_in : (g : PoolState → Call → Outcome) → ((call : Call) → p.mode ≡ Unsettled call → IsWholeFlight (Some call) → Starts (g p call)) → Starts (found g (pool_meant (ByName p.name) e))
  found_in g each h = by p.mode refl (sym (ap (found g) meant_alone) ∙ h)
    where
      by : (m : PoolMode) → p.mode ≡ m → on_flight p g (unsettled_in m) ≡ answer → IsStarted p q
      by Up is k = absurd cc
      by (Down call) is k = absurd cc
      by Stopped is k = absurd cc
      by (Unsettled call) is k = each call is (subst (λ (m : PoolMode). IsWholeFlight (flight_of m)) is flight) k
      by (Incomplete path) is k = absurd cc

  after_call : (call : Call) → p.mode ≡ Unsettled call → IsWholeFlight (Some call) → Starts (found_after e p call)
  after_call (CreatePool name devices) is w = makes name devices is
  after_call (DestroyPool name) is w = ends name is
  after_call (RenamePool name new) is w = renames name new is
  after_call (StopPool name) is w = absurd w
  after_call (StartPool other) is w = absurd w
  after_call (AddDataDevs pool devices) is w = absurd w
  after_call (InitCache pool devices) is w = absurd w
  after_call (AddCacheDevs pool devices) is w = absurd w
  after_call (CreateFilesystems pool specs) is w = absurd w
  after_call (DestroyFilesystems pool names) is w = absurd w
  after_call (SnapshotFilesystem pool origin name) is w = absurd w
  after_call (RenameFilesystem pool name new) is w = absurd w
  after_call (SetSizeLimit pool name limit) is w = absurd w
  after_call (SetFsLimit pool limit) is w = absurd w
  after_call (SetOverprovisioning pool value) is w = absurd w
  after_call (FsWrite pool name sector payload) is w = absurd w
  after_call (FsRead pool name sector sectors) is w = absurd w
  after_call (Check pool) is w = absurd w
  after_call (PoolReport pool) is w = absurd w
  after_call (PoolReports pools) is w = absurd w
  after_call EngineStateReport is w = absurd w
  after_call (SetMerge pool name value) is w = absurd w
  after_call PowerCycle is w = absurd w

  still : (bytes : List ℕ) (call : Call) → p.mode ≡ Unsettled call → devices_taken call ≡ [] → Starts (where_so (Rattle.std.proofs.Common.length bytes == 0) (started_so e p p))
  still bytes call is none h = puts (settled p) (as_it_was (Unsettled call) is none (settled p) refl refl refl refl) (where_is _ (started_so e p p) (started_reply p, f) h)

  before_call_was : (bytes : List ℕ) (call : Call) → p.mode ≡ Unsettled call → IsWholeFlight (Some call) → Starts (found_before e p call bytes)
  before_call_was bytes (CreatePool name devices) is w h = refuses (refused PoolVanished) (vanished e p).1 (λ k. omega (arith, k)) (where_is _ (vanished e p) (started_reply p, f) h)
  before_call_was bytes (DestroyPool name) is w h = still bytes (DestroyPool name) is refl h
  before_call_was bytes (RenamePool name new) is w h = still bytes (RenamePool name new) is refl h
  before_call_was bytes (StopPool name) is w h = absurd w
  before_call_was bytes (StartPool other) is w h = absurd w
  before_call_was bytes (AddDataDevs pool devices) is w h = absurd w
  before_call_was bytes (InitCache pool devices) is w h = absurd w
  before_call_was bytes (AddCacheDevs pool devices) is w h = absurd w
  before_call_was bytes (CreateFilesystems pool specs) is w h = absurd w
  before_call_was bytes (DestroyFilesystems pool names) is w h = absurd w
  before_call_was bytes (SnapshotFilesystem pool origin name) is w h = absurd w
  before_call_was bytes (RenameFilesystem pool name new) is w h = absurd w
  before_call_was bytes (SetSizeLimit pool name limit) is w h = absurd w
  before_call_was bytes (SetFsLimit pool limit) is w h = absurd w
  before_call_was bytes (SetOverprovisioning pool value) is w h = absurd w
  before_call_was bytes (FsWrite pool name sector payload) is w h = absurd w
  before_call_was bytes (FsRead pool name sector sectors) is w h = absurd w
  before_call_was bytes (Check pool) is w h = absurd w
  before_call_was bytes (PoolReport pool) is w h = absurd w
  before_call_was bytes (PoolReports pools) is w h = absurd w
  before_call_was bytes EngineStateReport is w h = absurd w
  before_call_was bytes (SetMerge pool name value) is w h = absurd w
  before_call_was bytes PowerCycle is w h = absurd w

  fails : (b : Bool) (g : EngineState) → Starts (where_so b (refused DeviceFault, g))
  fails b g h = refuses (refused DeviceFault) g (λ k. omega (arith, k)) (where_is b (refused DeviceFault, g) (started_reply p, f) h)

  started : (env : Env) → outcome e (StartPool (ByName p.name)) env ≡ answer → IsStarted p q
  started Plain h = plainly h
  started NoMem h = refuses (refused OutOfMemory) e (λ k. omega (arith, k)) h
  started FaultRead h = fails (reaches (pool_meant (ByName p.name) e)) e h
  started FaultWrite h = fails (reaches (pool_meant (ByName p.name) e)) e h
  started After h = found_in (found_after e) after_call h
  started (Before bytes) h = found_in (λ x call. found_before e x call bytes) (before_call_was bytes) h

pub start_makes : StartMakes
start_makes id p q s e f env met halted h left = started p s e f q (known_at s p met.alone.valid met.alone.here) met.alone.alone left halted met.flight env h
