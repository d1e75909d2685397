-- StartPool keeps validity, whatever it finds
use Rattle.std.proofs.Common.{◌≡◌, ℕ, ◌==◌, not, List, [], ◌∷◌, ◌++◌, Bool, true, false, cond, find, Option, Some, None, refl, sym, ap, subst}
use Rattle.std.specs.List.{AllByRecursion}
use Rattle.st_units.specs.declared.cause.Cause.TheVariants.{DeviceFault}
use Rattle.st_model.specs.declared.call.Call.{Call}
use Rattle.st_model.specs.declared.call.Call.TheVariants.{CreatePool, StopPool, StartPool, RenamePool, AddDataDevs, InitCache, AddCacheDevs, CreateFilesystems, DestroyFilesystems, SnapshotFilesystem, SetFsLimit, PoolReport, EngineStateReport, RenameFilesystem, SetSizeLimit, SetOverprovisioning, DestroyPool, PoolReports, PowerCycle, SetMerge, FsWrite, FsRead, Check}
use Rattle.st_model.specs.declared.call.PoolId.{PoolId}
use Rattle.st_model.specs.declared.entry.Env.{Env}
use Rattle.st_model.specs.declared.entry.Env.TheVariants.{Plain, NoMem, FaultRead, FaultWrite, After, Before}
use Rattle.st_model.specs.declared.reply.Reply.{Reply}
use Rattle.st_model.specs.declared.state.EngineState.{EngineState}
use Rattle.st_model.specs.declared.state.PoolMode.{PoolMode}
use Rattle.st_model.specs.declared.state.PoolMode.TheVariants.{Up, Down, Stopped, Unsettled, Incomplete}
use Rattle.st_model.specs.declared.state.PoolState.{PoolState}
use Rattle.st_model.specs.Answer.{refused, unless_answered}
use Rattle.st_model.specs.Look.{Text, flight_of}
use Rattle.st_model.specs.Valid.{AreThere, IsRow, IsValid, IsOnIfAny}
use Rattle.st_model.specs.Flight.{all_but, state_before}
use Rattle.st_model.specs.ValidPool.{IsValidIn, IsBefore, IsHalted}
use Rattle.st_model.specs.steps.CreatePool.{create_answer, create_plain, data_rows, new_pool, with_pool}
use Rattle.st_model.proofs.Flights.{found-holds, find_none}
use Rattle.st_model.proofs.Lists.{filter-passes, All-weaker}
use Rattle.st_model.specs.Found.{found_before, found_after, unsettled_in, taken_over, with_own_serial}
use Rattle.st_model.specs.Step.{outcome, found, on_flight}
use Rattle.st_model.specs.steps.AddCacheDevs.{more_cache}
use Rattle.st_model.specs.steps.AddDataDevs.{data_devs}
use Rattle.st_model.specs.steps.CreateFilesystems.{create_filesystems}
use Rattle.st_model.specs.steps.SetFsLimit.{set_fs_limit}
use Rattle.st_model.specs.steps.StartPool.{pool_meant, is_meant, start_pool, start_found, start_in}
use Rattle.st_model.proofs.AddCalls.{data-call, init-call, more-call}
use Rattle.st_model.proofs.AddFailed.{found_added-valid}
use Rattle.st_model.proofs.Among.{IsPlaced, all_placed, All-with, same_number}
use Rattle.st_model.proofs.EachKind.{IsGood, valid-good}
use Rattle.st_model.proofs.FoundByLaw.{found_renamed-valid}
use Rattle.st_model.proofs.LocalCalls.{create-within, destroy_fs-within, limit-within, overprovisioning-within, rename_fs-within, size_limit-within, set_merge-within, snapshot-within, check-within, fs_read-within, fs_write-within}
use Rattle.st_model.proofs.ValidDestroy.{found_destroyed-valid}
use Rattle.st_model.proofs.ValidDestroyFs.{destroy_fs-whole}
use Rattle.st_model.proofs.ValidFields.{overprovisioning-whole, rename_filesystem-whole, size_limit-whole}
use Rattle.st_model.specs.steps.DestroyFilesystems.{destroy_filesystems}
use Rattle.st_model.specs.steps.InitCache.{new_cache}
use Rattle.st_model.specs.steps.RenameFilesystem.{rename_filesystem}
use Rattle.st_model.specs.steps.SetMerge.{set_merge}
use Rattle.st_model.proofs.ValidMerge.{set_merge-whole}
use Rattle.st_model.specs.steps.SetOverprovisioning.{set_overprovisioning}
use Rattle.st_model.specs.steps.SetSizeLimit.{set_size_limit}
use Rattle.st_model.specs.steps.SnapshotFilesystem.{snapshot_filesystem}
use Rattle.st_model.specs.InPlace.{with_bytes}
use Rattle.st_model.specs.steps.Check.{check_pool}
use Rattle.st_model.specs.steps.FsRead.{fs_read}
use Rattle.st_model.specs.steps.FsWrite.{fs_write}
use Rattle.st_model.proofs.Recoded.{in_place-whole}
use Rattle.st_model.proofs.Replaced.{vanished-valid}
use Rattle.st_model.proofs.ValidCheck.{check-whole}
use Rattle.st_model.proofs.ValidRead.{fs_read-whole}
use Rattle.st_model.proofs.ValidWrite.{fs_write-whole}
use Rattle.st_model.proofs.ValidCreateFs.{create-whole}
use Rattle.st_model.proofs.ValidLimit.{limit-whole}
use Rattle.st_model.proofs.ValidMaking.{found_made-valid}
use Rattle.st_model.proofs.ValidSnapshot.{snapshot-whole}
use Rattle.st_model.proofs.ValidStart.{IsValidAfter, where-valid, start-valid, cooled_start-valid, found_doing-valid, changed_start-valid}

-- what is known of the pool that a start reaches
record IsMet (s : EngineState) (p : PoolState) : Type 0 where
  placed : IsPlaced s.devices s.pools p
  good : IsGood s.next s.devices p

met_of : (s : EngineState) (id : PoolId) (p : PoolState) → IsValid s → pool_meant id s ≡ Some p → IsMet s p
met_of s id p v e =
    found-holds (IsMet s) (is_meant id) s.pools p (All-with _ _ (IsMet s) s.pools (λ q a b. record { placed = a; good = b }) (all_placed s.devices s.pools v.apart) (valid-good s v)) e

not_self : (b : Bool) → not b ≡ true → b ≡ false
not_self true h = absurd cc
not_self false h = refl

none_before : (p : PoolState) (ps : List PoolState) → find (λ (x : PoolState). x.serial == p.serial) (all_but p.serial ps) ≡ None
none_before p ps = find_none _ (all_but p.serial ps) (All-weaker _ _ (all_but p.serial ps) (λ x. not_self (x.serial == p.serial)) (filter-passes (λ (x : PoolState). not (x.serial == p.serial)) ps))

find_last : (p : PoolState) (ps : List PoolState) (q : PoolState) → find (λ (x : PoolState). x.serial == p.serial) ps ≡ None → q.serial ≡ p.serial → find (λ (x : PoolState). x.serial == p.serial) (ps ++ q ∷ []) ≡ Some q
find_last p [] q h e = rw (e, same_number p.serial) refl
find_last p (x ∷ ps) q h e = here (x.serial == p.serial) h (λ k. find_last p ps q k e)
  where
    here : (b : Bool) → cond b (Some x) (find (λ (y : PoolState). y.serial == p.serial) ps) ≡ None → (find (λ (y : PoolState). y.serial == p.serial) ps ≡ None → find (λ (y : PoolState). y.serial == p.serial) (ps ++ q ∷ []) ≡ Some q)
        → cond b (Some x) (find (λ (y : PoolState). y.serial == p.serial) (ps ++ q ∷ [])) ≡ Some q
    here true k f = absurd cc
    here false k f = f k

create-after : (s : EngineState) (p : PoolState) (name : Text) (paths : List Text) → IsValid s → IsMet s p → p.mode ≡ Unsettled (CreatePool name paths) → IsValidAfter (found_after s p (CreatePool name paths))
unfolding create_plain
create-after s p name paths v met up = where-valid _ _ (here (create_answer before name paths) refl)
  where
    before : EngineState
    before = state_before s p (CreatePool name paths)

    q : PoolState
    q = new_pool p.serial name (data_rows s.devices (Rattle.st_model.specs.Look.distinct paths))

    here : (a : Option Reply) → create_answer before name paths ≡ a → IsValid (taken_over s p (with_own_serial p.serial (unless_answered a before (Rattle.st_model.specs.Answer.accepted (Rattle.st_model.specs.declared.reply.Given.TheVariants.Created true (Some (before.next, Rattle.st_model.specs.Look.distinct paths))), with_pool before q)).1)).1
    here None e =
        subst (λ (o : Option PoolState). IsValid (taken_over s p o).1) (sym (find_last p before.pools q (none_before p s.pools) refl))
        (found_made-valid s p name paths v met.placed met.good (ap flight_of up) (subst (λ (m : PoolMode). IsOnIfAny p.name (flight_of m)) up met.good.on) e)
    here (Some r) e = subst (λ (o : Option PoolState). IsValid (taken_over s p o).1) (sym (none_before p s.pools)) (vanished-valid s p v)

halted_of : (s : EngineState) (p : PoolState) (call : Call) → IsMet s p → p.mode ≡ Unsettled call → (IsBefore p call → IsHalted p) → IsHalted p
halted_of s p call met up f = f (subst (λ (m : PoolMode). IsValidIn p m) up met.good.valid.state)

rows_of : (s : EngineState) (p : PoolState) (call : Call) → IsMet s p → p.mode ≡ Unsettled call → AllByRecursion (IsRow s.devices) p.devices
rows_of s p call met up = (subst (λ (m : PoolMode). AreThere s.devices p m) up met.good.there).0

on_of : (s : EngineState) (p : PoolState) (call : Call) → IsMet s p → p.mode ≡ Unsettled call → IsOnIfAny p.name (Some call)
on_of s p call met up = subst (λ (m : PoolMode). IsOnIfAny p.name (flight_of m)) up met.good.on

after-valid : (s : EngineState) (p : PoolState) → IsValid s → IsMet s p → (call : Call) → p.mode ≡ Unsettled call → IsValidAfter (found_after s p call)
after-valid s p v met (CreatePool name devices) up = create-after s p name devices v met up
after-valid s p v met (RenamePool name new) up =
    found_renamed-valid s p name new v met.placed (halted_of s p _ met up (λ h. h)) (rows_of s p _ met up) met.good (on_of s p _ met up) (ap flight_of up)
after-valid s p v met (AddDataDevs pool devices) up =
    found_added-valid data_devs AddDataDevs data-call s p pool devices v met.placed (halted_of s p _ met up (λ h. h)) (rows_of s p _ met up) met.good (on_of s p _ met up) (ap flight_of up)
after-valid s p v met (InitCache pool devices) up =
    found_added-valid new_cache InitCache init-call s p pool devices v met.placed (halted_of s p _ met up (λ h. h)) (rows_of s p _ met up) met.good (on_of s p _ met up) (ap flight_of up)
after-valid s p v met (AddCacheDevs pool devices) up =
    found_added-valid more_cache AddCacheDevs more-call s p pool devices v met.placed (halted_of s p _ met up (λ h. h)) (rows_of s p _ met up) met.good (on_of s p _ met up) (ap flight_of up)
after-valid s p v met (CreateFilesystems pool specs) up =
    found_doing-valid s p pool (create_filesystems specs) v met.placed met.good (halted_of s p _ met up (λ h. h)) (rows_of s p _ met up) (on_of s p _ met up) (create-within specs) (create-whole specs)
after-valid s p v met (SetFsLimit pool limit) up =
    found_doing-valid s p pool (set_fs_limit limit) v met.placed met.good (halted_of s p _ met up (λ h. h)) (rows_of s p _ met up) (on_of s p _ met up) (limit-within limit) (limit-whole limit)
after-valid s p v met (DestroyFilesystems pool names) up =
    found_doing-valid s p pool (destroy_filesystems names) v met.placed met.good (halted_of s p _ met up (λ h. h)) (rows_of s p _ met up) (on_of s p _ met up) (destroy_fs-within names) (destroy_fs-whole names)
after-valid s p v met (SnapshotFilesystem pool origin new) up =
    found_doing-valid s p pool (snapshot_filesystem origin new) v met.placed met.good (halted_of s p _ met up (λ h. h)) (rows_of s p _ met up) (on_of s p _ met up) (snapshot-within origin new) (snapshot-whole origin new)
after-valid s p v met (RenameFilesystem pool fs new) up =
    found_doing-valid s p pool (rename_filesystem fs new) v met.placed met.good (halted_of s p _ met up (λ h. h)) (rows_of s p _ met up) (on_of s p _ met up) (rename_fs-within fs new) (rename_filesystem-whole fs new)
after-valid s p v met (SetSizeLimit pool fs limit) up =
    found_doing-valid s p pool (set_size_limit fs limit) v met.placed met.good (halted_of s p _ met up (λ h. h)) (rows_of s p _ met up) (on_of s p _ met up) (size_limit-within fs limit) (size_limit-whole fs limit)
after-valid s p v met (SetOverprovisioning pool value) up =
    found_doing-valid s p pool (set_overprovisioning value) v met.placed met.good (halted_of s p _ met up (λ h. h)) (rows_of s p _ met up) (on_of s p _ met up) (overprovisioning-within value) (overprovisioning-whole value)
after-valid s p v met (SetMerge pool fs value) up =
    found_doing-valid s p pool (set_merge fs value) v met.placed met.good (halted_of s p _ met up (λ h. h)) (rows_of s p _ met up) (on_of s p _ met up) (set_merge-within fs value) (set_merge-whole fs value)
after-valid s p v met (FsWrite pool fs sector payload) up =
    found_doing-valid s p pool (fs_write fs sector payload) v met.placed met.good (halted_of s p _ met up (λ h. h)) (rows_of s p _ met up) (on_of s p _ met up) (fs_write-within fs sector payload) (fs_write-whole fs sector payload)
after-valid s p v met (FsRead pool fs sector sectors) up =
    found_doing-valid s p pool (fs_read fs sector sectors) v met.placed met.good (halted_of s p _ met up (λ h. h)) (rows_of s p _ met up) (on_of s p _ met up) (fs_read-within fs sector sectors) (fs_read-whole fs sector sectors)
after-valid s p v met (Check pool) up =
    found_doing-valid s p pool check_pool v met.placed met.good (halted_of s p _ met up (λ h. h)) (rows_of s p _ met up) (on_of s p _ met up) check-within check-whole
after-valid s p v met (DestroyPool name) up =
    found_destroyed-valid s p name v met.placed (halted_of s p _ met up (λ h. h)) (rows_of s p _ met up) met.good (on_of s p _ met up)
after-valid s p v met (StopPool name) up = absurd (on_of s p _ met up)
after-valid s p v met (StartPool id) up = absurd (on_of s p _ met up)
after-valid s p v met (PoolReport pool) up = absurd (on_of s p _ met up)
after-valid s p v met (PoolReports pools) up = absurd (on_of s p _ met up)
after-valid s p v met PowerCycle up = absurd (on_of s p _ met up)
after-valid s p v met EngineStateReport up = absurd (on_of s p _ met up)

before-found : (s : EngineState) (p : PoolState) (bytes : List ℕ) → IsValid s → IsMet s p → (call : Call) → p.mode ≡ Unsettled call → IsValidAfter (found_before s p call bytes)
before-found s p bytes v met (CreatePool name devices) up = where-valid _ _ (vanished-valid s p v)
before-found s p bytes v met (FsWrite pool fs sector payload) up =
    where-valid _ _ (changed_start-valid s p (with_bytes p (FsWrite pool fs sector payload) bytes) v met.placed (halted_of s p _ met up (λ h. h)) (rows_of s p _ met up) met.good refl refl refl (in_place-whole p pool fs sector payload bytes))
before-found s p bytes v met _ up = where-valid _ _ (start-valid s p v met.placed (halted_of s p _ met up (λ h. h)) (rows_of s p _ met up) met.good)

found-valid : (s : EngineState) (f : PoolState → Call → _) → ((p : PoolState) (call : Call) → IsMet s p → p.mode ≡ Unsettled call → IsValidAfter (f p call)) → (o : Option PoolState) → ((p : PoolState) → o ≡ Some p → IsMet s p) → IsValidAfter (found f o)
found-valid s f h None met = tt
found-valid s f h (Some p) met = here p.mode refl
  where
    here : (m : PoolMode) → p.mode ≡ m → IsValidAfter (on_flight p f (unsettled_in m))
    here Up e = tt
    here (Down call) e = tt
    here Stopped e = tt
    here (Unsettled call) e = h p call (met p refl) e
    here (Incomplete path) e = tt

plain-start : (s : EngineState) (id : PoolId) → IsValid s → IsValidAfter (start_pool id s)
unfolding start_pool
plain-start s id v = here (pool_meant id s) (λ p e. met_of s id p v e)
  where
    in_mode : (p : PoolState) → IsMet s p → (m : PoolMode) → p.mode ≡ m → IsValidAfter (start_in s p m)
    in_mode p met Up e = v
    in_mode p met (Down call) e = v
    in_mode p met Stopped e = cooled_start-valid s p v met.placed (subst (λ (m : PoolMode). IsValidIn p m) e met.good.valid.state) (subst (λ (m : PoolMode). AreThere s.devices p m) e met.good.there) met.good
    in_mode p met (Unsettled call) e = tt
    in_mode p met (Incomplete path) e = v

    here : (o : Option PoolState) → ((p : PoolState) → o ≡ Some p → IsMet s p) → IsValidAfter (start_found s o)
    here None met = v
    here (Some p) met = in_mode p (met p refl) p.mode refl

pub start-keeps : (s : EngineState) (id : PoolId) (env : Env) → IsValid s → IsValidAfter (outcome s (StartPool id) env)
start-keeps s id Plain v = plain-start s id v
start-keeps s id NoMem v = v
start-keeps s id FaultRead v = where-valid _ (refused DeviceFault, s) v
start-keeps s id FaultWrite v = where-valid _ (refused DeviceFault, s) v
start-keeps s id After v = found-valid s (found_after s) (λ p call met up. after-valid s p v met call up) (pool_meant id s) (λ p e. met_of s id p v e)
start-keeps s id (Before bytes) v = found-valid s (λ p call. found_before s p call bytes) (λ p call met up. before-found s p bytes v met call up) (pool_meant id s) (λ p e. met_of s id p v e)
