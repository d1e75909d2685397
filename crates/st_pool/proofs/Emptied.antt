-- A halted pool that is known no more: its making left nothing, or its end is done.
use Rattle.std.proofs.Common.{◌≡◌, ◌≢◌, inl, inr, ℕ, ◌+◌, ◌<◌, ◌≤◌, Bool, true, false, cond, nat_lt, List, [], ◌∷◌, Option, Some, None, refl, sym, ◌∙◌, ap, subst, arith}
use Rattle.std.specs.List.{slice_get}
use Rattle.st_limits.specs.declared.TheConstants.{MAX_COMMITS, MIN_DEVICE_SECTORS}
use Rattle.st_units.specs.Causes.{Rose}
use Rattle.st_units.specs.declared.cause.Cause.TheVariants.{PoolVanished}
use Rattle.st_fields.specs.Slot.{Found}
use Rattle.st_poolrec.specs.declared.record.PoolRec.{PoolRec}
use Rattle.st_model.specs.declared.call.Call.{Call}
use Rattle.st_model.specs.declared.call.Call.TheVariants.{CreatePool, DestroyPool}
use Rattle.st_model.specs.declared.entry.Env.{Env}
use Rattle.st_model.specs.declared.entry.Env.TheVariants.{After, Before}
use Rattle.st_model.specs.declared.state.PoolMode.{PoolMode}
use Rattle.st_model.specs.declared.state.PoolMode.TheVariants.{Unsettled}
use Rattle.st_model.specs.declared.state.PoolState.{PoolState}
use Rattle.st_model.specs.Answer.{refused}
use Rattle.st_model.specs.Checks.{halted}
use Rattle.st_model.specs.Look.{Text}
use Rattle.st_model.specs.Step.{can_start}
use Rattle.st_rack.specs.Story.{Content}
use Rattle.st_rack.specs.Device.{Path, DevState, State, Image, held}
use Rattle.st_rack.specs.Calls.{Devices, Has, Rises}
use Rattle.st_rack.specs.Moments.{Goes, Keeps}
use Rattle.st_rack.proofs.Moments.{goes_keeps}
use Rattle.st_slots.specs.Reading.{read_slot}
use Rattle.st_slots.specs.declared.spot.SlotFault.{SlotFault}
use Rattle.st_slots.specs.declared.spot.SlotFault.TheVariants as faulty
use Rattle.st_deltalog.specs.Bearing.{IsSettled}
use Rattle.st_deltalog.specs.Log.{serial_in}
use Rattle.st_commit.specs.Ready.{IsOf}
use Rattle.st_image.specs.Bears.{newest_on, newest_over, paths}
use Rattle.st_image.specs.Kept.{Kept, NoneOrGone, in_use}
use Rattle.st_image.specs.Left.{LeftOf}
use Rattle.st_image.specs.Looks.{pool_area, slot_on}
use Rattle.st_image.proofs.Committing.{path_at}
use Rattle.st_books.specs.declared.books.Books.{Books}
use Rattle.st_clearing.specs.Clearing.{AllClearing, AllCleared}
use Rattle.st_clearing.specs.Laws.{IsEmpty}
use Rattle.st_clearing.proofs.Alike.{stands-alike}
use Rattle.st_clearing.proofs.Emptied.{cleared-empty}
use Rattle.st_told.specs.Met.{IsEnding, IsMaking}
use Rattle.st_onestart.specs.Alone.{StartsAlone}
use Rattle.st_starting.specs.declared.finding.Newest.{Newest}
use Rattle.st_starting.specs.declared.outcome.Start.TheVariants as starts
use Rattle.st_starting.specs.Alike.{StandsAlike}
use Rattle.st_starting.specs.Found.{HasEnded, TellsOfNone, sized}
use Rattle.st_starting.proofs.Devices.{paths_sized, sized_in}
use Rattle.st_starting.proofs.Restrict.{none_inside}
use Rattle.st_pool.specs.declared.flight.Flight.{Flight}
use Rattle.st_pool.specs.Ends.{IsFreed}
use Rattle.st_pool.specs.Flights.{Flies}
use Rattle.st_pool.specs.Halts.{Halts, HaltedView, IsAs}
use Rattle.st_pool.specs.Starts.{DidStart, IsMet, Vanishes, alone_start, commits_in}
use Rattle.st_pool.specs.View.{IsOwn, engine_of, now, pool_with}
use Rattle.st_pool.specs.inner.Wakings.{IsEnded, IsSought, IsUnmade, left}
use Rattle.st_pool.proofs.Idle.{halts_known, kept_since, there, uses}
use Rattle.st_pool.proofs.Waked.{left_so}
use Rattle.st_pool.proofs.Woken.{AreBare, end_after, make_before}

devices_path : (ds : Devices) (k : ℕ) (d : Path × ℕ) → slice_get ds k ≡ Some d → slice_get (paths ds) k ≡ Some d.0
devices_path = path_at

-- a device that was cleared is free
freed_empty : (p sectors : ℕ) (s : DevState) → IsEmpty s → IsFreed p sectors s
freed_empty p sectors s empty = record {
  settled = empty.settled;
  alone = λ q. subst (λ (o : Found). NoneOrGone o) (sym (empty.alone q sectors)) tt;
  slots = λ place lt x is. absurd (none (nat_lt sectors MIN_DEVICE_SECTORS) (read_slot pool_area place s.holds) (empty.no_slot place lt) x is);
}
  where
    none : (b : Bool) (o : Found) → o ≡ None → (x : ℕ × List ℕ) → cond b None o ≡ Some x → ⊥
    none true o no_one x is = absurd (cc)
    none false o no_one x is = absurd (cc)

module _ {D : Type 0} (devs : D → Devices) (moment : D → ℕ) (state_at : D → ℕ → State) (faults : D → ℕ) (law : StartsAlone) (pool : PoolState) (h : HaltedView D)
    (halts : Halts devs moment state_at pool h) (can : can_start pool.mode ≡ true) (most : h.faults ≤ faults h.rack) where
  abbrev R : Devices
  R = devs h.rack

  abbrev s1 : State
  s1 = now moment state_at h.rack

  abbrev c : Image
  c = held s1

  used : sized R h.devs ≡ in_use pool R
  used = uses devs moment state_at pool h halts can

  there_all : (d : Path) → IsOf h.devs d → (n : ℕ) × Has R d n
  there_all = there devs moment state_at pool h halts can

  later_le : (a b n : ℕ) → a ≤ b → b ≤ n → a ≤ n
  later_le a b n one two = omega (arith, one, two)

  -- of what call in flight no record was found
  abbrev Unmade : Type 0
  Unmade = (alone_start pool R (Before []) ≡ Some (refused PoolVanished, record (engine_of pool R) { pools = [] })) × (pool.commits ≡ 0)

  unmade_by : (k : Books) (call : Option Call) → pool ≡ halted (pool_with k call (λ p i. 0)) → Flies k h.devs call → IsMaking call → Unmade
  unmade_by k (Some (CreatePool name list)) was flies making = (
    make_before law R pool name list (ap (λ (q : PoolState). q.mode) was),
    ap (λ (q : PoolState). q.commits) was ∙ flies.2,
  )
  unmade_by k None was flies making = absurd making
  unmade_by k (Some _) was flies making = absurd making

  unmade_as : (f : Option Flight) → IsAs pool R h.devs s1 f → IsUnmade f → Unmade
  unmade_as None quiet unmade = absurd unmade
  unmade_as (Some f) flying unmade = unmade_by f.books f.call (flying.was (λ p i. 0)) flying.call unmade

  -- the call in flight ended it
  module _ (g : ℕ) where
    abbrev Ended : Type 0
    Ended = (alone_start pool R After ≡ Some (refused PoolVanished, record (engine_of pool R) { pools = [] })) × (g ≡ pool.commits + 1)

    ended_by : (k : Books) (call : Option Call) → AreBare k → pool ≡ halted (pool_with k call (λ p i. 0)) → Flies k h.devs call → IsEnding call k g → Ended
    ended_by k (Some (DestroyPool name)) bare was flies ending =
        let is : pool ≡ record (pool_with k (Some (DestroyPool k.rec.name)) (λ p i. 0)) { mode = Unsettled (DestroyPool k.rec.name) } =
        was ∙ ap (λ (x : Text). record (pool_with k (Some (DestroyPool x)) (λ p i. 0)) { mode = Unsettled (DestroyPool x) }) flies in (
          subst (λ (q : PoolState). alone_start q R After ≡ Some (refused PoolVanished, record (engine_of q R) { pools = [] })) (sym is) (end_after law R k bare (λ p i. 0) ending.0),
          ending.1 ∙ ap (λ (q : PoolState). q.commits + 1) (sym was),
        )
    ended_by k None bare was flies ending = absurd ending
    ended_by k (Some _) bare was flies ending = absurd ending

    ended_as : (f : Option Flight) → IsAs pool R h.devs s1 f → IsEnded f g → Ended
    ended_as None quiet ended = absurd ended
    ended_as (Some f) flying ended = ended_by f.books f.call (record { filesystems = flying.filesystems; mappings = flying.mappings }) (flying.was (λ p i. 0)) flying.call ended

  -- a pool with a call in flight stays halted with it
  flying_stays : (r : D) → devs r ≡ R → Keeps moment state_at (Kept pool (devs r)) h.rack r → (f : Option Flight) → IsAs pool R h.devs s1 f → (f ≡ None → ⊥) → (n : ℕ) → Halts devs moment state_at pool (record h { rack = r; flight = f; faults = n })
  flying_stays r same keeps None quiet some n = absurd (some refl)
  flying_stays r same keeps (Some f) flying some n = halts_known devs moment state_at pool h halts can r same keeps f flying n

  some_unmade : (f : Option Flight) → IsUnmade f → f ≡ None → ⊥
  some_unmade None unmade is = unmade
  some_unmade (Some f) unmade is = absurd (cc)

  some_ended : (g : ℕ) (f : Option Flight) → IsEnded f g → f ≡ None → ⊥
  some_ended g None ended is = ended
  some_ended g (Some f) ended is = absurd (cc)

  -- its devices are being cleared
  module _ (newest : Option Newest) (sought : IsSought devs moment state_at h (record { start = starts.Nothing; newest = newest })) (unmade : IsUnmade h.flight)
      (r2 : D) (same : devs r2 ≡ R) (later : faults h.rack ≤ faults r2) (time : Goes moment state_at (AllClearing h.devs) h.rack r2) where
    none_on : newest_over h.serial (sized R h.devs) c ≡ None
    none_on = none_inside h.serial c R (sized R h.devs) sought.rises (sized_in R h.devs there_all) sought.found.start

    clearing_self : AllClearing h.devs s1 s1
    clearing_self = record { here = λ k d at. inl refl; others = λ d not. refl }

    alike : (s : State) → AllClearing h.devs s1 s → StandsAlike h.serial (sized R h.devs) s1 s
    alike s clearing image leaves =
        let one = stands-alike h.serial (sized R h.devs) s1 s
        (λ k d at. sought.settled d (record { index = k; is = subst (λ (l : List Path). slice_get l k ≡ Some d) (paths_sized R h.devs) at })) none_on
        (subst (λ (l : List Path). AllClearing l s1 s) (sym (paths_sized R h.devs)) clearing) image leaves in
        record { image = held s1; left = one.left; same = λ found stands. (one.same found stands, one.others) }

    pub crash_clearing : Keeps moment state_at (Kept pool (devs r2)) h.rack r2
    crash_clearing = kept_since devs moment state_at pool h halts can r2 same
        (goes_keeps moment state_at (AllClearing h.devs) (StandsAlike h.serial (sized R h.devs) s1) h.rack r2 clearing_self alike time)

    pub not_cleared : Rose (faults h.rack) (faults r2) → DidStart devs moment state_at faults pool h (left faulty.Fault (record h { rack = r2 }))
    not_cleared rose =
        left_so devs moment state_at faults law pool h halts can most faulty.Fault r2 h.flight same crash_clearing
        (flying_stays r2 same crash_clearing h.flight halts.is_as (some_unmade h.flight unmade)) later (λ e. rose)

    pub is_cleared : AllCleared h.devs s1 (now moment state_at r2) → Vanishes devs moment state_at faults pool h (Before []) r2
    is_cleared cleared =
        let one = unmade_as h.flight halts.is_as unmade in
        record {
          answers = one.0;
          met = (refl, ap (λ (p : ℕ). commits_in (newest_over p R c)) (sym halts.serial) ∙ ap commits_in sought.found.start ∙ sym one.1);
          same_devs = same;
          crash = crash_clearing;
          own = subst (λ (ds : Devices). IsOwn pool ds) (sym same) halts.own;
          freed = λ k d at. (
              let on : slice_get (in_use pool R) k ≡ Some d = subst (λ (ds : Devices). slice_get (in_use pool ds) k ≡ Some d) same at in
              freed_empty pool.serial d.1 (now moment state_at r2 d.0) (cleared-empty (s1 d.0) (now moment state_at r2 d.0) (cleared.here k d.0 (path_on k d on))));
          counted = later_le h.faults (faults h.rack) (faults r2) most later;
        }
      where
        path_on : (k : ℕ) (d : Path × ℕ) → slice_get (in_use pool R) k ≡ Some d → slice_get h.devs k ≡ Some d.0
        path_on k d on = subst (λ (l : List Path). slice_get l k ≡ Some d.0) halts.on (devices_path (in_use pool R) k d on)

  -- its end was written where it was missing
  module _ (g : ℕ) (newest : Option Newest) (sought : IsSought devs moment state_at h (record { start = starts.Gone g; newest = newest })) (ended : IsEnded h.flight g)
      (r2 : D) (same : devs r2 ≡ R) (later : faults h.rack ≤ faults r2) (during : Keeps moment state_at (StandsAlike h.serial (sized R h.devs) s1) h.rack r2) where
    pub crash_burying : Keeps moment state_at (Kept pool (devs r2)) h.rack r2
    crash_burying = kept_since devs moment state_at pool h halts can r2 same during

    pub not_buried : (fault : SlotFault) → (fault ≡ faulty.Fault → Rose (faults h.rack) (faults r2)) → DidStart devs moment state_at faults pool h (left fault (record h { rack = r2 }))
    not_buried fault rose =
        left_so devs moment state_at faults law pool h halts can most fault r2 h.flight same crash_burying
        (flying_stays r2 same crash_burying h.flight halts.is_as (some_ended g h.flight ended)) later rose

    pub is_buried : ((d : Path) → IsOf h.devs d → IsSettled (now moment state_at r2 d)) → ((k : ℕ) (d : Path × ℕ) → slice_get (sized R h.devs) k ≡ Some d → TellsOfNone h.serial d.1 (now moment state_at r2 d.0).holds) → Vanishes devs moment state_at faults pool h After r2
    is_buried settled tells =
        let one = ended_as g h.flight halts.is_as ended in
        record {
          answers = one.0;
          met = ap (λ (p : ℕ). commits_in (newest_over p R c)) (sym halts.serial) ∙ ap commits_in sought.found.start.1.bears.newest ∙ one.1;
          same_devs = same;
          crash = crash_burying;
          own = subst (λ (ds : Devices). IsOwn pool ds) (sym same) halts.own;
          freed = λ k d at. (
              let on : slice_get (sized R h.devs) k ≡ Some d = subst (λ (ds : Devices). slice_get ds k ≡ Some d) (sym used) (subst (λ (ds : Devices). slice_get (in_use pool ds) k ≡ Some d) same at) in
              let told = tells k d on in
              record {
                settled = settled d.0 (record { index = k; is = subst (λ (l : List Path). slice_get l k ≡ Some d.0) (paths_sized R h.devs) (devices_path (sized R h.devs) k d on) });
                alone = told.alone;
                slots = λ place lt x is. told.slots place lt x is ∙ halts.serial;
              });
          counted = later_le h.faults (faults h.rack) (faults r2) most later;
        }
