-- From what a start found and wrote to what it promises.
use Rattle.std.proofs.Common.{◌≡◌, ◌≢◌, inl, inr, ℕ, zero, suc, ◌+◌, ◌-◌, ◌^◌, ◌≤◌, ◌<◌, ◌==◌, min, Bool, true, false, bytes_eq, List, [], ◌∷◌, map, length, unwrap_or, Option, Some, None, Result, Ok, Err, IfOk, refl, sym, ◌∙◌, ap, subst, append-nil, arith}
use Rattle.std.specs.List.{slice_get, AllByRecursion}
use Rattle.st_limits.specs.declared.TheConstants.{MAX_COMMITS, MAX_DEVICE_SECTORS, MAX_POOL_DEVICES, MIN_DEVICE_SECTORS}
use Rattle.st_limits.specs.Sums.{IsDeviceSize}
use Rattle.st_units.specs.Causes.{Rose}
use Rattle.st_units.specs.declared.rows.DevRow.{DevRow}
use Rattle.st_units.specs.declared.rows.Tier.TheVariants.{DataTier}
use Rattle.st_units.specs.declared.cause.Cause.TheVariants.{DeviceFault, PoolVanished}
use Rattle.st_fields.specs.Slot.{Found}
use Rattle.st_poolrec.specs.declared.record.PoolRec.{PoolRec}
use Rattle.st_poolrec.specs.Record as pools
use Rattle.st_model.specs.declared.call.Call.{Call}
use Rattle.st_model.specs.declared.call.Call.TheVariants.{CreatePool, DestroyPool, RenamePool}
use Rattle.st_model.specs.declared.entry.Env.{Env}
use Rattle.st_model.specs.declared.entry.Env.TheVariants.{Plain, NoMem, FaultRead, FaultWrite, After, Before}
use Rattle.st_model.specs.declared.info.PoolInfo.{PoolInfo}
use Rattle.st_model.specs.declared.state.PoolMode.TheVariants.{Up, Unsettled}
use Rattle.st_model.specs.declared.state.PoolState.{PoolState}
use Rattle.st_model.specs.Answer.{refused}
use Rattle.st_model.specs.Checks.{halted}
use Rattle.st_model.specs.Look.{Text, distinct, flight_of}
use Rattle.st_model.specs.Shown.{pool_info}
use Rattle.st_model.specs.Step.{can_start}
use Rattle.st_model.specs.steps.CreatePool.{create_answer, data_rows}
use Rattle.st_model.specs.steps.StartPool.{started_reply}
use Rattle.st_rack.specs.Device.{Path, State, Image, held}
use Rattle.st_rack.specs.Calls.{Devices, Has, Rises, names, size_in}
use Rattle.st_rack.specs.Moments.{Keeps}
use Rattle.st_rack.proofs.Moments.{keeps_self}
use Rattle.st_slots.specs.declared.spot.SlotFault.{SlotFault}
use Rattle.st_slots.specs.declared.spot.SlotFault.TheVariants as faulty
use Rattle.st_deltalog.specs.Bearing.{IsSettled}
use Rattle.st_commit.specs.Ready.{AreDistinct, IsOf}
use Rattle.st_image.specs.Bears.{newest_over, paths}
use Rattle.st_image.specs.Kept.{Kept, as_pair, in_use}
use Rattle.st_image.specs.Survivors.{row_of}
use Rattle.st_image.specs.Rack.{IsSerial}
use Rattle.st_image.specs.Stands.{StandsFor, state_of}
use Rattle.st_image.proofs.Unique.{stands_once}
use Rattle.st_books.specs.declared.books.Books.{Books}
use Rattle.st_books.specs.Ready.{AreReady, AreThere, rows_of, stood}
use Rattle.st_onestart.specs.Alone.{StartsAlone, none_in}
use Rattle.st_starting.specs.declared.finding.Newest.{Newest}
use Rattle.st_starting.specs.declared.outcome.Start.TheVariants as starts
use Rattle.st_starting.specs.Alike.{StandsAlike}
use Rattle.st_starting.specs.Found.{AreBorne, sized}
use Rattle.st_starting.proofs.Devices.{none_some, paths_sized, some_same}
use Rattle.st_starting.proofs.Finished.{books_stand}
use Rattle.st_told.specs.Met as met
use Rattle.st_told.specs.Told.{AreFirst, AreLike}
use Rattle.st_told.proofs.Small.{few_rows, sizes_fit, some_rows}
use Rattle.st_pool.specs.declared.flight.Flight.{Flight}
use Rattle.st_pool.specs.declared.started.Started.{Started}
use Rattle.st_pool.specs.declared.started.Started.TheVariants as did
use Rattle.st_pool.specs.Answered.{counted}
use Rattle.st_pool.specs.Flights.{Flies}
use Rattle.st_pool.specs.Halts.{Halts, HaltedView, IsAs, IsFlying, IsQuiet}
use Rattle.st_pool.specs.Known.{IsPool, IsUp}
use Rattle.st_pool.specs.Starts.{DidStart, IsMet, StartFails, StartRefused, Starts, StaysHalted, alone_start, commits_in}
use Rattle.st_pool.specs.View.{IsOwn, PoolView, engine_of, now, pool_with, view_of}
use Rattle.st_pool.specs.inner.Makings.{new_rows}
use Rattle.st_pool.specs.inner.Wakings.{IsSought, IsTold, known, left}
use Rattle.st_pool.proofs.Creating.{MayMake, distinct_self, no_answer, same_rows}
use Rattle.st_pool.proofs.Idle.{halts_known, kept_since, once, there, uses}
use Rattle.st_pool.proofs.Standing.{recorded_is, rows_are, up_kept}
use Rattle.st_pool.proofs.Woken.{AreBare, end_before, fails, like_with, make_after, plain_start, rename_after, rename_before}

least : (n before after : ℕ) → n ≤ before → min (before + 1) (2 ^ 64 - 1) ≤ after → min (n + 1) (2 ^ 64 - 1) ≤ after
least n before after le more = omega (arith, le, more)

pub later_le : (a b n : ℕ) → a ≤ b → b ≤ n → a ≤ n
later_le a b n one two = omega (arith, one, two)

module _ {D : Type 0} (devs : D → Devices) (moment : D → ℕ) (state_at : D → ℕ → State) (faults : D → ℕ) (law : StartsAlone) (pool : PoolState) (h : HaltedView D)
    (halts : Halts devs moment state_at pool h) (can : can_start pool.mode ≡ true) (most : h.faults ≤ faults h.rack) where
  -- nothing was done
  pub left_alone : DidStart devs moment state_at faults pool h (did.NoMemory h)
  left_alone = record {
    counts = refl;
    most = most;
    stays = record { halts = halts; serial = refl; on = refl; same_devs = refl; crash = keeps_self moment state_at (Kept pool (devs h.rack)) h.rack halts.kept };
  }

  -- a device failed, or memory was refused
  pub left_so : (fault : SlotFault) (r : D) (f : Option Flight) → devs r ≡ devs h.rack → Keeps moment state_at (Kept pool (devs r)) h.rack r → ((n : ℕ) → Halts devs moment state_at pool (record h { rack = r; flight = f; faults = n }))
      → faults h.rack ≤ faults r → (fault ≡ faulty.Fault → Rose (faults h.rack) (faults r)) → DidStart devs moment state_at faults pool h (left fault (record h { rack = r; flight = f }))
  left_so faulty.Fault r f same keeps still later rose = record {
    answers = fails law (devs h.rack) pool can;
    cause = rose refl;
    counts = refl;
    most = least h.faults (faults h.rack) (faults r) most (rose refl);
    stays = record { halts = still (counted true h.faults); serial = refl; on = refl; same_devs = same; crash = keeps };
  }
  left_so faulty.OutOfMemory r f same keeps still later rose = record {
    counts = refl;
    most = later_le h.faults (faults h.rack) (faults r) most later;
    stays = record { halts = still h.faults; serial = refl; on = refl; same_devs = same; crash = keeps };
  }

-- rows of data devices with these paths, as the rack has them
rows_new : (rack : Devices) (rows : List DevRow) (list : List Path) → map as_pair rows ≡ sized rack list → AllByRecursion (λ (row : DevRow). row.tier ≡ DataTier) rows → rows ≡ new_rows rack list
rows_new rack [] [] on data_rows = refl
rows_new rack [] (d ∷ ds) on data_rows = absurd (cc)
rows_new rack (row ∷ rows) [] on data_rows = absurd (cc)
rows_new rack (row ∷ rows) (d ∷ ds) on data_rows =
    let here : as_pair row ≡ (d, size_in rack d) = cc in
    let behind : map as_pair rows ≡ sized rack ds = cc in
    let rest = rows_new rack rows ds behind data_rows.1 in
    (λ i. record { path = (here i).0; tier = data_rows.0 i; sectors = (here i).1 } ∷ rest i)

length_rows : (rack : Devices) (list : List Path) → length (new_rows rack list) ≡ length list
length_rows rack [] = refl
length_rows rack (d ∷ ds) = ap suc (length_rows rack ds)

fit_at : (rack : Devices) (list : List Path) → AllByRecursion (λ (row : DevRow). (MIN_DEVICE_SECTORS ≤ row.sectors) × (row.sectors ≤ MAX_DEVICE_SECTORS)) (new_rows rack list) → (d : Path) (k : ℕ) → slice_get list k ≡ Some d → (MIN_DEVICE_SECTORS ≤ size_in rack d) × (size_in rack d ≤ MAX_DEVICE_SECTORS)
fit_at rack [] all d k is = absurd (none_some d is)
fit_at rack (e ∷ es) all d zero is = subst (λ (q : Path). (MIN_DEVICE_SECTORS ≤ size_in rack q) × (size_in rack q ≤ MAX_DEVICE_SECTORS)) (some_same e d is) all.0
fit_at rack (e ∷ es) all d (suc k) is = fit_at rack es all.1 d k is

module _ {D : Type 0} (devs : D → Devices) (moment : D → ℕ) (state_at : D → ℕ → State) (faults : D → ℕ) (law : StartsAlone) (pool : PoolState) (h : HaltedView D)
    (halts : Halts devs moment state_at pool h) (can : can_start pool.mode ≡ true) (b : Books) (newest : Option Newest) (sought : IsSought devs moment state_at h (record { start = starts.Ready b; newest = newest })) where
  abbrev R : Devices
  R = devs h.rack

  abbrev c : Image
  c = held (now moment state_at h.rack)

  borne : AreBorne h.serial R h.devs c b.generation b.rec b.flex
  borne = sought.found.start

  bare : AreBare b
  bare = record { filesystems = borne.bare.filesystems; mappings = borne.bare.mappings }

  own_serial : pool.serial ≡ b.rec.serial
  own_serial = sym halts.serial ∙ sym borne.here.bears.serial

  used : sized R h.devs ≡ in_use pool R
  used = uses devs moment state_at pool h halts can

  -- the newest record's commits
  newest_is : (n : ℕ) → b.generation ≡ n → commits_in (newest_over pool.serial R c) ≡ n
  newest_is n is = ap (λ (p : ℕ). commits_in (newest_over p R c)) (sym halts.serial) ∙ ap commits_in borne.here.bears.newest ∙ is

  some_inj : (x y : PoolState) → Some x ≡ Some y → x ≡ y
  some_inj x y e = cc

  quiet_is : (m : Image) → IsQuiet pool R h.devs (now moment state_at h.rack) → pool ≡ stood b m
  quiet_is m quiet =
      some_inj pool (stood b m) (stands_once pool.serial (in_use pool R) c (Some pool) (Some (stood b m)) quiet.stands
      (subst (λ (x : ℕ × Devices). StandsFor x.0 x.1 c (Some (stood b m))) (λ i. (halts.serial i, used i))
      (books_stand h.serial R h.devs sought.rises (there devs moment state_at pool h halts can) c b m borne)))

  -- the answer, and what was met
  abbrev Told : Env → Image → Type 0
  Told env n = (alone_start pool R env ≡ Some (started_reply pool, engine_of (pool_with b None n) R)) × IsMet pool R c env

  told_as : (env other : Env) (n : Image) → env ≡ other → Told other n → Told env n
  told_as env other n is told = subst (λ (e : Env). Told e n) (sym is) told

  module _ (k : Books) (bare_k : AreBare k) (n : Image) where
    abbrev flown : Call → PoolState
    flown call = record (pool_with k (Some call) n) { mode = Unsettled call }

    known_is : pool ≡ halted (pool_with k None n) → AreLike k.rec.name k.generation k b → Told Plain n
    known_is was like =
        let is : pool ≡ stood k n = was ∙ recorded_is k n None in (
          subst (λ (q : PoolState). alone_start q R Plain ≡ Some (started_reply q, engine_of (pool_with b None n) R)) (sym is)
              (plain_start law R k bare_k n ∙ ap (λ (q : PoolState). Some (started_reply (stood k n), engine_of q R)) (sym (like_with k.rec.name k.generation k b n n bare_k bare like))),
          ap (λ (q : PoolState). flight_of q.mode) was,
        )

    -- found as it was
    unchanged_is : (call : Call) → pool ≡ flown call → AreLike k.rec.name k.generation k b
        → alone_start (flown call) R (Before []) ≡ Some (started_reply (flown call), engine_of (pool_with b None n) R) → Told (Before []) n
    unchanged_is call was like answers = (
      subst (λ (q : PoolState). alone_start q R (Before []) ≡ Some (started_reply q, engine_of (pool_with b None n) R)) (sym was) answers,
      (refl, newest_is pool.commits (like.generation ∙ sym (ap (λ (q : PoolState). q.commits) was))),
    )

    renamed_is : (name new : Text) → name ≡ k.rec.name → pool ≡ flown (RenamePool name new) → bytes_eq k.rec.name new ≡ false → k.generation < MAX_COMMITS → AreLike new (k.generation + 1) k b → Told After n
    renamed_is name new own was other less like = (
      subst (λ (q : PoolState). alone_start q R After ≡ Some (started_reply q, engine_of (pool_with b None n) R)) (sym was)
          (subst (λ (x : Text). alone_start (flown (RenamePool x new)) R After ≡ Some (started_reply (flown (RenamePool x new)), engine_of (pool_with b None n) R)) (sym own) (rename_after law R k b bare_k bare n n new other less like)),
      newest_is (pool.commits + 1) (like.generation ∙ ap (λ (q : PoolState). q.commits + 1) (sym was)),
    )

    rows_are_new : AllByRecursion (λ (row : DevRow). row.tier ≡ DataTier) b.rec.devs → b.rec.devs ≡ new_rows R h.devs
    rows_are_new data_rows = rows_new R b.rec.devs h.devs borne.on data_rows

    may_make : AllByRecursion (λ (row : DevRow). row.tier ≡ DataTier) b.rec.devs → MayMake h.devs R
    may_make data_rows =
        let same = rows_are_new data_rows in
        let valid = borne.here.bears.is.valid in
        let size : length b.rec.devs ≡ length h.devs = ap length same ∙ length_rows R h.devs in
        let fits = subst (λ (rows : List DevRow). AllByRecursion (λ (row : DevRow). (MIN_DEVICE_SECTORS ≤ row.sectors) × (row.sectors ≤ MAX_DEVICE_SECTORS)) rows) same (sizes_fit b.rec valid) in
        record {
          some = subst (λ (l : ℕ). 1 ≤ l) size (some_rows b.rec valid);
          few = subst (λ (l : ℕ). l ≤ MAX_POOL_DEVICES) size (few_rows b.rec valid);
          own = once devs moment state_at pool h halts can;
          each = λ d of. (let one = there devs moment state_at pool h halts can d of in (one.0, one.1, subst (λ (l : ℕ). IsDeviceSize l) (ap (λ (o : Option ℕ). unwrap_or o 0) one.1) (fit_at R h.devs fits d of.index of.is)));
        }

    made_is : (name : Text) (list : List Path) → list ≡ h.devs → k.generation ≡ 0 → pool ≡ flown (CreatePool name list) → IsSerial pool.serial → AreFirst name b → Told After n
    made_is name list on zero_is was serial first =
        let may = may_make first.rows in
        let mode : pool.mode ≡ Unsettled (CreatePool name list) = ap (λ (q : PoolState). q.mode) was in (
          make_after law R pool name list b n mode own_serial bare first
              (ap (λ (l : List Path). create_answer (none_in (map row_of R) pool.serial) name l) on ∙ no_answer pool.serial name h.devs R may serial.until)
              (ap (λ (l : List Path). data_rows (map row_of R) (distinct l)) on ∙ ap (λ (l : List Path). data_rows (map row_of R) l) (distinct_self h.devs may.own) ∙ same_rows R h.devs ∙ sym (rows_are_new first.rows)),
          newest_is (pool.commits + 1) (first.generation ∙ sym (ap (λ (g : ℕ). g + 1) (ap (λ (q : PoolState). q.commits) was ∙ zero_is))),
        )

    flight_told : (env : Env) (call : Option Call) → pool ≡ halted (pool_with k call n) → Flies k h.devs call → IsSerial pool.serial → met.IsMet call k b env → Told env n
    flight_told env None was flies serial told = told_as env Plain n told.0 (known_is was told.1)
    flight_told env (Some (CreatePool name list)) was flies serial told = told_as env After n told.0 (made_is name list flies.3 flies.2 was serial told.1)
    flight_told env (Some (DestroyPool name)) was flies serial told = told_as env (Before []) n told.0 (unchanged_is (DestroyPool name) was told.1 (end_before law R k b bare_k bare n n name told.1))
    flight_told env (Some (RenamePool name new)) was flies serial (inl told) = told_as env (Before []) n told.0 (unchanged_is (RenamePool name new) was told.1 (rename_before law R k b bare_k bare n n name new told.1))
    flight_told env (Some (RenamePool name new)) was flies serial (inr told) = told_as env After n told.0 (renamed_is name new flies was told.1 told.2 told.3)
    flight_told env (Some _) was flies serial told = absurd told

  is_told : (env : Env) (f : Option Flight) → IsAs pool R h.devs (now moment state_at h.rack) f → IsSerial pool.serial → IsTold f b env → (n : Image) → Told env n
  is_told env None quiet serial told n = told_as env Plain n told
      (subst (λ (q : PoolState). alone_start q R Plain ≡ Some (started_reply q, engine_of (pool_with b None n) R)) (sym (quiet_is n quiet)) (plain_start law R b bare n), quiet.flight)
  is_told env (Some f) flying serial told n = flight_told f.books (record { filesystems = flying.filesystems; mappings = flying.mappings }) n env f.call (flying.was n) flying.call serial told

  -- its books are known now
  stays_known : (f : Option Flight) → IsAs pool R h.devs (now moment state_at h.rack) f → IsSerial pool.serial → IsFlying pool h.devs (known f b)
  stays_known None quiet serial = record {
    serial = subst (λ (p : ℕ). IsSerial p) own_serial serial;
    once = once devs moment state_at pool h halts can;
    filesystems = bare.filesystems;
    mappings = bare.mappings;
    call = tt;
    was = λ m. quiet_is m quiet ∙ sym (recorded_is b m None);
  }
  stays_known (Some f) flying serial = flying

  -- the records were written where they were missing
  module _ (serial : IsSerial h.serial) (most : h.faults ≤ faults h.rack) (r2 : D) (same : devs r2 ≡ R) (later : faults h.rack ≤ faults r2)
      (during : Keeps moment state_at (StandsAlike h.serial (sized R h.devs) (now moment state_at h.rack)) h.rack r2) where
    abbrev s2 : State
    s2 = now moment state_at r2

    pub crash_since : Keeps moment state_at (Kept pool (devs r2)) h.rack r2
    crash_since = kept_since devs moment state_at pool h halts can r2 same during

    pool_serial : IsSerial pool.serial
    pool_serial = subst (λ (p : ℕ). IsSerial p) halts.serial serial

    -- or were not: then its books are known
    pub not_woken : (fault : SlotFault) → (fault ≡ faulty.Fault → Rose (faults h.rack) (faults r2)) → DidStart devs moment state_at faults pool h (left fault (record h { rack = r2; flight = Some (known h.flight b) }))
    not_woken fault rose =
        left_so devs moment state_at faults law pool h halts can most fault r2 (Some (known h.flight b)) same crash_since
        (λ n. halts_known devs moment state_at pool h halts can r2 same crash_since (known h.flight b) (stays_known h.flight halts.is_as pool_serial) n) later rose

    module _ (ready : AreReady b s2) (settled : (d : Path) → IsOf h.devs d → IsSettled (s2 d)) where
      rows_on : paths (rows_of b.rec) ≡ h.devs
      rows_on = ap paths borne.on ∙ paths_sized R h.devs

      is_up : IsUp b s2 s2
      is_up = record { ready = ready; settled = λ d of. settled d (subst (λ (l : List Path). IsOf l d) rows_on of); alive = borne.here.alive; same = refl }

      abbrev new : PoolState
      new = pool_with b None (held s2)

      uses_new : in_use new (devs r2) ≡ rows_of b.rec
      uses_new = rows_are b (held s2) None (devs r2) refl

      same_use : in_use pool R ≡ in_use new (devs r2)
      same_use = sym used ∙ sym borne.on ∙ sym uses_new

      own_new : IsOwn new (devs r2)
      own_new = record {
        there = subst (λ (x : Devices × Devices). AreThere x.0 x.1) (λ i. (sym same i, same_use i)) halts.own.there;
        alone = λ p n has. subst (λ (ds : Devices). names (paths ds) p ≡ true) same_use (halts.own.alone p n (subst (λ (ds : Devices). Has ds p n) same has));
      }

      on_new : paths (in_use new (devs r2)) ≡ h.devs
      on_new = ap paths uses_new ∙ rows_on

      pub pool_woken : (own other : PoolInfo) → own ≡ pool_info new → other ≡ pool_info new → IsPool devs moment state_at faults b None h.devs own (Some other) r2 r2 h.faults
      pool_woken own other own_is other_is = record {
        serial = subst (λ (p : ℕ). IsSerial p) (sym borne.here.bears.serial) serial;
        filesystems = bare.filesystems;
        mappings = bare.mappings;
        flies = tt;
        is_on = record { on = on_new; once = once devs moment state_at pool h halts can; own = own_new; info = own_is; spare_info = other_is };
        stands = is_up;
        count_is = later_le h.faults (faults h.rack) (faults r2) most later;
      }

      pub is_woken : (env : Env) → IsTold h.flight b env → Starts devs moment state_at faults pool h env (view_of moment state_at b None true r2 r2 h.faults)
      is_woken env told =
          let one = is_told env h.flight halts.is_as pool_serial told (held s2) in
          record {
            answers = one.0;
            met = one.1;
            serial = sym own_serial;
            up = refl;
            on = on_new;
            counts = refl;
            most = later_le h.faults (faults h.rack) (faults r2) most later;
            same_devs = same;
            crash = crash_since;
            kept = up_kept b (devs r2) s2 s2 is_up;
            own = own_new;
            spare = refl;
          }

pub counted_le : (n before after : ℕ) → n ≤ before → Rose before after → counted true n ≤ after
counted_le n before after le rose = least n before after le rose

-- what an `Ok` bears may be said otherwise
pub if_twins : {T E : Type 0} {P : T → Type 0} (Q : T → Type 0) (r : Result T E) → ((t : T) → P t → Q t) → IfOk r P → IfOk r Q
if_twins Q (Ok t) each is = each t is
if_twins Q (Err e) each is = tt
