-- What is known of the devices of a halted pool that can be started.
use Rattle.std.proofs.Common.{◌≡◌, inl, inr, ℕ, zero, suc, ◌≤◌, Bool, true, false, List, [], ◌∷◌, map, unwrap_or, Option, Some, None, refl, sym, ◌∙◌, ap, subst, append-nil, arith}
use Rattle.std.specs.List.{slice_get}
use Rattle.st_units.specs.declared.rows.DevRow.{DevRow}
use Rattle.st_poolrec.specs.declared.record.PoolRec.{PoolRec}
use Rattle.st_fields.specs.Slot.{Found}
use Rattle.st_model.specs.declared.call.Call.{Call}
use Rattle.st_model.specs.declared.state.PoolMode.{PoolMode}
use Rattle.st_model.specs.declared.state.PoolMode.TheVariants.{Up, Down, Stopped, Unsettled, Incomplete}
use Rattle.st_model.specs.declared.state.PoolState.{PoolState}
use Rattle.st_model.specs.Look.{flight_of}
use Rattle.st_model.specs.Merged.{merged}
use Rattle.st_model.specs.Step.{can_start}
use Rattle.st_rack.specs.Story.{Content, Meant, Story, unsettled}
use Rattle.st_rack.specs.Device.{Path, DevState, State, Image, Settling, held}
use Rattle.st_rack.specs.Calls.{Devices, Has, size_in}
use Rattle.st_rack.specs.Left.{LeftOn}
use Rattle.st_rack.specs.Moments.{Goes, Keeps}
use Rattle.st_rack.proofs.Moments.{at_end, keeps_weak}
use Rattle.st_deltalog.specs.Bearing.{IsSettled}
use Rattle.st_commit.specs.Ready.{AreDistinct, IsOf, Settles}
use Rattle.st_commit.proofs.Onward.{settles_self}
use Rattle.st_image.specs.Bears.{paths}
use Rattle.st_image.specs.Kept.{Kept, KeptIn, LeftInUse, as_pair, in_use, look_for}
use Rattle.st_image.specs.Left.{LeftOf, first_sectors}
use Rattle.st_image.specs.Looks.{Look, look_of}
use Rattle.st_image.specs.Stands.{StandsFor, IsFound, IsLacking, lacking_of, state_of}
use Rattle.st_books.specs.Ready.{AreThere, rows_of}
use Rattle.st_books.proofs.Lying.{own_paths}
use Rattle.st_starting.specs.Alike.{StandsAlike}
use Rattle.st_starting.specs.Found.{sized}
use Rattle.st_starting.proofs.Synced.{synced_alike}
use Rattle.st_pool.specs.declared.flight.Flight.{Flight}
use Rattle.st_pool.specs.Halts.{Halts, HaltedView, IsAs, IsFlying, IsQuiet}
use Rattle.st_pool.specs.View.{IsOwn, now}
use Rattle.st_pool.proofs.Halting.{there_paths}

-- it is stopped, or unsettled
pub by_mode : (P : PoolMode → Type 0) (mode : PoolMode) → can_start mode ≡ true → P Stopped → ((call : Call) → P (Unsettled call)) → P mode
by_mode P Up can stopped unsettled = absurd (cc)
by_mode P (Down call) can stopped unsettled = absurd (cc)
by_mode P Stopped can stopped unsettled = stopped
by_mode P (Unsettled call) can stopped unsettled = unsettled call
by_mode P (Incomplete path) can stopped unsettled = absurd (cc)

-- the devices of a list with the sizes that the rack gives them
pub sized_there : (rack ds : Devices) → AreThere rack ds → sized rack (paths ds) ≡ ds
sized_there rack [] there = refl
sized_there rack (d ∷ ds) there =
    let here : size_in rack d.0 ≡ d.1 = ap (λ (o : Option ℕ). unwrap_or o 0) (there 0 d refl) in
    let rest = sized_there rack ds (λ k e at. there (suc k) e at) in
    (λ i. (d.0, here i) ∷ rest i)

-- the devices of a stopped pool are its rows
stopped_rows : (pool : PoolState) (rack : Devices) → pool.mode ≡ Stopped → in_use pool rack ≡ map as_pair pool.devices
stopped_rows pool rack is = ap (λ (m : PoolMode). in_use (record pool { mode = m }) rack) is ∙ append-nil (map as_pair pool.devices)

quiet_mode : (mode : PoolMode) → can_start mode ≡ true → flight_of mode ≡ None → mode ≡ Stopped
quiet_mode mode can = by_mode (λ (m : PoolMode). flight_of m ≡ None → m ≡ Stopped) mode can (λ e. refl) (λ call e. absurd (cc))

module _ (pool : PoolState) (rack : Devices) (list : List Path) (s : State) (on : paths (in_use pool rack) ≡ list) (there : AreThere rack (in_use pool rack)) (can : can_start pool.mode ≡ true) where
  quiet_once : IsQuiet pool rack list s → AreDistinct list
  quiet_once quiet = by quiet.stands
    where
      by : StandsFor pool.serial (in_use pool rack) (held s) (Some pool) → AreDistinct list
      by (inl found) =
          let rec = found.1 in
          let rows : in_use pool rack ≡ rows_of rec = stopped_rows pool rack (quiet_mode pool.mode can quiet.flight) ∙ ap (λ (q : PoolState). map as_pair q.devices) found.4 in
          subst (λ (l : List Path). AreDistinct l) (ap paths (sym rows) ∙ on)
          (own_paths rec found.3.bears.record_of.is rack (subst (λ (ds : Devices). AreThere rack ds) rows there))
      by (inr lacking) = absurd (never pool.mode can (ap (λ (q : PoolState). q.mode) lacking.4))
        where
          never : (m : PoolMode) → can_start m ≡ true → m ≡ Incomplete lacking.2 → ⊥
          never m can_be is = let no_start : can_start m ≡ false = ap can_start is in cc

  once_of : (f : Option Flight) → IsAs pool rack list s f → AreDistinct list
  once_of None quiet = quiet_once quiet
  once_of (Some f) flying = flying.once

module _ {D : Type 0} (devs : D → Devices) (moment : D → ℕ) (state_at : D → ℕ → State) (pool : PoolState) (h : HaltedView D) (halts : Halts devs moment state_at pool h) (can : can_start pool.mode ≡ true) where
  -- each device once
  pub once : AreDistinct h.devs
  once = once_of pool (devs h.rack) h.devs (now moment state_at h.rack) halts.on halts.own.there can h.flight halts.is_as

  pub there : (d : Path) → IsOf h.devs d → (n : ℕ) × Has (devs h.rack) d n
  there d of = there_paths (devs h.rack) (in_use pool (devs h.rack)) halts.own.there of.index d (ap (λ (l : List Path). slice_get l of.index) halts.on ∙ of.is)

  -- those in use, as a start sees them
  pub uses : sized (devs h.rack) h.devs ≡ in_use pool (devs h.rack)
  uses = ap (sized (devs h.rack)) (sym halts.on) ∙ sized_there (devs h.rack) (in_use pool (devs h.rack)) halts.own.there

self_le : (n : ℕ) → n ≤ n
self_le n = omega arith

-- a pool that isn't up is read as any
reads : (mode : PoolMode) → can_start mode ≡ true → look_for mode ≡ look_of
reads mode can = by_mode (λ (m : PoolMode). look_for m ≡ look_of) mode can refl (λ call. refl)

not_up : (mode : PoolMode) → can_start mode ≡ true → mode ≡ Up → ⊥
not_up mode can is = let no_start : can_start mode ≡ false = ap can_start is in cc

-- What its devices stand for, a crash at the start could leave: so the pool is kept.
pub kept_alike : (pool : PoolState) (ds : Devices) (a s : State) → can_start pool.mode ≡ true → Kept pool ds a → StandsAlike pool.serial (in_use pool ds) a s → Kept pool ds s
kept_alike pool ds a s can kept alike = record {
  all = λ c leaves. (
      let was = alike c (subst (λ (r : ℕ → ℕ → ℕ → Look → Content → Found). LeftOn (paths (in_use pool ds)) (r pool.serial (first_sectors (in_use pool ds))) s c) (reads pool.mode can) leaves) in
      let before : KeptIn pool ds was.image = kept.all was.image (subst (λ (r : ℕ → ℕ → ℕ → Look → Content → Found). LeftOn (paths (in_use pool ds)) (r pool.serial (first_sectors (in_use pool ds))) a was.image) (sym (reads pool.mode can)) was.left) in
      let same = was.same before.found before.stands in
      record {
        found = before.found;
        stands = same.0;
        kept = before.kept;
        borne = λ up. absurd (not_up pool.mode can up);
        others = same.1 before.others;
      });
}

-- a sync leaves a device settled on which nothing was pending
pub settled_on : (a b : DevState) → Settling a b → IsSettled a → IsSettled b
settled_on a b step settled = elim step.told [
  | inl told ↦ record {
    meant = λ m meant. settled.meant m (subst (λ (y : Story). Meant y m) told meant) ∙ sym step.same;
    sure = λ i. ap (λ (y : Story). unsettled y i) told ∙ settled.sure i;
  }
  | inr told ↦ record {
    meant = λ m meant. subst (λ (y : Story). Meant y m) told meant ∙ sym step.same;
    sure = λ i. ap (λ (y : Story). unsettled y i) told;
  }
]

module _ {D : Type 0} (devs : D → Devices) (moment : D → ℕ) (state_at : D → ℕ → State) (pool : PoolState) (h : HaltedView D) (halts : Halts devs moment state_at pool h) (can : can_start pool.mode ≡ true) where
  abbrev at : D → State
  at r = now moment state_at r

  -- whatever a crash leaves since, it is kept
  pub kept_since : (r : D) → devs r ≡ devs h.rack → Keeps moment state_at (StandsAlike h.serial (sized (devs h.rack) h.devs) (at h.rack)) h.rack r → Keeps moment state_at (Kept pool (devs r)) h.rack r
  kept_since r same keeps =
      keeps_weak moment state_at (StandsAlike h.serial (sized (devs h.rack) h.devs) (at h.rack)) (Kept pool (devs r)) h.rack r each keeps
    where
      each : (s : State) → StandsAlike h.serial (sized (devs h.rack) h.devs) (at h.rack) s → Kept pool (devs r) s
      each s alike =
          subst (λ (ds : Devices). Kept pool ds s) (sym same)
          (kept_alike pool (devs h.rack) (at h.rack) s can halts.kept
          (subst (λ (x : ℕ × Devices). StandsAlike x.0 x.1 (at h.rack) s) (λ i. (halts.serial i, uses devs moment state_at pool h halts can i)) alike))

  pub last_kept : (r : D) → Keeps moment state_at (Kept pool (devs r)) h.rack r → Kept pool (devs r) (at r)
  last_kept r keeps = keeps.all (moment r) keeps.later (self_le (moment r))

  -- it stands for the pool where the devices were synced at most
  module _ (r : D) (same : devs r ≡ devs h.rack) (time : Goes moment state_at Settles h.rack r) where
    last : Settles (at h.rack) (at r)
    last = at_end moment state_at Settles h.rack r (settles_self (at h.rack)) time

    image : held (at r) ≡ held (at h.rack)
    image = λ i d. (last d).same i

    as_synced : (f : Option Flight) → IsAs pool (devs h.rack) h.devs (at h.rack) f → IsAs pool (devs h.rack) h.devs (at r) f
    as_synced None quiet = record {
      flight = quiet.flight;
      settled = λ d of. settled_on (at h.rack d) (at r d) (last d) (quiet.settled d of);
      stands = subst (λ (c : Image). StandsFor pool.serial (in_use pool (devs h.rack)) c (Some pool)) (sym image) quiet.stands;
    }
    as_synced (Some f) flying = flying

    pub searched_keeps : Keeps moment state_at (Kept pool (devs r)) h.rack r
    searched_keeps = kept_since r same (synced_alike moment state_at h.serial (sized (devs h.rack) h.devs) h.rack r time)

    pub halts_searched : (n : ℕ) → Halts devs moment state_at pool (record h { rack = r; faults = n })
    halts_searched n = record {
      idle = halts.idle;
      serial = halts.serial;
      on = subst (λ (ds : Devices). paths (in_use pool ds) ≡ h.devs) (sym same) halts.on;
      own = subst (λ (ds : Devices). IsOwn pool ds) (sym same) halts.own;
      is_as = subst (λ (ds : Devices). IsAs pool ds h.devs (at r) h.flight) (sym same) (as_synced h.flight halts.is_as);
      kept = last_kept r searched_keeps;
    }

  -- and where its books are known, whatever was done since
  pub halts_known : (r : D) → devs r ≡ devs h.rack → Keeps moment state_at (Kept pool (devs r)) h.rack r → (f : Flight) → IsFlying pool h.devs f → (n : ℕ) → Halts devs moment state_at pool (record h { rack = r; flight = Some f; faults = n })
  halts_known r same keeps f flying n = record {
    idle = halts.idle;
    serial = halts.serial;
    on = subst (λ (ds : Devices). paths (in_use pool ds) ≡ h.devs) (sym same) halts.on;
    own = subst (λ (ds : Devices). IsOwn pool ds) (sym same) halts.own;
    is_as = flying;
    kept = last_kept r keeps;
  }
