-- A pool that stops.
use Rattle.std.proofs.Common.{◌≡◌, inl, inr, ℕ, zero, suc, ◌≤◌, Bool, true, false, ◌||◌, cond, bytes_eq, option_map, List, [], ◌∷◌, Option, Some, None, refl, sym, ◌∙◌, ap, subst, arith}
use Rattle.std.specs.List.{slice_get}
use Rattle.std.proofs.lemmas.Slice.Eq.{bytes_eq-Decides}
use Rattle.st_flexlog.specs.declared.state.Mapping.{Mapping}
use Rattle.st_model.specs.declared.call.Call.{Call}
use Rattle.st_model.specs.declared.call.Call.TheVariants.{StopPool}
use Rattle.st_model.specs.declared.entry.Env.TheVariants.{Plain}
use Rattle.st_model.specs.declared.info.PoolInfo.{PoolInfo}
use Rattle.st_model.specs.declared.reply.Given.TheVariants.{Changed}
use Rattle.st_model.specs.declared.reply.Identity.TheVariants.{Pool}
use Rattle.st_model.specs.declared.state.PoolState.{PoolState}
use Rattle.st_model.specs.Answer.{accepted}
use Rattle.st_model.specs.Checks.{halted}
use Rattle.st_model.specs.Look.{is_started}
use Rattle.st_model.specs.Step.{can_start, step}
use Rattle.st_model.specs.steps.StopPool.{stop_found, stop_pool}
use Rattle.st_rack.specs.Story.{Story, Meant}
use Rattle.st_rack.specs.Device.{Path, DevState, State, Image, Cut, held}
use Rattle.st_rack.specs.Calls.{Devices, Has, names}
use Rattle.st_rack.specs.Moments.{AllCut}
use Rattle.st_rack.proofs.Look.{has_or_not}
use Rattle.st_rack.proofs.Pending.{cut_sure}
use Rattle.st_deltalog.specs.Bearing.{IsSettled}
use Rattle.st_commit.specs.Ready.{IsOf}
use Rattle.st_image.specs.Bears.{paths}
use Rattle.st_image.specs.Stands.{StandsFor, cell_rows, cells_of}
use Rattle.st_image.specs.Kept.{Kept, in_use}
use Rattle.st_image.proofs.Calming.{kept_halted}
use Rattle.st_image.proofs.Keeping.{kept_cut}
use Rattle.st_books.specs.Ready.{AreThere}
use Rattle.st_books.specs.declared.books.Books.{Books}
use Rattle.st_pool.specs.View.{IsOwn, engine_of, now, pool_with}
use Rattle.st_pool.specs.Known.{IsPool}
use Rattle.st_pool.specs.Halts.{Halts, HaltedView, IsAs, IsQuiet}
use Rattle.st_pool.specs.declared.flight.Flight.{Flight}
use Rattle.st_pool.proofs.Committing.{rows_path}
use Rattle.st_pool.proofs.Resting.{up_held}
use Rattle.st_pool.proofs.Running.{kept_now}
use Rattle.st_pool.proofs.Stepping.{called, own}

-- what the model answers
stops : (pool : PoolState) (devs : Devices) → is_started pool.mode ≡ true
    → step (engine_of pool devs) (StopPool pool.name) Plain ≡ (accepted (Changed true (Some (Pool pool.serial))), record (engine_of pool devs) { pools = halted pool ∷ [] })
unfolding stop_pool
stops pool devs started =
    ap (λ (o : Option PoolState). stop_found (engine_of pool devs) pool.name o) (own pool devs)
    ∙ ap (λ (t : Bool). cond t (accepted (Changed true (Some (Pool pool.serial))), record (engine_of pool devs) { pools = cond (bytes_eq pool.name pool.name) (halted pool) pool ∷ [] }) (accepted (Changed false None), engine_of pool devs)) started
    ∙ ap (λ (t : Bool). (accepted (Changed true (Some (Pool pool.serial))), record (engine_of pool devs) { pools = cond t (halted pool) pool ∷ [] })) (called pool.name)

started_with : (b : Books) (flight : Option Call) (m : Image) → is_started (pool_with b flight m).mode ≡ true
started_with b None m = refl
started_with b (Some call) m = refl

-- it can be started again
pub can_again : (b : Books) (flight : Option Call) (m : Image) → can_start (halted (pool_with b flight m)).mode ≡ true
can_again b None m = refl
can_again b (Some call) m = refl

-- the call in flight with the books
abbrev pub flight_with : Books → Option Call → Option Flight
flight_with b flight = option_map (λ (call : Call). record { call = Some call; books = b }) flight

pub stop_is : (b : Books) (flight : Option Call) (m : Image) (devs : Devices)
    → step (engine_of (pool_with b flight m) devs) (StopPool b.rec.name) Plain ≡ (accepted (Changed true (Some (Pool b.rec.serial))), record (engine_of (pool_with b flight m) devs) { pools = halted (pool_with b flight m) ∷ [] })
stop_is b flight m devs = stops (pool_with b flight m) devs (started_with b flight m)

-- a pool without filesystems has no cells, whatever its devices hold
same_cells : (b : Books) (call : Call) (m n : Image) → b.flex.mappings ≡ [] → pool_with b (Some call) m ≡ pool_with b (Some call) n
same_cells b call m n none = ap (λ (cells : List (ℕ × List ℕ)). record (pool_with b (Some call) m) { cells = cells })
    (ap (λ (ms : List Mapping). cells_of b.rec (cell_rows ms) m) none ∙ sym (ap (λ (ms : List Mapping). cells_of b.rec (cell_rows ms) n) none))

pub halts : {D : Type 0} (devs : D → Devices) (moment : D → ℕ) (state_at : D → ℕ → State) (faults : D → ℕ)
    (b : Books) (flight : Option Call) (list : List Path) (shown : PoolInfo) (spare : Option PoolInfo) (rack seen : D) (count : ℕ)
    → IsPool devs moment state_at faults b flight list shown spare rack seen count
    → Halts devs moment state_at (halted (pool_with b flight (held (now moment state_at seen)))) (record { serial = b.rec.serial; devs = list; rack = rack; flight = flight_with b flight; faults = count })
halts devs moment state_at faults b None list shown spare rack seen count inv = record {
  idle = refl;
  serial = refl;
  on = inv.is_on.on;
  own = record { there = inv.is_on.own.there; alone = inv.is_on.own.alone };
  is_as = record {
    flight = refl;
    settled = λ d of. inv.stands.settled d (subst (λ (l : List Path). IsOf l d) (sym (rows_path devs moment state_at faults b list shown spare rack seen count inv)) of);
    stands = up_held b (devs rack) (now moment state_at rack) (now moment state_at seen) inv.stands;
  };
  kept = kept_halted (pool_with b None (held (now moment state_at seen))) (devs rack) (now moment state_at rack) (kept_now devs moment state_at faults b None list shown spare rack seen count inv);
}
halts devs moment state_at faults b (Some call) list shown spare rack seen count inv = record {
  idle = refl;
  serial = refl;
  on = inv.is_on.on;
  own = record { there = inv.is_on.own.there; alone = inv.is_on.own.alone };
  is_as = record {
    serial = inv.serial;
    once = inv.is_on.once;
    filesystems = inv.filesystems;
    mappings = inv.mappings;
    call = inv.flies;
    was = λ m. ap halted (same_cells b call (held (now moment state_at seen)) m inv.mappings);
  };
  kept = kept_halted (pool_with b (Some call) (held (now moment state_at seen))) (devs rack) (now moment state_at rack) (kept_now devs moment state_at faults b (Some call) list shown spare rack seen count inv);
}

-- the devices of a list that a rack has
pub there_paths : (rack ds : Devices) → AreThere rack ds → (k : ℕ) (q : Path) → slice_get (paths ds) k ≡ Some q → (n : ℕ) × Has rack q n
there_paths rack [] there k q is = absurd (cc)
there_paths rack (d ∷ ds) there zero q is = (d.1, subst (λ (p : Path). Has rack p d.1) (same d.0 q is) (there 0 d refl))
  where
    same : (a b : Path) → Some a ≡ Some b → a ≡ b
    same a b e = cc
there_paths rack (d ∷ ds) there (suc k) q is = there_paths rack ds (λ j e at. there (suc j) e at) k q is

-- a path that a list names
names_of : (list : List Path) (p : Path) → names list p ≡ true → IsOf list p
names_of [] p named = absurd (cc)
names_of (q ∷ qs) p named = by (bytes_eq q p) refl named (names_of qs p)
  where
    next : IsOf qs p → IsOf (q ∷ qs) p
    next of = record { index = suc of.index; is = of.is }

    by : (t : Bool) → bytes_eq q p ≡ t → (t || names qs p) ≡ true → (names qs p ≡ true → IsOf qs p) → IsOf (q ∷ qs) p
    by true e named rest = record { index = zero; is = ap (λ (x : Path). Some x) ((bytes_eq-Decides q p).0 e) }
    by false e named rest = next (rest named)

-- a power cut of a device on which nothing is pending changes nothing of what it holds
cut_holds : (s t : DevState) → IsSettled s → Cut s t → t.holds ≡ s.holds
cut_holds s t settled cut = λ j i. cut.left i (settled.sure i) j

cut_settled : (s t : DevState) → Cut s t → IsSettled t
cut_settled s t cut = record { meant = λ m meant. subst (λ (y : Story). Meant y m) cut.told meant; sure = cut_sure s t cut }

module _ (devs : Devices) (list : List Path) (s t : State) (cut : AllCut devs s t) (alone : (p : Path) (n : ℕ) → Has devs p n → names list p ≡ true) where
  held_by_cut : ((d : Path) → IsOf list d → IsSettled (s d)) → held t ≡ held s
  held_by_cut settled = λ j p. each p j
    where
      each : (p : Path) → (t p).holds ≡ (s p).holds
      each p = elim (has_or_not devs p) [
        | inl has ↦ cut_holds (s p) (t p) (settled p (names_of list p (alone p has.0 has.1))) (cut.here p has.0 has.1)
        | inr none ↦ ap (λ (d : DevState). d.holds) (cut.others p none)
      ]

  settled_by_cut : ((d : Path) → IsOf list d → IsSettled (s d)) → (d : Path) → IsOf list d → IsSettled (t d)
  settled_by_cut settled d of = elim (has_or_not devs d) [
    | inl has ↦ cut_settled (s d) (t d) (cut.here d has.0 has.1)
    | inr none ↦ subst (λ (x : DevState). IsSettled x) (sym (cut.others d none)) (settled d of)
  ]

  quiet_by_cut : (pool : PoolState) → IsQuiet pool devs list s → IsQuiet pool devs list t
  quiet_by_cut pool quiet = record {
    flight = quiet.flight;
    settled = settled_by_cut quiet.settled;
    stands = subst (λ (c : Image). StandsFor pool.serial (in_use pool devs) c (Some pool)) (sym (held_by_cut quiet.settled)) quiet.stands;
  }

  as_by_cut : (pool : PoolState) (flight : Option Flight) → IsAs pool devs list s flight → IsAs pool devs list t flight
  as_by_cut pool None quiet = quiet_by_cut pool quiet
  as_by_cut pool (Some f) flying = flying

-- a power cut
pub halts_cycled : {D : Type 0} (devs : D → Devices) (moment : D → ℕ) (state_at : D → ℕ → State) (pool : PoolState) (h : HaltedView D) (r1 : D) → devs r1 ≡ devs h.rack
    → AllCut (devs h.rack) (now moment state_at h.rack) (now moment state_at r1) → Halts devs moment state_at pool h → Halts devs moment state_at pool (record h { rack = r1 })
halts_cycled devs moment state_at pool h r1 same cut halts = record {
  idle = halts.idle;
  serial = halts.serial;
  on = subst (λ (ds : Devices). paths (in_use pool ds) ≡ h.devs) (sym same) halts.on;
  own = subst (λ (ds : Devices). IsOwn pool ds) (sym same) halts.own;
  is_as = subst (λ (ds : Devices). IsAs pool ds h.devs (now moment state_at r1) h.flight) (sym same)
      (as_by_cut (devs h.rack) h.devs (now moment state_at h.rack) (now moment state_at r1) cut
      (λ p n has. subst (λ (l : List Path). names l p ≡ true) halts.on (halts.own.alone p n has)) pool h.flight halts.is_as);
  kept = subst (λ (ds : Devices). Kept pool ds (now moment state_at r1)) (sym same)
      (kept_cut pool (devs h.rack) (now moment state_at h.rack) (now moment state_at r1) halts.kept (devs h.rack) (there_paths (devs h.rack) (in_use pool (devs h.rack)) halts.own.there) cut);
}

pub nothing_le : (n : ℕ) → 0 ≤ n
nothing_le n = omega arith
