-- the devices of a pool that is gone are free ones
use Rattle.std.proofs.Common.{◌≡◌, ◌⊎◌, inl, inr, ℕ, zero, suc, ◌<◌, ◌≤◌, Bool, true, false, cond, not, ◌||◌, ◌&&◌, nat_eq, bytes_eq, map, filter, List, [], ◌∷◌, ◌++◌, append-nil, Option, Some, None, is_some, unwrap_or, refl, sym, ap, subst, ◌∙◌, arith}
use Rattle.std.specs.Prelude.{option_map, slice_get, ◌==◌}
use Rattle.std.specs.List.{AllByRecursion}
use Rattle.std.proofs.lemmas.Bool.Decides.{nat_tests}
use Rattle.st_units.specs.declared.rows.DevRow.{DevRow}
use Rattle.st_fields.specs.Slot.{Found}
use Rattle.st_model.specs.declared.call.Call.{Call}
use Rattle.st_model.specs.declared.state.EngineState.{EngineState}
use Rattle.st_model.specs.declared.state.PoolMode.{PoolMode}
use Rattle.st_model.specs.declared.state.PoolMode.TheVariants.{Up}
use Rattle.st_model.specs.declared.state.PoolState.{PoolState}
use Rattle.st_model.specs.Flight.{all_but}
use Rattle.st_model.specs.Look.{Text, flight_of, has_path, is_called, row_of, takes_path, uses}
use Rattle.st_model.specs.Parts.{pool_at, table_of}
use Rattle.st_model.specs.Valid.{AreThere, IsRow, IsValid}
use Rattle.st_model.specs.ValidPool.{IsValidPool}
use Rattle.st_deltalog.specs.Log.{serial_in}
use Rattle.st_rack.specs.Device.{Path, State}
use Rattle.st_rack.specs.Calls.{Devices, Has, sectors_of}
use Rattle.st_commit.specs.Standing.{keep}
use Rattle.st_image.specs.Looks.{slot_on}
use Rattle.st_image.specs.Bears.{path_of, paths}
use Rattle.st_image.specs.Kept.{as_pair, in_use, own_devices, taken_by}
use Rattle.st_order.proofs.Lists.{found_passes}
use Rattle.st_cells.proofs.Lookups.{eq_of, eq_self}
use Rattle.st_pool.specs.Ends.{IsFreed}
use Rattle.st_pool.specs.View.{IsOwn, now}
use Rattle.st_board.specs.Changes.{IsFreedOn, without}
use Rattle.st_board.specs.Free.{IsClaimed, IsFreeFor}
use Rattle.st_board.proofs.Serials.{but_at, known_at, self_number}

-- ---- the devices in use, by their paths

-- a device of the list with this path
pub record IsAmong (devs : Devices) (path : Path) : Type 0 where
  pub place : ℕ
  pub device : Path × ℕ
  pub at : slice_get devs place ≡ Some device
  pub same : device.0 ≡ path

pub among : (path : Path) (devs : Devices) → has_path path (paths devs) ≡ true → IsAmong devs path
among path [] h = absurd cc
among path (d ∷ ds) h = here (bytes_eq d.0 path) refl h (among path ds)
  where
    here : (b : Bool) → bytes_eq d.0 path ≡ b → (b || has_path path (paths ds)) ≡ true → (has_path path (paths ds) ≡ true → IsAmong ds path) → IsAmong (d ∷ ds) path
    here true e k rest = record { place = zero; device = d; at = refl; same = eq_of d.0 path e }
    here false e k rest = let more = rest k in record { place = suc more.place; device = more.device; at = more.at; same = more.same }

path_append : (path : Path) (a b : Devices) → has_path path (paths (a ++ b)) ≡ (has_path path (paths a) || has_path path (paths b))
path_append path [] b = refl
path_append path (d ∷ ds) b = here (bytes_eq d.0 path) (path_append path ds b)
  where
    here : (t : Bool) → has_path path (paths (ds ++ b)) ≡ (has_path path (paths ds) || has_path path (paths b)) → (t || has_path path (paths (ds ++ b))) ≡ ((t || has_path path (paths ds)) || has_path path (paths b))
    here true e = refl
    here false e = e

rows_named : (path : Path) (rows : List DevRow) → has_path path (paths (map as_pair rows)) ≡ is_some (row_of path rows)
rows_named path [] = refl
rows_named path (r ∷ rs) = here (bytes_eq r.path path) (rows_named path rs)
  where
    here : (b : Bool) → has_path path (paths (map as_pair rs)) ≡ is_some (row_of path rs) → (b || has_path path (paths (map as_pair rs))) ≡ is_some (cond b (Some r) (row_of path rs))
    here true e = refl
    here false e = e

module _ (rack : Devices) (rows : List DevRow) where
  abbrev sized : Path → Path × ℕ
  sized path = (path, unwrap_or (sectors_of rack path) 0)

  abbrev is_new : Path → Bool
  is_new path = not (is_some (row_of path rows))

  taken_named : (path : Path) (list : List Path) → has_path path (paths (map sized (filter is_new list))) ≡ (is_new path && has_path path list)
  taken_named path [] = off (is_new path)
    where
      off : (t : Bool) → false ≡ (t && false)
      off true = refl
      off false = refl
  taken_named path (p ∷ ps) = here (is_new p) refl (bytes_eq p path) refl (taken_named path ps)
    where
      both : (n : Bool) (h : Bool) → n ≡ true → true ≡ (n && true)
      both n h e = sym (ap (λ (t : Bool). t && true) e)

      none : (n : Bool) → n ≡ false → (h : Bool) → (n && h) ≡ (n && true)
      none n e h = ap (λ (t : Bool). t && h) e ∙ sym (ap (λ (t : Bool). t && true) e)

      here : (n : Bool) → is_new p ≡ n → (b : Bool) → bytes_eq p path ≡ b → has_path path (paths (map sized (filter is_new ps))) ≡ (is_new path && has_path path ps)
          → has_path path (paths (map sized (cond n (p ∷ filter is_new ps) (filter is_new ps)))) ≡ (is_new path && (b || has_path path ps))
      here true e true k rest = ap (λ (t : Bool). t || has_path path (paths (map sized (filter is_new ps)))) k ∙ both (is_new path) (has_path path ps) (ap is_new (sym (eq_of p path k)) ∙ e)
      here true e false k rest = ap (λ (t : Bool). t || has_path path (paths (map sized (filter is_new ps)))) k ∙ rest
      here false e true k rest = rest ∙ none (is_new path) (ap is_new (sym (eq_of p path k)) ∙ e) (has_path path ps)
      here false e false k rest = rest

flight_takes : (path : Path) (flight : Option Call) → has_path path (taken_by flight) ≡ takes_path path flight
flight_takes path None = refl
flight_takes path (Some call) = refl

either : (a b : Bool) → (a || (not a && b)) ≡ (a || b)
either true b = refl
either false b = refl

-- the devices in use are those that the pool uses, where the rack has all of its own
pub uses_named : (p : PoolState) (rack : Devices) → own_devices p.mode p.devices rack ≡ map as_pair p.devices → (path : Path) → has_path path (paths (in_use p rack)) ≡ uses path p
uses_named p rack whole path =
    ap (λ (ds : Devices). has_path path (paths (ds ++ map (sized rack p.devices) (filter (is_new rack p.devices) (taken_by (flight_of p.mode)))))) whole
    ∙ (path_append path (map as_pair p.devices) (map (sized rack p.devices) (filter (is_new rack p.devices) (taken_by (flight_of p.mode))))
    ∙ (ap (λ (t : Bool). t || has_path path (paths (map (sized rack p.devices) (filter (is_new rack p.devices) (taken_by (flight_of p.mode)))))) (rows_named path p.devices)
    ∙ (ap (λ (t : Bool). is_some (row_of path p.devices) || t) (taken_named rack p.devices path (taken_by (flight_of p.mode)))
    ∙ (either (is_some (row_of path p.devices)) (has_path path (taken_by (flight_of p.mode)))
    ∙ ap (λ (t : Bool). is_some (row_of path p.devices) || t) (flight_takes path (flight_of p.mode))))))

-- ---- the slots

kept_not : (p q : ℕ) (o : Found) → (q ≡ p → ⊥) → ((x : ℕ × List ℕ) → o ≡ Some x → serial_in x.1 ≡ p) → keep q o ≡ None
kept_not p q None ne h = refl
kept_not p q (Some x) ne h = here (nat_eq (serial_in x.1) q) refl
  where
    here : (b : Bool) → nat_eq (serial_in x.1) q ≡ b → cond b (Some x) None ≡ None
    here true e = absurd (ne (let same : serial_in x.1 ≡ q = grind (arith, nat_tests, e) in sym same ∙ h x refl))
    here false e = refl

-- the serial of a pool that is gone isn't claimed
not_claimed : (s : EngineState) (p : PoolState) (q : ℕ) → IsValid s → pool_at p.name s.pools ≡ Some p → IsClaimed (table_of (without p s)) q → q ≡ p.serial → ⊥
not_claimed s p q valid here (inl e) same =
    let none : is_some (cond (q == p.serial) None (Rattle.st_board.proofs.Serials.at q s.pools)) ≡ false = ap (λ (t : Bool). is_some (cond t None (Rattle.st_board.proofs.Serials.at q s.pools))) (ap (λ (n : ℕ). n == p.serial) same ∙ self_number p.serial) in
    let some : is_some (cond (q == p.serial) None (Rattle.st_board.proofs.Serials.at q s.pools)) ≡ true = sym (known_at q (all_but p.serial s.pools) ∙ ap is_some (but_at p.serial q s.pools)) ∙ e in
    let t : false ≡ true = sym none ∙ some in
    cc
not_claimed s p q valid here (inr e) same =
    let below = (found_passes (is_called p.name) (IsValidPool s.next) s.pools p valid.pools here).1.serial in
    let above = e.0 in
    let t : ⊥ = omega (arith, below, above, same) in t

-- ---- each device

module _ {D : Type 0} (devs : D → Devices) (moment : D → ℕ) (state_at : D → ℕ → State) (s : EngineState) (p : PoolState) (rack : D) where
  -- On its own rack, with the sizes that the engine knows, each device of a pool that is gone is a free one.
  pub freed_on : IsValid s → pool_at p.name s.pools ≡ Some p → own_devices p.mode p.devices (devs rack) ≡ map as_pair p.devices → IsOwn p (devs rack)
      → ((k : ℕ) (d : Path × ℕ) → slice_get (in_use p (devs rack)) k ≡ Some d → IsFreed p.serial d.1 (now moment state_at rack d.0))
      → ((d : Path) (n : ℕ) → Has (devs rack) d n → option_map (λ (row : DevRow). row.sectors) (row_of d s.devices) ≡ Some n)
      → IsFreedOn devs moment state_at s p rack
  freed_on valid here whole is_own freed sizes = record {
    sizes = sizes;
    own = λ d n has. sym (uses_named p (devs rack) whole d) ∙ is_own.alone d n has;
    all = λ d used. let it = among d (in_use p (devs rack)) (uses_named p (devs rack) whole d ∙ used) in (it.device.1, has_at d it);
    each = λ d n has. each_free d n has (among d (in_use p (devs rack)) (is_own.alone d n has));
  }
    where
      has_at : (d : Path) (it : IsAmong (in_use p (devs rack)) d) → Has (devs rack) d it.device.1
      has_at d it = subst (λ (x : Path). Has (devs rack) x it.device.1) it.same (is_own.there it.place it.device it.at)

      each_free : (d : Path) (n : ℕ) → Has (devs rack) d n → IsAmong (in_use p (devs rack)) d → IsFreeFor (table_of (without p s)) n (now moment state_at rack d)
      each_free d n has it =
          let size : it.device.1 ≡ n = (let both = has_at d it in cc) in
          let f : IsFreed p.serial n (now moment state_at rack d) = subst (λ (m : ℕ). IsFreed p.serial m (now moment state_at rack d)) size (subst (λ (x : Path). IsFreed p.serial it.device.1 (now moment state_at rack x)) it.same (freed it.place it.device it.at)) in
          record {
            settled = f.settled;
            alone = f.alone;
            silent = λ place lt q claimed. kept_not p.serial q (slot_on n place (now moment state_at rack d).holds) (not_claimed s p q valid here claimed) (λ x e. f.slots place lt x e);
          }

-- ---- a pool that is up

at_row : (rack rows : List DevRow) (k : ℕ) (e : Path × ℕ) → AllByRecursion (IsRow rack) rows → slice_get (map as_pair rows) k ≡ Some e → option_map (λ (row : DevRow). row.sectors) (row_of e.0 rack) ≡ Some e.1
at_row rack [] zero e h at = absurd cc
at_row rack [] (suc k) e h at = absurd cc
at_row rack (r ∷ rs) zero e h at =
    let same : as_pair r ≡ e = cc in
    subst (λ (x : Path × ℕ). option_map (λ (row : DevRow). row.sectors) (row_of x.0 rack) ≡ Some x.1) same h.0
at_row rack (r ∷ rs) (suc k) e h at = at_row rack rs k e h.1 at

module _ (s : EngineState) (p : PoolState) (rack : Devices) (up : p.mode ≡ Up) where
  pub whole_up : own_devices p.mode p.devices rack ≡ map as_pair p.devices
  whole_up = ap (λ (m : PoolMode). own_devices m p.devices rack) up

  in_use_up : in_use p rack ≡ map as_pair p.devices
  in_use_up = ap (λ (m : PoolMode). own_devices m p.devices rack ++ map (sized rack p.devices) (filter (is_new rack p.devices) (taken_by (flight_of m)))) up ∙ append-nil (map as_pair p.devices)

  -- it has the sizes that the engine knows
  pub sizes_up : IsValid s → pool_at p.name s.pools ≡ Some p → IsOwn p rack → (d : Path) (n : ℕ) → Has rack d n → option_map (λ (row : DevRow). row.sectors) (row_of d s.devices) ≡ Some n
  sizes_up valid here is_own d n has =
      let it = among d (in_use p rack) (is_own.alone d n has) in
      let there : AllByRecursion (IsRow s.devices) p.devices = subst (AreThere s.devices p) up (found_passes (is_called p.name) (λ (x : PoolState). AreThere s.devices x x.mode) s.pools p valid.there here).1 in
      let row = at_row s.devices p.devices it.place it.device there (subst (λ (ds : Devices). slice_get ds it.place ≡ Some it.device) in_use_up it.at) in
      let has_it : Has rack d it.device.1 = subst (λ (x : Path). Has rack x it.device.1) it.same (is_own.there it.place it.device it.at) in
      let size : it.device.1 ≡ n = cc in
      subst (λ (m : ℕ). option_map (λ (row : DevRow). row.sectors) (row_of d s.devices) ≡ Some m) size (subst (λ (x : Path). option_map (λ (row : DevRow). row.sectors) (row_of x s.devices) ≡ Some it.device.1) it.same row)
