-- One rack has all devices of the engine again, and keeps its state.
use Rattle.std.proofs.Common.{◌≡◌, ◌⊎◌, inl, inr, ℕ, zero, suc, ◌+◌, ◌<◌, ◌≤◌, Bool, true, false, ◌||◌, ◌&&◌, cond, min, length, List, [], ◌∷◌, ◌++◌, map, Option, Some, None, is_some, refl, sym, ◌∙◌, ap, subst, arith}
use Rattle.std.specs.Prelude.{option_map, nat_lt, ◌-◌, ◌==◌}
use Rattle.std.specs.List.{AllByRecursion, IsDistinct, list_any, slice_get}
use Rattle.std.specs.Str.{bytes_eq}
use Rattle.std.proofs.lemmas.Bool.Decides.{Decides-ltb}
use Rattle.st_units.specs.declared.rows.DevRow.{DevRow}
use Rattle.st_model.specs.declared.state.EngineState.{EngineState}
use Rattle.st_model.specs.declared.state.PoolMode.TheVariants.{Incomplete}
use Rattle.st_model.specs.declared.state.PoolState.{PoolState}
use Rattle.st_model.specs.Look.{Text, flight_of, is_started, pool_using, row_of, takes_path, uses}
use Rattle.st_model.specs.Parts.{own, table_of}
use Rattle.st_model.specs.Pieces.{ArePools, every}
use Rattle.st_model.specs.Shown.{halted_pools}
use Rattle.st_model.specs.Valid.{AreThere, IsRow, IsValid, is_there}
use Rattle.st_rack.specs.Device.{Path, DevState, State}
use Rattle.st_rack.specs.Calls.{Devices, Has, sectors_of}
use Rattle.st_rack.specs.Left.{LeavesFairly}
use Rattle.st_rack.specs.Parts.{AreApart}
use Rattle.st_image.specs.Kept.{as_pair, in_use, look_for}
use Rattle.st_image.specs.Left.{first_sectors}
use Rattle.st_order.proofs.Lists.{map-map}
use Rattle.st_cells.specs.Cells.{EachOwn}
use Rattle.st_pool.specs.Halts.{HaltedView}
use Rattle.st_pool.specs.View.{IsKeptOn, PoolView, now}
use Rattle.st_board.specs.Free.{IsFreeFor}
use Rattle.st_board.specs.Holds.{Fits, HasOthers, KeepsTable, halted_at, stopped_at}
use Rattle.st_board.specs.View.{last, pools_of}
use Rattle.st_board.proofs.Present.{lacks}
use Rattle.st_board.proofs.Serials.{all_found, at, found_halted, stopped_in, used, uses_known}
use Rattle.st_closing.specs.Kept.{KeptAlone, KeptRack, only_in_flight}
use Rattle.st_closing.specs.inner.Gathering.{IsWithinRows, MayGather, PairsApart, dev_in, dev_on, or_else, rack_in, rack_of}
use Rattle.st_closing.proofs.Pieces.{IsPiece, free_apart, free_within, has_piece, lacks_or, piece_has, size_of}
use Rattle.st_closing.proofs.Lists.{IsIdlePiece, IsStartedPiece, all_apart, all_as, all_both, all_map, idle_pieces, started_piece}
use Rattle.st_closing.proofs.Places.{all_at, all_by, any_off, at_left, at_map, at_right, halted_place, in_state, in_use_row, none_of, none_using, of_paths, own_at, row_place, rows_of_there, same_tests, some_of, start_found, started_place, used_of}

module _ {D : Type 0} (devs : D → Devices) (moment : D → ℕ) (state_at : D → ℕ → State) where
  abbrev on : D → Path → Option (ℕ × DevState)
  on = dev_on devs moment state_at

  abbrev among_all : List D → Path → Option (ℕ × DevState)
  among_all = dev_in devs moment state_at

  on_has : (x : D) (p : Path) (n : ℕ) → Has (devs x) p n → on x p ≡ Some (n, now moment state_at x p)
  on_has x p n has = ap (λ (o : Option ℕ). option_map (λ (k : ℕ). (k, now moment state_at x p)) o) has

  has_on : (x : D) (p : Path) (v : ℕ × DevState) → on x p ≡ Some v → Has (devs x) p v.0 × (now moment state_at x p ≡ v.1)
  has_on x p v e = by (sectors_of (devs x) p) refl e
    where
      by : (o : Option ℕ) → sectors_of (devs x) p ≡ o → option_map (λ (k : ℕ). (k, now moment state_at x p)) o ≡ Some v → Has (devs x) p v.0 × (now moment state_at x p ≡ v.1)
      by None k f = absurd cc
      by (Some n) k f = let same : (n, now moment state_at x p) ≡ v = cc in (k ∙ ap (λ (w : ℕ × DevState). Some w.0) same, ap (λ (w : ℕ × DevState). w.1) same)

  in_union : (xs : List D) → PairsApart devs xs → (i : ℕ) (x : D) → slice_get xs i ≡ Some x → (p : Path) (n : ℕ) → Has (devs x) p n → among_all xs p ≡ Some (n, now moment state_at x p)
  in_union [] apart i x e p n has = absurd cc
  in_union (y ∷ ys) apart zero x e p n has = let same : y ≡ x = cc in ap (λ (o : Option (ℕ × DevState)). or_else o (among_all ys p)) (ap (λ (z : D). on z p) same ∙ on_has x p n has)
  in_union (y ∷ ys) apart (suc i) x e p n has =
      let off : AreApart devs y x = all_at (AreApart devs y) ys i x apart.0 e in
      ap (λ (o : Option ℕ). or_else (option_map (λ (k : ℕ). (k, now moment state_at y p)) o) (among_all ys p)) (none_of (sectors_of (devs y) p) (off p n has)) ∙ in_union ys apart.1 i x e p n has

  of_union : (xs : List D) (p : Path) (v : ℕ × DevState) → among_all xs p ≡ Some v → (i : ℕ) × (x : D) × (slice_get xs i ≡ Some x) × (on x p ≡ Some v)
  of_union [] p v e = absurd cc
  of_union (y ∷ ys) p v e = by (on y p) refl e (of_union ys p v)
    where
      by : (o : Option (ℕ × DevState)) → on y p ≡ o → or_else o (among_all ys p) ≡ Some v → (among_all ys p ≡ Some v → (i : ℕ) × (x : D) × (slice_get ys i ≡ Some x) × (on x p ≡ Some v)) → (i : ℕ) × (x : D) × (slice_get (y ∷ ys) i ≡ Some x) × (on x p ≡ Some v)
      by None k f rest = let more = rest f in (suc more.0, more.1, more.2, more.3)
      by (Some w) k f rest = (0, y, refl, k ∙ f)

  module _ (s : EngineState) (valid : IsValid s) (cells : List (PoolView D)) (pools : ArePools every s (pools_of cells)) (kept : AllByRecursion (IsKeptOn devs moment state_at) cells) (each : EachOwn)
      (free : D) (hs : List (HaltedView D)) (keeps : KeepsTable devs moment state_at (table_of s) free hs) (lacking : (q : ℕ) → HasOthers devs s.devices (stopped_at q (halted_pools s.pools)) (halted_at q hs)) where
    abbrev Piece : PoolState → D → Type 0
    Piece = IsPiece devs moment state_at s valid

    abbrev racks : List D
    racks = map rack_of hs ++ map rack_in cells

    idle : AllByRecursion (IsIdlePiece devs moment state_at s valid) hs
    idle = idle_pieces devs moment state_at s valid hs keeps.are_halted lacking

    ups : AllByRecursion (IsStartedPiece devs moment state_at s valid) cells
    ups = all_by (IsStartedPiece devs moment state_at s valid) cells (λ i c e. (
        let two = each s (pools_of cells) i c.pool valid pools (at_map (λ (x : PoolView D). x.pool) cells i c e) in
        started_piece devs moment state_at s valid c (all_at (IsKeptOn devs moment state_at) cells i c kept e) two.0 two.1))

    abbrev IsOne : D → Type 0
    IsOne x = (p : PoolState) × Piece p x

    ones : AllByRecursion IsOne racks
    ones = all_both IsOne (map rack_of hs) (map rack_in cells) (all_map rack_of IsOne hs (all_as (IsIdlePiece devs moment state_at s valid) (λ (h : HaltedView D). IsOne h.rack) (λ h one. (one.pool, one.piece)) hs idle))
        (all_map rack_in IsOne cells (all_as (IsStartedPiece devs moment state_at s valid) (λ (c : PoolView D). IsOne c.rack) (λ c one. (c.pool, one.piece)) cells ups))

    apart : PairsApart devs (free ∷ racks)
    apart = (
      all_as IsOne (AreApart devs free) (λ x one. free_apart devs moment state_at s valid free keeps.the_free one.0 x one.1) racks ones,
      all_apart devs moment state_at s valid hs cells idle keeps.are_halted.once ups (subst (IsDistinct bytes_eq) (map-map (λ (q : PoolState). q.name) (λ (c : PoolView D). c.pool) cells) pools.apart),
    )

    within : AllByRecursion (IsWithinRows devs s.devices) (free ∷ racks)
    within = (free_within devs moment state_at s valid free keeps.the_free, all_as IsOne (IsWithinRows devs s.devices) (λ x one p n has. (piece_has devs moment state_at s valid one.0 x one.1 p n has).1) racks ones)

    pub may_gather : (spare : D → ℕ) → length s.devices ≤ spare free + length (devs free) → MayGather devs spare s.devices (free ∷ racks)
    may_gather spare places = record { apart = apart; within = within; places = places }

    -- ---- the rack of a pool

    record HasRack (p : PoolState) : Type 0 where
      place : ℕ
      rack : D
      at_place : slice_get racks place ≡ Some rack
      piece : Piece p rack

    rack_for : (p : PoolState) → at p.serial s.pools ≡ Some p → HasRack p
    rack_for p here = by (is_started p.mode) refl
      where
        of_halted : (o : Option (HaltedView D)) → halted_at p.serial hs ≡ o → Fits devs moment state_at (Some p) o → HasOthers devs s.devices (Some p) o → HasRack p
        of_halted None e f g = absurd f
        of_halted (Some h) e f g =
            let place = halted_place p.serial hs h e in
            record {
              place = place.0;
              rack = h.rack;
              at_place = at_left (map rack_of hs) (map rack_in cells) place.0 h.rack (at_map rack_of hs place.0 h place.1);
              piece = record { here = here; own = f.own; kept = f.kept; lacking = g };
            }

        by : (b : Bool) → is_started p.mode ≡ b → HasRack p
        by false e =
            let stopped : stopped_at p.serial (halted_pools s.pools) ≡ Some p = found_halted s.devices p.serial s.pools valid.apart ∙ (ap stopped_in here ∙ ap (λ b. cond b None (Some p)) e) in
            of_halted (halted_at p.serial hs) refl (subst (λ (o : Option PoolState). Fits devs moment state_at o (halted_at p.serial hs)) stopped (keeps.are_halted.each p.serial))
            (subst (λ (o : Option PoolState). HasOthers devs s.devices o (halted_at p.serial hs)) stopped (lacking p.serial))
        by true e =
            let one = started_place p.name cells p (pools.found p.name ∙ start_found s.devices p.serial p s.pools valid.apart here e) in
            let place = at_right (map rack_of hs) (map rack_in cells) one.0 one.1.rack (at_map rack_in cells one.0 one.1 one.2) in
            record {
              place = place.0;
              rack = one.1.rack;
              at_place = place.1;
              piece = subst (λ (q : PoolState). Piece q one.1.rack) one.3 (all_at (IsStartedPiece devs moment state_at s valid) cells one.0 one.1 ups one.2).piece;
            }

    -- ---- the one rack

    module _ (new : D) (is : (p : Path) → on new p ≡ among_all (free ∷ racks) p) where
      has_all : (i : ℕ) (x : D) → slice_get (free ∷ racks) i ≡ Some x → (p : Path) (n : ℕ) → Has (devs x) p n → Has (devs new) p n × (now moment state_at new p ≡ now moment state_at x p)
      has_all i x e p n has = has_on new p (n, now moment state_at x p) (is p ∙ in_union (free ∷ racks) apart i x e p n has)

      has_one : (p : Path) (n : ℕ) → Has (devs new) p n → (i : ℕ) × (x : D) × (slice_get (free ∷ racks) i ≡ Some x) × Has (devs x) p n × (now moment state_at x p ≡ now moment state_at new p)
      has_one p n has =
          let one = of_union (free ∷ racks) p (n, now moment state_at new p) (sym (is p) ∙ on_has new p n has) in
          let two = has_on one.1 p (n, now moment state_at new p) one.3 in
          (one.0, one.1, one.2, two.0, two.1)

      there_if : (p : Path) (n : ℕ) → Has (devs new) p n → is_there s.devices p ≡ true
      there_if p n has = let one = has_one p n has in all_at (IsWithinRows devs s.devices) (free ∷ racks) one.0 one.1 within one.2 p n one.3

      owned : AllByRecursion (λ (p : PoolState). at p.serial s.pools ≡ Some p) s.pools
      owned = own_at s.devices s.pools valid.apart

      -- a device that a pool uses, and one that none uses
      on_pool : (p : Path) → is_there s.devices p ≡ true → (pool : PoolState) → at pool.serial s.pools ≡ Some pool → uses p pool ≡ true → (n : ℕ) × Has (devs new) p n
      on_pool p there pool here on_it =
          let r = rack_for pool here in
          let has = has_piece devs moment state_at s valid pool r.rack r.piece p on_it there in
          (has.0, (has_all (suc r.place) r.rack r.at_place p has.0 has.1).0)

      on_free : (p : Path) → used p s.pools ≡ false → sectors_of (devs free) p ≡ option_map size_of (row_of p s.devices)
      on_free p off = keeps.the_free p ∙ ap (λ b. cond b None (option_map size_of (row_of p s.devices))) off

      there_only : (p : Path) → is_there s.devices p ≡ true → is_some (sectors_of (devs new) p) ≡ true
      there_only p there = by (used p s.pools) refl
        where
          size : (o : Option DevRow) → is_some o ≡ true → is_some (option_map size_of o) ≡ true
          size None e = absurd cc
          size (Some row) e = refl

          by : (b : Bool) → used p s.pools ≡ b → is_some (sectors_of (devs new) p) ≡ true
          by true e =
              let one = used_of p (λ (q : PoolState). at q.serial s.pools ≡ Some q) s.pools owned e in
              ap is_some (on_pool p there one.0 one.1 (sym (uses_known p one.0) ∙ one.2)).1
          by false e =
              let n = some_of (sectors_of (devs free) p) (ap is_some (on_free p e) ∙ size (row_of p s.devices) there) in
              ap is_some (has_all 0 free refl p n.0 n.1).0

      there : (p : Path) → is_some (sectors_of (devs new) p) ≡ is_some (row_of p s.devices)
      there p = same_tests (is_some (sectors_of (devs new) p)) (is_some (row_of p s.devices)) (λ e. let n = some_of (sectors_of (devs new) p) e in there_if p n.0 n.1) (there_only p)

      own_size : (p : Path) (pool : PoolState) → at pool.serial s.pools ≡ Some pool → uses p pool ≡ true → only_in_flight p pool ≡ false → is_there s.devices p ≡ true → sectors_of (devs new) p ≡ option_map size_of (row_of p s.devices)
      own_size p pool here on_it alone there_it = by (lacks_or pool.mode)
        where
          r : HasRack pool
          r = rack_for pool here

          its_row : is_some (row_of p pool.devices) ≡ true
          its_row = in_state (is_some (row_of p pool.devices)) (takes_path p (flight_of pool.mode)) on_it alone

          known_there : AreThere s.devices pool pool.mode
          known_there = all_found (λ (z : PoolState). AreThere s.devices z z.mode) pool.serial pool s.pools valid.there here

          sized : (o : Option DevRow) → is_some o ≡ true → (n : ℕ) × (option_map size_of o ≡ Some n)
          sized None e = absurd cc
          sized (Some row) e = (row.sectors, refl)

          by : (lacks pool.mode ≡ false) ⊎ ((missing : Text) × (pool.mode ≡ Incomplete missing)) → sectors_of (devs new) p ≡ option_map size_of (row_of p s.devices)
          by (inl whole) =
              let row = row_place p pool.devices its_row in
              let in_it : slice_get (in_use pool (devs r.rack)) row.0 ≡ Some (as_pair row.1) = in_use_row pool (devs r.rack) whole row.0 row.1 row.2 in
              let has : Has (devs r.rack) p row.1.sectors = subst (λ (q : Path). Has (devs r.rack) q row.1.sectors) row.3 (r.piece.own.there row.0 (as_pair row.1) in_it) in
              let size : option_map size_of (row_of p s.devices) ≡ Some row.1.sectors = subst (λ (q : Path). option_map size_of (row_of q s.devices) ≡ Some row.1.sectors) row.3 (all_at (IsRow s.devices) pool.devices row.0 row.1 (rows_of_there s.devices pool pool.mode whole known_there) row.2) in
              (has_all (suc r.place) r.rack r.at_place p row.1.sectors has).0 ∙ sym size
          by (inr one) =
              let size = sized (row_of p s.devices) there_it in
              let has : Has (devs r.rack) p size.0 = r.piece.lacking one.0 one.1 p ∙ (ap (λ b. cond b (option_map size_of (row_of p s.devices)) None) its_row ∙ size.1) in
              (has_all (suc r.place) r.rack r.at_place p size.0 has).0 ∙ sym size.1

      sizes : (p : Path) → list_any (only_in_flight p) s.pools ≡ false → sectors_of (devs new) p ≡ option_map size_of (row_of p s.devices)
      sizes p alone = by (is_there s.devices p) refl (used p s.pools) refl
        where
          none : (o : Option DevRow) → is_some o ≡ false → option_map size_of o ≡ None
          none None e = refl
          none (Some row) e = absurd cc

          size : (o : Option DevRow) → is_some o ≡ true → (n : ℕ) × (option_map size_of o ≡ Some n)
          size None e = absurd cc
          size (Some row) e = (row.sectors, refl)

          by : (a : Bool) → is_there s.devices p ≡ a → (b : Bool) → used p s.pools ≡ b → sectors_of (devs new) p ≡ option_map size_of (row_of p s.devices)
          by false e b u = none_of (sectors_of (devs new) p) (there p ∙ e) ∙ sym (none (row_of p s.devices) e)
          by true e true u =
              let one = used_of p (λ (q : PoolState). at q.serial s.pools ≡ Some q) s.pools owned u in
              own_size p one.0 one.1 (sym (uses_known p one.0) ∙ one.2) (any_off (only_in_flight p) s.pools one.3.0 one.0 alone one.3.1) e
          by true e false u =
              let n = size (row_of p s.devices) e in
              (has_all 0 free refl p n.0 (on_free p u ∙ n.1)).0 ∙ sym n.1

      kept_alone : (pool : PoolState) → at pool.serial s.pools ≡ Some pool → KeptAlone pool (devs new) (now moment state_at new)
      kept_alone pool here = record {
        own = devs r.rack;
        just = λ p. just p (sectors_of (devs r.rack) p) refl;
        kept = record {
          all = λ c left. r.piece.kept.all c (λ k p e. (
              let d = of_paths (in_use pool (devs r.rack)) k p e in
              let has : Has (devs r.rack) p d.0.1 = subst (λ (q : Path). Has (devs r.rack) q d.0.1) d.2 (r.piece.own.there k d.0 d.1) in
              subst (λ (x : DevState). LeavesFairly (look_for pool.mode pool.serial (first_sectors (in_use pool (devs r.rack))) k) x (c p)) (has_all (suc r.place) r.rack r.at_place p d.0.1 has).1 (left k p e)));
        };
      }
        where
          r : HasRack pool
          r = rack_for pool here

          just : (p : Path) (o : Option ℕ) → sectors_of (devs r.rack) p ≡ o → sectors_of (devs r.rack) p ≡ cond (uses p pool) (sectors_of (devs new) p) None
          just p (Some n) e =
              let on_it = (piece_has devs moment state_at s valid pool r.rack r.piece p n e).0 in
              e ∙ sym (ap (λ b. cond b (sectors_of (devs new) p) None) on_it ∙ (has_all (suc r.place) r.rack r.at_place p n e).0)
          just p None e = by (uses p pool) refl
            where
              absent : uses p pool ≡ true → (o : Option ℕ) → sectors_of (devs new) p ≡ o → o ≡ None
              absent on_it None k = refl
              absent on_it (Some m) k =
                  let has = has_piece devs moment state_at s valid pool r.rack r.piece p on_it (there_if p m k) in
                  absurd (let clash : Some has.0 ≡ None = sym has.1 ∙ e in cc)

              by : (b : Bool) → uses p pool ≡ b → sectors_of (devs r.rack) p ≡ cond b (sectors_of (devs new) p) None
              by true k = e ∙ sym (absent k (sectors_of (devs new) p) refl)
              by false k = e

      free_still : (p : Path) (n : ℕ) → Has (devs new) p n → pool_using p s.pools ≡ None → IsFreeFor (table_of s) n (now moment state_at new p)
      free_still p n has none = let one = has_one p n has in by one.0 one.1 one.2 one.3 one.4
        where
          by : (i : ℕ) (x : D) → slice_get (free ∷ racks) i ≡ Some x → Has (devs x) p n → now moment state_at x p ≡ now moment state_at new p → IsFreeFor (table_of s) n (now moment state_at new p)
          by zero x e on_it same =
              let is_free : free ≡ x = cc in
              subst (IsFreeFor (table_of s) n) (ap (λ (z : D). now moment state_at z p) is_free ∙ same) (keeps.settled p n (subst (λ (z : D). Has (devs z) p n) (sym is_free) on_it))
          by (suc i) x e on_it same =
              let one = all_at IsOne racks i x ones e in
              absurd (none_using p one.0.serial one.0 s.pools none one.1.here (piece_has devs moment state_at s valid one.0 x one.1 p n on_it).0)

      pub kept_rack : KeptRack s (devs new) (now moment state_at new)
      kept_rack = record {
        there = there;
        sizes = sizes;
        pools = all_as (λ (p : PoolState). at p.serial s.pools ≡ Some p) (λ (p : PoolState). KeptAlone p (devs new) (now moment state_at new)) kept_alone s.pools owned;
        free = free_still;
      }

-- each fault was counted
pub all_counted : (free mid new past idle up : ℕ) → past ≤ free → (mid < last → free + idle ≤ mid) → (new < last → mid + up ≤ new) → new < last → cond (nat_lt free last) (free - past) last + (min (past + idle) last + up) ≤ new
all_counted free mid new past idle up few one two less = by (two less)
  where
    then : mid + up ≤ new → free + idle ≤ mid → free < last → cond (nat_lt free last) (free - past) last + (min (past + idle) last + up) ≤ new
    then a b c = subst (λ (t : Bool). cond t (free - past) last + (min (past + idle) last + up) ≤ new) (sym ((Decides-ltb free last).1 c)) (omega (arith, a, b, c, few, less))

    below : mid + up ≤ new → mid < last
    below a = omega (arith, a, less)

    under : free + idle ≤ mid → mid < last → free < last
    under b c = omega (arith, b, c)

    by : mid + up ≤ new → cond (nat_lt free last) (free - past) last + (min (past + idle) last + up) ≤ new
    by a = let c = below a in let b = one c in then a b (under b c)
