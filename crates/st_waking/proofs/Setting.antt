-- The pool that is to be started is set out on.
use Rattle.std.proofs.Common.{◌≡◌, ℕ, suc, Bool, true, false, cond, List, [], ◌∷◌, Option, Some, None, refl, sym, ap, subst, ◌∙◌}
use Rattle.std.specs.Prelude.{find, option_map, slice_get, ◌==◌}
use Rattle.std.specs.List.{list_all}
use Rattle.st_units.specs.declared.rows.DevRow.{DevRow}
use Rattle.st_model.specs.declared.call.PoolId.{PoolId}
use Rattle.st_model.specs.declared.state.EngineState.{EngineState}
use Rattle.st_model.specs.declared.state.PoolState.{PoolState}
use Rattle.st_model.specs.declared.state.TableState.{TableState}
use Rattle.st_model.specs.Found.{with_own_serial}
use Rattle.st_model.specs.Look.{Text}
use Rattle.st_model.specs.Parts.{pool_at}
use Rattle.st_model.specs.Step.{can_start}
use Rattle.st_model.specs.steps.StartPool.{pool_meant}
use Rattle.st_rack.specs.Device.{State}
use Rattle.st_rack.specs.Calls.{Devices}
use Rattle.st_table.specs.Stands.{Stands}
use Rattle.st_table.specs.Steps.{SerialsTold, StandsFor}
use Rattle.st_table.specs.Table.{TableView, named}
use Rattle.st_pool.specs.Halts.{Halts, HaltedView}
use Rattle.st_pool.specs.View.{PoolView}
use Rattle.st_board.specs.Holds.{AreHalted, Fits, halted_at, stopped_at}
use Rattle.st_board.specs.Ran.{AreAll}
use Rattle.st_board.specs.View.{BoardView}
use Rattle.st_board.proofs.Serials.{found_halted, only_one, same_number, stopped_in}
use Rattle.st_meant.specs.Tables.{AreTables, CanMay, MayStart, TablesTell}
use Rattle.st_meant.proofs.Meaning.{found_here, meant_here}
use Rattle.st_waking.specs.declared.ready.Ready.{Ready}
use Rattle.st_waking.specs.Readies.{IsReady, fits_in}
use Rattle.st_waking.specs.Taken.{IsSet}
use Rattle.st_waking.proofs.Taking.{not_started}

-- what is found stands at a place
place_found : {A : Type 0} (q : A → Bool) (xs : List A) (x : A) → find q xs ≡ Some x → (i : ℕ) × (slice_get xs i ≡ Some x)
place_found q [] x e = absurd cc
place_found q (y ∷ ys) x e = by (q y) e (place_found q ys x)
  where
    by : (b : Bool) → cond b (Some y) (find q ys) ≡ Some x → (find q ys ≡ Some x → (i : ℕ) × (slice_get ys i ≡ Some x)) → (i : ℕ) × (slice_get (y ∷ ys) i ≡ Some x)
    by true k rest = (0, k)
    by false k rest = let more = rest k in (suc more.0, more.1)

own_name : (o : Option PoolState) (name : Text) → option_map (λ (p : PoolState). p.name) o ≡ Some name → (p : PoolState) × (o ≡ Some p) × (p.name ≡ name)
own_name None name e = absurd cc
own_name (Some p) name e = (p, refl, (let same : p.name ≡ name = cc in same))

serial_found : (n : ℕ) (ps : List PoolState) (p : PoolState) → find (λ (x : PoolState). x.serial == n) ps ≡ Some p → p.serial ≡ n
serial_found n [] p e = absurd cc
serial_found n (x ∷ ps) p e = by (x.serial == n) refl e (serial_found n ps p)
  where
    by : (b : Bool) → (x.serial == n) ≡ b → cond b (Some x) (find (λ (y : PoolState). y.serial == n) ps) ≡ Some p → (find (λ (y : PoolState). y.serial == n) ps ≡ Some p → p.serial ≡ n) → p.serial ≡ n
    by true k f rest = let same : x ≡ p = cc in subst (λ (y : PoolState). y.serial ≡ n) same (same_number x.serial n k)
    by false k f rest = rest f

module _ {D : Type 0} (devs : D → Devices) (moment : D → ℕ) (state_at : D → ℕ → State) (faults : D → ℕ) (s : EngineState) (id : PoolId) (cells : List (PoolView D)) (was : BoardView D)
    (all : AreAll devs moment state_at faults s cells was) (table : TableView) (tells : Stands table was.state) (keeps : AreHalted devs moment state_at was.state.stopped was.halted) (serials : SerialsTold) (name : Text)
    (found : (p : PoolState) × (pool_meant id s ≡ Some p) × (p.name ≡ name) × (can_start p.mode ≡ true)) where
  abbrev p : PoolState
  p = found.0

  stands : StandsFor table s
  stands = subst (Stands table) all.table tells

  at_home : pool_at p.name s.pools ≡ Some p
  at_home = meant_here s id p all.valid found.1

  pub may_start : CanMay → MayStart table name
  may_start law = subst (MayStart table) found.2 (law table s p all.valid stands at_home found.3)

  its_serial : with_own_serial p.serial s ≡ Some p
  its_serial = (only_one s.devices p.name p s.pools all.valid.apart at_home).1

  stopped_here : stopped_at p.serial was.state.stopped ≡ Some p
  stopped_here =
      ap (λ (t : TableState). stopped_at p.serial t.stopped) all.table
      ∙ (found_halted s.devices p.serial s.pools all.valid.apart ∙ (ap stopped_in its_serial ∙ ap (λ (b : Bool). cond b None (Some p)) (not_started p found.3)))

  there_fits : (o : Option (HaltedView D)) → Fits devs moment state_at (Some p) o → (h : HaltedView D) × (o ≡ Some h) × Halts devs moment state_at p h
  there_fits None f = absurd f
  there_fits (Some h) f = (h, refl, f)

  -- it stands among those that aren't started
  pub there : (i : ℕ) × (h : HaltedView D) × (slice_get was.halted i ≡ Some h) × (named h.serial table.pools ≡ Some name)
  there =
      let one = there_fits (halted_at p.serial was.halted) (subst (λ (o : Option PoolState). Fits devs moment state_at o (halted_at p.serial was.halted)) stopped_here (keeps.each p.serial)) in
      let place = place_found (λ (h : HaltedView D). h.serial == p.serial) was.halted one.0 one.1 in (
        place.0,
        one.0,
        place.1,
        serials table s one.0.serial all.valid stands ∙ (ap (λ (n : ℕ). option_map (λ (x : PoolState). x.name) (with_own_serial n s)) one.2.serial ∙ (ap (option_map (λ (x : PoolState). x.name)) its_serial ∙ ap (λ (n : Text). Some n) found.2)),
      )

  module _ (r : Ready) (ready : IsReady devs table was.halted name r) where
    serial_is : ready.pool.serial ≡ p.serial
    serial_is =
        let one = own_name (with_own_serial ready.pool.serial s) name (sym (serials table s ready.pool.serial all.valid stands) ∙ ready.named) in
        let here_one : pool_at one.0.name s.pools ≡ Some one.0 = found_here s (λ (x : PoolState). x.serial == ready.pool.serial) one.0 all.valid one.1 in
        let same_name : one.0.name ≡ p.name = one.2 ∙ sym found.2 in
        let both : Some one.0 ≡ Some p = sym here_one ∙ (ap (λ (n : Text). pool_at n s.pools) same_name ∙ at_home) in
        let same : one.0 ≡ p = cc in
        sym (serial_found ready.pool.serial s.pools one.0 one.1) ∙ ap (λ (x : PoolState). x.serial) same

    pub is_set : TablesTell → IsSet devs s id was.halted r p ready.pool
    is_set law = record {
      meant = found.1;
      can = found.3;
      at = ready.at;
      serial = serial_is;
      sizes = subst (λ (rows : List DevRow). list_all (fits_in rows) (devs ready.pool.rack) ≡ true) stands.devices ready.sizes;
      tell = law table s p r.tables all.valid stands at_home found.3 (subst (λ (n : Text). AreTables table n r.tables) (sym found.2) ready.tables);
    }
