-- The board holds after a change of one pool.
use Rattle.std.proofs.Common.{◌≡◌, ℕ, ◌<◌, ◌≤◌, ◌+◌, min, arith, length, List, [], ◌∷◌, ◌++◌, Bool, true, false, cond, Option, Some, None, is_some, refl, sym, ap, subst, ◌∙◌}
use Rattle.std.specs.Prelude.{option_map}
use Rattle.st_units.specs.declared.rows.DevRow.{DevRow}
use Rattle.st_units.specs.Roomy.{Roomy}
use Rattle.st_model.specs.declared.state.PoolState.{PoolState}
use Rattle.st_model.specs.declared.state.TableState.{TableState}
use Rattle.st_model.specs.Look.{row_of}
use Rattle.st_model.specs.Parts.{is_used, known, table_of}
use Rattle.st_rack.specs.Device.{Path, State}
use Rattle.st_rack.specs.Calls.{Devices, Has, Rises, sectors_of}
use Rattle.st_rack.specs.Parts.{Joins}
use Rattle.st_table.specs.Stands.{Stands}
use Rattle.st_table.specs.Steps.{StepsPut, with_other}
use Rattle.st_table.specs.Table.{TableView}
use Rattle.st_pool.specs.Halts.{Halts, HaltedView}
use Rattle.st_board.specs.Holds.{HasOthers, Holds, KeepsTable, halted_at, stopped_at}
use Rattle.st_board.specs.Changes.{HasGone, HasTurned, without}
use Rattle.st_board.specs.View.{last}
use Rattle.st_board.proofs.Serials.{halted_fewer, only_one, used, used_own, uses_known}
use Rattle.st_board.proofs.Changing.{keeps_other, keeps_stopped, lacks_other, lacks_stopped}
use Rattle.st_board.proofs.Counting.{no_more}
use Rattle.st_board.proofs.Going.{keeps_gone, lacks_gone}

abbrev size_of : DevRow → ℕ
size_of row = row.sectors

there_in : (o : Option DevRow) (n : ℕ) → option_map size_of o ≡ Some n → is_some o ≡ true
there_in None n e = absurd cc
there_in (Some row) n e = refl

module _ {D : Type 0} (devs : D → Devices) (moment : D → ℕ) (state_at : D → ℕ → State) (faults spare : D → ℕ) (old : TableView) (free : D) (halted : Roomy (HaltedView D)) (past : ℕ) (t u : TableState)
    (h : Holds devs moment state_at faults spare old free halted past t) (table : TableView) (stands : Stands table u) where
  abbrev Kept : TableState → Type 0
  Kept x = KeepsTable devs moment state_at x free halted.items

  -- for a table and these pools that aren't started
  abbrev Lacks : TableState → List (HaltedView D) → Type 0
  Lacks x hs = (r : ℕ) → HasOthers devs x.devices (stopped_at r x.stopped) (halted_at r hs)

  pub holds_other : StepsPut → (q : PoolState) → HasTurned t u true q → Holds devs moment state_at faults spare table free halted past u
  holds_other law q turned = record {
    whole = with_other turned.pool.name q turned.state;
    valid = turned.turns.after;
    is = turned.is;
    tells = stands;
    keeps = subst Kept turned.is (keeps_other law turned.state turned.pool q turned.turns devs moment state_at free halted.items turned.started (subst Kept (sym turned.was) h.keeps) turned.mode);
    lacking = subst (λ x. Lacks x halted.items) turned.is
        (lacks_other law turned.state turned.pool q turned.turns devs moment state_at free halted.items turned.started (subst Kept (sym turned.was) h.keeps) turned.mode (subst (λ x. Lacks x halted.items) (sym turned.was) h.lacking));
    counted = h.counted;
    places = subst (λ (x : TableState). length x.devices ≤ spare free + length (devs free)) turned.is (subst (λ (x : TableState). length x.devices ≤ spare free + length (devs free)) (sym turned.was) h.places);
    room = h.room;
  }

  -- a started pool leaves a place for one more that isn't
  pub place_left : (q : PoolState) → HasTurned t u false q → 0 < halted.room
  place_left q turned =
      let one = (only_one turned.state.devices turned.pool.name turned.pool turned.state.pools turned.turns.before.apart turned.turns.here).1 in
      let fewer = halted_fewer turned.pool.serial turned.pool turned.state.pools one turned.started in
      let count = turned.turns.before.count in
      let same : length halted.items ≡ length (table_of turned.state).stopped = subst (λ (x : TableState). length halted.items ≡ length x.stopped) (sym turned.was) h.keeps.are_halted.count in
      let room = h.room in
      omega (arith, fewer, count, same, room)

  length_last : (xs : List (HaltedView D)) (x : HaltedView D) → length (xs ++ x ∷ []) ≡ length xs + 1
  length_last [] x = refl
  length_last (y ∷ ys) x = let rest = length_last ys x in omega (arith, rest)

  pub holds_stopped : StepsPut → (q : PoolState) (pool : HaltedView D) (more : Roomy (HaltedView D)) → HasTurned t u false q → Halts devs moment state_at q pool
      → more.items ≡ halted.items ++ pool ∷ [] → halted.room ≤ more.room + 1 → Holds devs moment state_at faults spare table free more past u
  holds_stopped law q pool more turned halts items room = record {
    whole = with_other turned.pool.name q turned.state;
    valid = turned.turns.after;
    is = turned.is;
    tells = stands;
    keeps = subst (λ x. KeepsTable devs moment state_at u free x) (sym items) (subst (λ x. KeepsTable devs moment state_at x free (halted.items ++ pool ∷ [])) turned.is
        (keeps_stopped law turned.state turned.pool q turned.turns devs moment state_at free halted.items turned.started (subst Kept (sym turned.was) h.keeps) pool halts));
    lacking = subst (λ x. Lacks u x) (sym items) (subst (λ x. Lacks x (halted.items ++ pool ∷ [])) turned.is
        (lacks_stopped law turned.state turned.pool q turned.turns devs moment state_at free halted.items turned.started (subst Kept (sym turned.was) h.keeps) pool halts (subst (λ x. Lacks x halted.items) (sym turned.was) h.lacking)));
    counted = h.counted;
    places = subst (λ (x : TableState). length x.devices ≤ spare free + length (devs free)) turned.is (subst (λ (x : TableState). length x.devices ≤ spare free + length (devs free)) (sym turned.was) h.places);
    room =
        let longer = length_last halted.items pool in
        let same : length more.items ≡ length (halted.items ++ pool ∷ []) = ap length items in
        let was = h.room in
        omega (arith, longer, same, was, room);
  }

  module _ (rack : D) (gone : HasGone devs moment state_at t u rack) where
    keeps_was : Kept (table_of gone.state)
    keeps_was = subst Kept (sym gone.was) h.keeps

    free_off : (b : Bool) (o : Option ℕ) → b ≡ true → is_some (cond b None o) ≡ false
    free_off true o e = refl
    free_off false o e = absurd cc

    -- the free ones have no device of the pool's
    pub apart_from : (p : Path) (n : ℕ) → Has (devs rack) p n → is_some (sectors_of (devs free) p) ≡ false
    apart_from p n has =
        let uses_it : is_used p (known gone.pool) ≡ true = uses_known p gone.pool ∙ gone.freed.own p n has in
        ap is_some (keeps_was.the_free p) ∙ free_off (used p gone.state.pools) (option_map size_of (row_of p gone.state.devices)) (used_own p gone.pool.name gone.pool gone.state.pools gone.goes.here uses_it)

    free_there : (b : Bool) (o : Option DevRow) (n : ℕ) → cond b None (option_map size_of o) ≡ Some n → is_some o ≡ true
    free_there true o n e = absurd cc
    free_there false o n e = there_in o n e

    -- all have a place on the rack of the free ones
    pub place_for : Rises (devs free) → Rises (devs rack) → length (devs rack) ≤ spare free
    place_for rf rr =
        let most = no_more gone.state.devices (devs rack) (devs free) rr rf (λ p n has. there_in (row_of p gone.state.devices) n (gone.freed.sizes p n has))
        (λ p n has. free_there (used p gone.state.pools) (row_of p gone.state.devices) n (sym (keeps_was.the_free p) ∙ has)) apart_from in
        let places : length gone.state.devices ≤ spare free + length (devs free) = subst (λ (x : TableState). length x.devices ≤ spare free + length (devs free)) (sym gone.was) h.places in
        omega (arith, most, places)

    pub holds_gone : (joined : D) (count total : ℕ) → Joins devs moment state_at free rack joined → spare free ≤ spare joined + length (devs rack)
        → faults joined ≡ min (faults free + faults rack) last → count ≤ faults rack → total ≡ min (past + count) last
        → Holds devs moment state_at faults spare table joined halted total u
    holds_gone joined count total joins room risen counted total_is = record {
      whole = without gone.pool gone.state;
      valid = gone.goes.after;
      is = gone.is;
      tells = stands;
      keeps = subst (λ x. KeepsTable devs moment state_at x joined halted.items) gone.is
          (keeps_gone devs moment state_at gone.state gone.pool gone.goes rack gone.freed free joined joins halted.items gone.started keeps_was);
      lacking = subst (λ x. Lacks x halted.items) gone.is
          (lacks_gone devs moment state_at gone.state gone.pool gone.goes rack gone.freed free joined joins halted.items gone.started keeps_was (subst (λ x. Lacks x halted.items) (sym gone.was) h.lacking));
      counted = let was = h.counted in omega (arith, was, counted, total_is, risen);
      places =
          let was : length gone.state.devices ≤ spare free + length (devs free) = subst (λ (x : TableState). length x.devices ≤ spare free + length (devs free)) (sym gone.was) h.places in
          let more = joins.count in
          let all : length gone.state.devices ≤ spare joined + length (devs joined) = omega (arith, was, more, room) in
          subst (λ (x : TableState). length x.devices ≤ spare joined + length (devs joined)) gone.is all;
      room = h.room;
    }
