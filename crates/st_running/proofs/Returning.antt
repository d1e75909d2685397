-- what comes back to a book
use Rattle.std.proofs.Common.{◌≡◌, ℕ, ◌+◌, ◌<◌, ◌≤◌, ◌^◌, Bool, true, false, cond, List, [], ◌∷◌, length, filter, Option, Some, None, option_map, refl, sym, ap, subst, ◌∙◌, arith, lit≤}
use Rattle.std.specs.Prelude.{IfSome, is_some}
use Rattle.std.specs.List.{AllByRecursion}
use Rattle.std.proofs.lemmas.List.{length-map}
use Rattle.st_grants.proofs.Sound.{some_and}
use Rattle.st_wants.specs.declared.row.LockRow.{LockRow}
use Rattle.st_wants.specs.declared.want.Want.{Want}
use Rattle.st_wants.specs.Lock.{row_at}
use Rattle.st_wants.specs.Wants.{takes_table}
use Rattle.st_model.specs.declared.call.Call.{Call}
use Rattle.st_model.specs.declared.entry.Entry.{Entry}
use Rattle.st_model.specs.declared.state.EngineState.{EngineState}
use Rattle.st_model.specs.declared.state.PoolState.{PoolState}
use Rattle.st_model.specs.Look.{is_started}
use Rattle.st_model.specs.Parts.{own, shown_table, table_of}
use Rattle.st_model.specs.Pieces.{info_at}
use Rattle.st_model.specs.Shown.{pool_info}
use Rattle.st_model.specs.Step.{step}
use Rattle.st_model.specs.Wanted.{want_of}
use Rattle.st_model.proofs.Validity.{step-keeps}
use Rattle.st_history.specs.Failures.{failures_of}
use Rattle.st_history.specs.History.{replay}
use Rattle.st_history.proofs.Failures.{failures-few}
use Rattle.st_book.specs.Stands.{ComesBack, PartStands}
use Rattle.st_book.specs.View.{BookView, TableView, lent_at}
use Rattle.st_book.proofs.Lending.{lent_left}
use Rattle.st_book.proofs.Released.{part_fits}
use Rattle.st_rack.specs.Device.{State}
use Rattle.st_rack.specs.Calls.{Devices}
use Rattle.st_pool.specs.declared.reply.PoolReply.{PoolReply}
use Rattle.st_pool.specs.View.{PoolView}
use Rattle.st_board.specs.View.{BoardView, last, pools_of}
use Rattle.st_running.specs.Calls.{runs}
use Rattle.st_running.specs.Gives.{IsEntryOf}
use Rattle.st_running.specs.Part.{HasRunOn, as_table, faults_out}
use Rattle.st_running.specs.Returns.{GoesHome, IsHeld, MayGoHome}
use Rattle.st_running.proofs.Given.{comes_back, counts_faults}

fewer : (pools : List PoolState) → length (filter (λ (p : PoolState). is_started p.mode) pools) ≤ length pools
fewer [] = lit≤ tt
fewer (p ∷ pools) = here (is_started p.mode) (fewer pools)
  where
    here : (b : Bool) → length (filter (λ (q : PoolState). is_started q.mode) pools) ≤ length pools → length (cond b (p ∷ filter (λ (q : PoolState). is_started q.mode) pools) (filter (λ (q : PoolState). is_started q.mode) pools)) ≤ length (p ∷ pools)
    here true h = omega (arith, h)
    here false h = omega (arith, h)

-- there is a table just where the want takes it
fits_want : {D : Type 0} (faults : D → ℕ) (w : Want) (s : EngineState) (pools : List PoolState) (table : Option (BoardView D)) → PartStands w s pools (option_map (as_table faults) table) → is_some table ≡ takes_table w
fits_want faults w s pools table h = same_there table ∙ (ap is_some h.board ∙ given_there (takes_table w))
  where
    same_there : (o : Option (BoardView _)) → is_some o ≡ is_some (option_map (λ (v : TableView). v.state) (option_map (as_table faults) o))
    same_there None = refl
    same_there (Some x) = refl

    given_there : (b : Bool) → is_some (cond b (Some (table_of s)) None) ≡ b
    given_there true = refl
    given_there false = refl

module _ {D : Type 0} (devs : D → Devices) (moment : D → ℕ) (state_at : D → ℕ → State) (faults : D → ℕ)
    (s0 : EngineState) (base : ℕ) (b : BookView) (t : ℕ) (call : Call) (answer : PoolReply) (e : Entry) (cells after : List (PoolView D)) (table left : Option (BoardView D))
    (held : IsHeld devs moment state_at faults s0 base b t call cells table) (r : runs call ≡ true)
    (ran : HasRunOn devs moment state_at faults (replay s0 b.log) call answer cells table after left) (is : IsEntryOf call answer e) where
  abbrev s : EngineState
  s = replay s0 b.log

  told : (row : LockRow) × (row_at t b.lock.rows ≡ Some row) × ((row.live ≡ true) × (row.want ≡ want_of call))
  told = some_and (λ (row : LockRow). (row.live ≡ true) × (row.want ≡ want_of call)) (row_at t b.lock.rows) held.row

  comes : ComesBack (want_of call) s base (e ∷ []) (pools_of after) (option_map (as_table faults) left)
  comes = comes_back devs moment state_at faults s call answer e base cells after table left r ran is held.slack

  comes_row : ComesBack told.0.want s base (e ∷ []) (pools_of after) (option_map (as_table faults) left)
  comes_row = subst (λ (w : Want). ComesBack w s base (e ∷ []) (pools_of after) (option_map (as_table faults) left)) (sym told.2.1) comes

  few : length b.cells + length after ≤ 16
  few =
      let fits = part_fits s0 base b t told.0 (e ∷ []) (pools_of after) (option_map (as_table faults) left) held.stands told.1 told.2.0 comes_row in
      let count = (step-keeps s e.call e.env held.valid).count in
      let less = fewer (step s e.call e.env).1.pools in
      let len : length (pools_of after) ≡ length after = length-map after (λ (c : PoolView D). c.pool) in
      omega (arith, fits, count, less, len)

  shown_one : (c : PoolView D) → (c.spare ≡ false → option_map pool_info (own c.pool.name s) ≡ Some (pool_info c.pool)) → c.spare ≡ false → info_at c.pool.name b.infos ≡ Some (pool_info c.pool)
  shown_one c k none = held.stands.infos.shown c.pool.name ∙ k none

  shown_all : (cs : List (PoolView D)) → AllByRecursion (λ (c : PoolView D). c.spare ≡ false → option_map pool_info (own c.pool.name s) ≡ Some (pool_info c.pool)) cs
      → AllByRecursion (λ (c : PoolView D). c.spare ≡ false → info_at c.pool.name b.infos ≡ Some (pool_info c.pool)) cs
  shown_all [] k = tt
  shown_all (c ∷ cs) k = (shown_one c k.0, shown_all cs k.1)

  table_one : (o : Option (BoardView D)) → IfSome o (λ (x : BoardView D). x.spare ≡ false → shown_table (table_of s) ≡ shown_table x.state) → IfSome o (λ (x : BoardView D). x.spare ≡ false → b.table_info ≡ shown_table x.state)
  table_one None k = tt
  table_one (Some x) k = λ none. held.stands.table_info ∙ k none

  number : length b.log < 2 ^ 62 → faults_out after left ≡ lent_at t b.lent + failures_of (e ∷ [])
  number small =
      let out = held.lent small in
      let all = held.stands.faults small in
      let rest = lent_left t b.lent in
      let most = failures-few s0 b.log held.stands.history in
      let below : faults_out cells table < last = omega (arith, out, all, rest, most, small) in
      let counted = counts_faults devs moment state_at faults s call answer e cells after table left ran is below in
      omega (arith, counted, out)

  pub goes : MayGoHome devs moment state_at faults s0 base b t e after left
  goes = record {
    fitting = (let fits = fits_want faults (want_of call) (step s call answer.env).1 (pools_of after) left ran.part in rw told.1 (fits ∙ ap takes_table (sym told.2.1)));
    few = few;
    back = rw told.1 comes_row;
    spares = shown_all after ran.shown;
    spare = table_one left ran.table_shown;
    number = number;
  }

pub goes_home : {D : Type 0} (devs : D → Devices) (moment : D → ℕ) (state_at : D → ℕ → State) (faults : D → ℕ) → GoesHome devs moment state_at faults
goes_home devs moment state_at faults s0 base b t call answer e cells after table left held r ran is = goes devs moment state_at faults s0 base b t call answer e cells after table left held r ran is
