-- a ticket that holds what its call wants, and what it gives back
use Rattle.std.proofs.Common.{◌≡◌, ℕ, ◌+◌, ◌<◌, ◌≤◌, ◌^◌, Bool, true, false, List, [], ◌∷◌, map, Option, Some, None, refl, sym, ap, subst, ◌∙◌, arith}
use Rattle.std.specs.Prelude.{IfSome, IsSomeAnd, option_map}
use Rattle.std.specs.List.{AllByRecursion}
use Rattle.st_grants.proofs.Sound.{some_and}
use Rattle.st_wants.specs.declared.row.LockRow.{LockRow}
use Rattle.st_wants.specs.declared.want.Want.{Want}
use Rattle.st_model.specs.declared.call.Call.{Call}
use Rattle.st_model.specs.declared.entry.Entry.{Entry}
use Rattle.st_model.specs.declared.info.PoolInfo.{PoolInfo}
use Rattle.st_model.specs.declared.info.TableInfo.{TableInfo}
use Rattle.st_model.specs.declared.state.EngineState.{EngineState}
use Rattle.st_model.specs.Wanted.{want_of}
use Rattle.st_history.specs.Failures.{failures_of}
use Rattle.st_book.specs.Stands.{ComesBack, PartShows}
use Rattle.st_book.specs.View.{TableView}
use Rattle.st_rack.specs.Device.{State}
use Rattle.st_rack.specs.Calls.{Devices}
use Rattle.st_pool.specs.declared.reply.PoolReply.{PoolReply}
use Rattle.st_pool.specs.View.{IsKeptOn, PoolView}
use Rattle.st_board.specs.View.{BoardView, last, pools_of, slack_of}
use Rattle.st_lock.specs.Held.{Rose}
use Rattle.st_lock.specs.Seats.{LockSeat, own_row}
use Rattle.st_lock.specs.Seats as seats
use Rattle.st_serving.specs.Serving.{Holds}
use Rattle.st_running.specs.Calls.{runs}
use Rattle.st_running.specs.Gives.{CountsItsFaults, IsEntryOf, MayComeBack}
use Rattle.st_running.specs.Part.{HasRunOn, IsPart, as_table, faults_out}
use Rattle.st_engine.proofs.Told.{some_more}

same_infos : (infos : List PoolInfo) → map (λ (i : PoolInfo). i) infos ≡ infos
same_infos [] = refl
same_infos (i ∷ infos) = ap (λ (is : List PoolInfo). i ∷ is) (same_infos infos)

same_info : (o : Option TableInfo) → option_map (λ (i : TableInfo). i) o ≡ o
same_info None = refl
same_info (Some i) = refl

-- infos show what they are
pub shows_so : (w : Want) (s : EngineState) (infos : List PoolInfo) (info : Option TableInfo) → PartShows w s (map (λ (i : PoolInfo). i) infos) (option_map (λ (i : TableInfo). i) info) → PartShows w s infos info
shows_so w s infos info h = subst (λ (o : Option TableInfo). PartShows w s infos o) (same_info info) (subst (λ (is : List PoolInfo). PartShows w s is (option_map (λ (i : TableInfo). i) info)) (same_infos infos) h)

slack_of_part : {D : Type 0} (faults : D → ℕ) (base : ℕ) (table : Option (BoardView D)) → IfSome (option_map (as_table faults) table) (λ (w : TableView). base ≤ w.slack) → IfSome table (λ (b : BoardView D). base ≤ slack_of faults b)
slack_of_part faults base None h = tt
slack_of_part faults base (Some b) h = h

module _ {D : Type 0} (devs : D → Devices) (moment : D → ℕ) (state_at : D → ℕ → State) (faults : D → ℕ)
    (v : LockSeat) (t : ℕ) (call : Call) (cells : List (PoolView D)) (table : Option (BoardView D))
    (holds : Holds v t call (pools_of cells) (option_map (as_table faults) table) (faults_out cells table)) where
  -- it has the part that its call runs on
  pub part : (infos : List PoolInfo) (info : Option TableInfo) (short : Bool) → (short ≡ false → PartShows (want_of call) (seats.state_at v) infos info) → AllByRecursion (IsKeptOn devs moment state_at) cells
      → IsPart devs moment state_at faults (seats.state_at v) call cells table infos info short
  part infos info short shows kept = record { valid = holds.valid; part = holds.part; kept = kept; shows = shows }

  pub live : IsSomeAnd (own_row t v) (λ (r : LockRow). r.live ≡ true)
  live = some_more (λ (r : LockRow). (r.live ≡ true) × (r.want ≡ want_of call)) (λ (r : LockRow). r.live ≡ true) (own_row t v) (λ r h. h.0) holds.row

  module _ (answer : PoolReply) (e : Entry) (after : List (PoolView D)) (left : Option (BoardView D)) (is : IsEntryOf call answer e)
      (ran : HasRunOn devs moment state_at faults (seats.state_at v) call answer cells table after left) where
    pub back : MayComeBack devs moment state_at faults → runs call ≡ true
        → IfSome (own_row t v) (λ (r : LockRow). ComesBack r.want (seats.state_at v) v.opening.base (e ∷ []) (pools_of after) (option_map (as_table faults) left))
    back law r =
        let told = some_and (λ (x : LockRow). (x.live ≡ true) × (x.want ≡ want_of call)) (own_row t v) holds.row in
        let comes = law (seats.state_at v) call answer e v.opening.base cells after table left r ran is (slack_of_part faults v.opening.base table holds.slack) in
        rw told.1 (subst (λ (w : Want). ComesBack w (seats.state_at v) v.opening.base (e ∷ []) (pools_of after) (option_map (as_table faults) left)) (sym told.2.1) comes)

    pub rose : CountsItsFaults devs moment state_at faults → Rose v t (faults_out after left) (failures_of (e ∷ []))
    rose law = record {
      number = holds.number;
      noted = holds.noted;
      rose = λ short.
          let few : faults_out cells table < last = (let below = holds.few short in omega (arith, below)) in
          let counts = law (seats.state_at v) call answer e cells after table left ran is few in
          let whole = holds.whole short in
          omega (arith, counts, whole);
    }
