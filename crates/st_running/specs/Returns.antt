-- What a book asks of the release of a ticket whose call has run.
use Rattle.std.specs.Prelude.{◌≡◌, ℕ, ◌+◌, ◌<◌, ◌≤◌, ◌^◌, true, false, List, [], ◌∷◌, length, Option, Some, is_some, option_map, IfSome, IsSomeAnd}
use Rattle.std.specs.List.{AllByRecursion}
use Rattle.st_wants.specs.Lock.{row_at}
use Rattle.st_wants.specs.Wants.{takes_table}
use Rattle.st_model.specs.declared.call.Call.{Call}
use Rattle.st_model.specs.declared.entry.Entry.{Entry}
use Rattle.st_model.specs.declared.state.EngineState.{EngineState}
use Rattle.st_model.specs.Parts.{shown_table}
use Rattle.st_model.specs.Pieces.{info_at}
use Rattle.st_model.specs.Shown.{pool_info}
use Rattle.st_model.specs.Valid.{IsValid}
use Rattle.st_model.specs.Wanted.{want_of}
use Rattle.st_history.specs.Failures.{failures_of}
use Rattle.st_history.specs.History.{replay}
use Rattle.st_book.specs.Stands.{ComesBack, Stands}
use Rattle.st_book.specs.View.{BookView, lent_at}
use Rattle.st_rack.specs.Device.{State}
use Rattle.st_rack.specs.Calls.{Devices}
use Rattle.st_pool.specs.declared.reply.PoolReply.{PoolReply}
use Rattle.st_pool.specs.View.{PoolView}
use Rattle.st_board.specs.View.{BoardView, pools_of, slack_of}
use Rattle.st_running.specs.Calls.{runs}
use Rattle.st_running.specs.Gives.{IsEntryOf}
use Rattle.st_running.specs.Part.{HasRunOn, as_table, faults_out}

module _ {D : Type 0} (devs : D → Devices) (moment : D → ℕ) (state_at : D → ℕ → State) (faults : D → ℕ) where
  -- The ticket is granted in the book with what the call wants; and the part that it got has these numbers of faults, and a board with
  -- no lower slack.
  pub record IsHeld (s0 : EngineState) (base : ℕ) (b : BookView) (t : ℕ) (call : Call) (cells : List (PoolView D)) (table : Option (BoardView D)) : Type 0 where
    pub stands : Stands s0 base b
    pub valid : IsValid (replay s0 b.log)
    pub row : IsSomeAnd (row_at t b.lock.rows) (λ r. (r.live ≡ true) × (r.want ≡ want_of call))
    pub slack : IfSome table (λ (x : BoardView D). base ≤ slack_of faults x)
    pub lent : length b.log < 2 ^ 62 → lent_at t b.lent ≡ faults_out cells table

  -- all that a book asks of what comes back with this entry
  pub record MayGoHome (s0 : EngineState) (base : ℕ) (b : BookView) (t : ℕ) (e : Entry) (after : List (PoolView D)) (left : Option (BoardView D)) : Type 0 where
    pub fitting : IfSome (row_at t b.lock.rows) (λ r. is_some left ≡ takes_table r.want)
    pub few : length b.cells + length after ≤ 16
    pub back : IfSome (row_at t b.lock.rows) (λ r. ComesBack r.want (replay s0 b.log) base (e ∷ []) (pools_of after) (option_map (as_table faults) left))
    pub spares : AllByRecursion (λ (c : PoolView D). c.spare ≡ false → info_at c.pool.name b.infos ≡ Some (pool_info c.pool)) after
    pub spare : IfSome left (λ (x : BoardView D). x.spare ≡ false → b.table_info ≡ shown_table x.state)
    pub number : length b.log < 2 ^ 62 → faults_out after left ≡ lent_at t b.lent + failures_of (e ∷ [])

  abbrev pub GoesHome : Type 0
  GoesHome = (s0 : EngineState) (base : ℕ) (b : BookView) (t : ℕ) (call : Call) (answer : PoolReply) (e : Entry) (cells after : List (PoolView D)) (table left : Option (BoardView D))
      → IsHeld s0 base b t call cells table → runs call ≡ true → HasRunOn devs moment state_at faults (replay s0 b.log) call answer cells table after left → IsEntryOf call answer e
      → MayGoHome s0 base b t e after left
