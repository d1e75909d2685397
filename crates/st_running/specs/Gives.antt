-- What a call that ran on its part gives back, with one entry.
use Rattle.std.specs.Prelude.{◌≡◌, ℕ, ◌+◌, ◌<◌, ◌≤◌, Bool, true, List, [], ◌∷◌, Option, Some, IfSome, option_map}
use Rattle.st_wants.specs.declared.want.Want.TheVariants.{All}
use Rattle.st_wants.specs.declared.want.Mode.TheVariants.{Write}
use Rattle.st_model.specs.declared.call.Call.{Call}
use Rattle.st_model.specs.declared.entry.Entry.{Entry}
use Rattle.st_model.specs.declared.info.PoolInfo.{PoolInfo}
use Rattle.st_model.specs.declared.info.TableInfo.{TableInfo}
use Rattle.st_model.specs.declared.state.EngineState.{EngineState}
use Rattle.st_model.specs.Wanted.{want_of}
use Rattle.st_history.specs.Failures.{failures_of}
use Rattle.st_history.specs.History.{IsNotPrepare}
use Rattle.st_book.specs.Stands.{ComesBack}
use Rattle.st_rack.specs.Device.{State}
use Rattle.st_rack.specs.Calls.{Devices}
use Rattle.st_pool.specs.declared.reply.PoolReply.{PoolReply}
use Rattle.st_pool.specs.View.{PoolView}
use Rattle.st_board.specs.Holds.{IsBoardKept}
use Rattle.st_board.specs.Ran.{AreAll, HasRun}
use Rattle.st_board.specs.View.{BoardView, last, pools_of, slack_of}
use Rattle.st_running.specs.Calls.{runs}
use Rattle.st_running.specs.Part.{HasRunOn, IsPart, as_table, faults_out}

-- the entry of the call, with what it met and its reply
pub record IsEntryOf (call : Call) (answer : PoolReply) (e : Entry) : Type 0 where
  pub call_is : e.call ≡ call
  pub env_is : e.env ≡ answer.env
  pub reply_is : e.reply ≡ answer.reply
  pub from : IsNotPrepare e.from

module _ {D : Type 0} (devs : D → Devices) (moment : D → ℕ) (state_at : D → ℕ → State) (faults : D → ℕ) where
  -- a part for all to write is every started pool and the board
  abbrev pub IsOfAll : Type 0
  IsOfAll = (s : EngineState) (call : Call) (cells : List (PoolView D)) (b : BoardView D) (infos : List PoolInfo) (table_info : Option TableInfo) (short : Bool)
      → want_of call ≡ All Write → IsPart devs moment state_at faults s call cells (Some b) infos table_info short → AreAll devs moment state_at faults s cells b

  -- and a call that ran on these has run on the part
  abbrev pub RanOnAll : Type 0
  RanOnAll = (s : EngineState) (call : Call) (answer : PoolReply) (cells after : List (PoolView D)) (was b : BoardView D)
      → want_of call ≡ All Write → runs call ≡ true → IsBoardKept devs moment state_at b → HasRun devs moment state_at faults s call answer cells was after b
      → HasRunOn devs moment state_at faults s call answer cells (Some was) after (Some b)

  -- What it leaves may come back with its entry, to a book whose table had a slack of this base at least.
  abbrev pub MayComeBack : Type 0
  MayComeBack = (s : EngineState) (call : Call) (answer : PoolReply) (e : Entry) (base : ℕ) (cells after : List (PoolView D)) (table left : Option (BoardView D))
      → runs call ≡ true → HasRunOn devs moment state_at faults s call answer cells table after left → IsEntryOf call answer e → IfSome table (λ (b : BoardView D). base ≤ slack_of faults b)
      → ComesBack (want_of call) s base (e ∷ []) (pools_of after) (option_map (as_table faults) left)

  -- and its numbers of faults have risen by the entry's
  abbrev pub CountsItsFaults : Type 0
  CountsItsFaults = (s : EngineState) (call : Call) (answer : PoolReply) (e : Entry) (cells after : List (PoolView D)) (table left : Option (BoardView D))
      → HasRunOn devs moment state_at faults s call answer cells table after left → IsEntryOf call answer e → faults_out cells table < last
      → faults_out after left ≡ faults_out cells table + failures_of (e ∷ [])
