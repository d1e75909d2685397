-- What a call makes of the part that its ticket has.
use Rattle.std.specs.Prelude.{◌≡◌, ℕ, ◌+◌, ◌==◌, ◌<◌, ◌≤◌, ◌⊎◌, Bool, false, List, Option, Some, option_map, IfSome}
use Rattle.std.specs.List.{AllByRecursion, sum_by}
use Rattle.st_units.specs.declared.cause.Cause.TheVariants.{OutOfMemory}
use Rattle.st_model.specs.declared.call.Call.{Call}
use Rattle.st_model.specs.declared.call.Call.TheVariants.{EngineStateReport}
use Rattle.st_model.specs.declared.entry.Env.TheVariants.{NoMem, Plain}
use Rattle.st_model.specs.declared.info.PoolInfo.{PoolInfo}
use Rattle.st_model.specs.declared.info.TableInfo.{TableInfo}
use Rattle.st_model.specs.declared.state.EngineState.{EngineState}
use Rattle.st_model.specs.Answer.{refused}
use Rattle.st_model.specs.Parts.{own, shown_table, table_of}
use Rattle.st_model.specs.Shown.{pool_info}
use Rattle.st_model.specs.Step.{IsLicensed, step}
use Rattle.st_model.specs.Valid.{IsValid}
use Rattle.st_model.specs.Wanted.{want_of}
use Rattle.st_book.specs.Stands.{PartShows, PartStands}
use Rattle.st_book.specs.View.{or_zero}
use Rattle.st_book.specs.View as book
use Rattle.st_rack.specs.Device.{State}
use Rattle.st_rack.specs.Calls.{Devices}
use Rattle.st_pool.specs.declared.reply.PoolReply.{PoolReply}
use Rattle.st_pool.specs.Answered.{answered}
use Rattle.st_pool.specs.View.{IsKeptOn, PoolView}
use Rattle.st_board.specs.Holds.{IsBoardKept}
use Rattle.st_board.specs.Ran.{more}
use Rattle.st_board.specs.View.{BoardView, faults_of, last, pools_of, slack_of}

-- the board, as a book sees it
abbrev pub as_table : {D : Type 0} → (D → ℕ) → BoardView D → book.TableView
as_table faults b = record { state = b.state; slack = slack_of faults b }

-- the sum of the numbers of faults of a part
abbrev pub faults_out : {D : Type 0} → List (PoolView D) → Option (BoardView D) → ℕ
faults_out cells table = or_zero (option_map faults_of table) + sum_by (λ c. c.faults) cells

-- what a report of the engine is answered: what the model says, or want of memory
abbrev pub IsReport : EngineState → PoolReply → Type 0
IsReport s answer = (answer ≡ answered Plain (step s EngineStateReport Plain).0) ⊎ (answer ≡ answered NoMem (refused OutOfMemory))

module _ {D : Type 0} (devs : D → Devices) (moment : D → ℕ) (state_at : D → ℕ → State) (faults : D → ℕ) where
  -- The started pools and the board are those that the call wants of this state, and the devices keep them; and what is to be shown is
  -- shown, unless the part is short.
  pub record IsPart (s : EngineState) (call : Call) (cells : List (PoolView D)) (table : Option (BoardView D)) (infos : List PoolInfo) (table_info : Option TableInfo) (short : Bool) : Type 0 where
    pub valid : IsValid s
    pub part : PartStands (want_of call) s (pools_of cells) (option_map (as_table faults) table)
    pub kept : AllByRecursion (IsKeptOn devs moment state_at) cells
    pub shows : short ≡ false → PartShows (want_of call) s infos table_info

  -- The call ran on them: it was answered as the model answers it in this state for what it met, and they are what it leaves.
  pub record HasRunOn (s : EngineState) (call : Call) (answer : PoolReply) (cells : List (PoolView D)) (table : Option (BoardView D)) (after : List (PoolView D)) (left : Option (BoardView D)) : Type 0 where
    pub licensed : IsLicensed s call answer.env
    pub replied : answer.reply ≡ (step s call answer.env).0
    pub twin : answer.twin ≡ answer.reply
    pub low : answer.low ≡ false
    pub part : PartStands (want_of call) (step s call answer.env).1 (pools_of after) (option_map (as_table faults) left)
    pub kept : AllByRecursion (IsKeptOn devs moment state_at) after × IfSome left (IsBoardKept devs moment state_at)
    -- an info to give is missing only where nothing changed that it shows
    pub shown : AllByRecursion (λ (c : PoolView D). c.spare ≡ false → option_map pool_info (own c.pool.name s) ≡ Some (pool_info c.pool)) after
    pub table_shown : IfSome left (λ (b : BoardView D). b.spare ≡ false → shown_table (table_of s) ≡ shown_table b.state)
    -- each fault that is answered is counted, as long as the counts go
    pub counts : faults_out cells table < last → faults_out after left ≡ faults_out cells table + more (answer.reply.code == 27)
    pub slack : (base : ℕ) → IfSome table (λ (b : BoardView D). base ≤ slack_of faults b) → IfSome left (λ (b : BoardView D). base ≤ slack_of faults b)
