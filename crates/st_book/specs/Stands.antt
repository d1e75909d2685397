-- what the book stands for
use Rattle.std.specs.Prelude.{ℕ, ◌≡◌, ◌+◌, ◌<◌, ◌≤◌, ◌^◌, ◌⊎◌, true, false, List, length, Option, Some, None, option_map, IfSome, IsSomeAnd}
use Rattle.st_wants.specs.declared.row.LockRow.{LockRow}
use Rattle.st_wants.specs.declared.want.Want.{Want}
use Rattle.st_wants.specs.Lock.{row_at, start}
use Rattle.st_wants.specs.Rules.{lock_run}
use Rattle.st_wants.specs.Wants.{writes, reads, takes_table}
use Rattle.st_model.specs.declared.entry.Entry.{Entry}
use Rattle.st_model.specs.declared.info.PoolInfo.{PoolInfo}
use Rattle.st_model.specs.declared.info.TableInfo.{TableInfo}
use Rattle.st_model.specs.declared.state.EngineState.{EngineState}
use Rattle.st_model.specs.declared.state.PoolState.{PoolState}
use Rattle.st_model.specs.Look.{Text}
use Rattle.st_model.specs.Parts.{own, pool_at, table_of, shown_table}
use Rattle.st_model.specs.Pieces.{AreNamedApart, ArePools, ShowPools, every}
use Rattle.st_history.specs.Failures.{failures}
use Rattle.st_history.specs.History.{History, moves_of, replay, state_after, AreSteps, AreOneCall, IsOf}
use Rattle.st_book.specs.Effects.{table_given, table_info_given}
use Rattle.st_book.specs.Noted.{noted_log, grant_count, LentAsNoted}
use Rattle.st_book.specs.View.{BookView, TableView, lent_at, lent_sum}

-- the pool of this name is with a live ticket
pub record IsOut (n : Text) (rows : List LockRow) : Type 0 where
  pub ticket : ℕ
  pub row : LockRow
  pub at : row_at ticket rows ≡ Some row
  pub live : row.live ≡ true
  pub writes_it : writes row.want n ≡ true

-- no live ticket has the pool of this name
abbrev pub IsHome : Text → List LockRow → Type 0
IsHome n rows = (t : ℕ) (r : LockRow) → row_at t rows ≡ Some r → r.live ≡ true → writes r.want n ≡ false

-- the table is with a live ticket
pub record TableIsOut (rows : List LockRow) : Type 0 where
  pub ticket : ℕ
  pub row : LockRow
  pub at : row_at ticket rows ≡ Some row
  pub live : row.live ≡ true
  pub takes : takes_table row.want ≡ true

-- no live ticket has the table
abbrev pub TableIsHome : List LockRow → Type 0
TableIsHome rows = (t : ℕ) (r : LockRow) → row_at t rows ≡ Some r → r.live ≡ true → takes_table r.want ≡ false

-- The started pools at home and the table are those of the state, but for what live tickets have.
pub record AreAtHome (rows : List LockRow) (s : EngineState) (home : List PoolState) (table : Option TableView) : Type 0 where
  pub apart : AreNamedApart home
  -- each cell at home stands for its pool, and is with no ticket
  pub cells : (n : Text) (p : PoolState) → pool_at n home ≡ Some p → (own n s ≡ Some p) × IsHome n rows
  -- each started pool is at home or out
  pub all : (n : Text) (p : PoolState) → own n s ≡ Some p → (pool_at n home ≡ Some p) ⊎ IsOut n rows
  pub board : (IsSomeAnd table (λ v. v.state ≡ table_of s) × TableIsHome rows) ⊎ ((table ≡ None) × TableIsOut rows)

-- The book stands for its log, from the state s0 on, and its table's slack isn't below the base.
pub record Stands (s0 : EngineState) (base : ℕ) (b : BookView) : Type 0 where
  pub history : History s0 b.log
  pub lock : b.lock ≡ lock_run start (moves_of b.log)
  pub home : AreAtHome b.lock.rows (replay s0 b.log) b.cells b.table
  pub infos : ShowPools every (replay s0 b.log) b.infos
  pub table_info : b.table_info ≡ shown_table (table_of (replay s0 b.log))
  pub slack : IfSome b.table (λ v. base ≤ v.slack)
  -- what is out counts with its number at the grant
  pub faults : length b.log < 2 ^ 62 → failures b.log ≡ b.faults + lent_sum b.lent
  pub idle : (t : ℕ) → ((r : LockRow) → row_at t b.lock.rows ≡ Some r → r.live ≡ false) → lent_at t b.lent ≡ 0
  -- each grant is noted, and a live ticket's number is the one noted
  pub grants : length b.notes ≡ grant_count b.log
  pub noted : LentAsNoted b.lock (noted_log b.log b.notes) b.lent

-- the cells and the table are those that the want lets its holder change, as they are in the state
pub record PartStands (want : Want) (s : EngineState) (cells : List PoolState) (table : Option TableView) : Type 0 where
  pub pools : ArePools (writes want) s cells
  pub board : option_map (λ (v : TableView). v.state) table ≡ table_given want (Some (table_of s))

-- the infos show the pools that the want lets its holder read, and the table's info the table, as they are in the state
pub record PartShows (want : Want) (s : EngineState) (infos : List PoolInfo) (table_info : Option TableInfo) : Type 0 where
  pub pools : ShowPools (reads want) s infos
  pub board : table_info ≡ table_info_given want (shown_table (table_of s))

-- The entries are due after the state for a ticket with this want, and what comes back stands for the state after them.
pub record ComesBack (want : Want) (s : EngineState) (base : ℕ) (entries : List Entry) (cells : List PoolState) (table : Option TableView) : Type 0 where
  pub steps : AreSteps s entries
  pub one : AreOneCall s entries
  pub of : IsOf want entries
  pub part : PartStands want (state_after s entries) cells table
  pub slack : IfSome table (λ v. base ≤ v.slack)
