-- what contracts see of a book
use Rattle.std.specs.Prelude.{ℕ, ◌==◌, Bool, List, filter, Option, Some, None}
use Rattle.std.specs.List.{sum_by}
use Rattle.st_wants.specs.Lock.{Lock}
use Rattle.st_model.specs.declared.info.PoolInfo.{PoolInfo}
use Rattle.st_model.specs.declared.info.TableInfo.{TableInfo}
use Rattle.st_model.specs.declared.state.PoolState.{PoolState}
use Rattle.st_model.specs.declared.state.TableState.{TableState}
use Rattle.st_history.specs.declared.log.Event.{Event}
use Rattle.st_book.specs.declared.lent.Lent.{Lent}

-- what contracts see of a table
pub record TableView : Type 0 where
  pub state : TableState
  pub slack : ℕ

pub record BookView : Type 0 where
  pub lock : Lock
  pub log : List Event
  -- the started pools that are at home, and what the kept infos show
  pub cells : List PoolState
  pub infos : List PoolInfo
  -- the table, where it is at home, and what its kept info shows
  pub table : Option TableView
  pub table_info : TableInfo
  -- the sum of the numbers of faults of what is at home
  pub faults : ℕ
  -- for each live ticket the number of faults of its part, as it was at the grant
  pub lent : List Lent
  -- the number of each grant in the log, in their order, none ever forgotten
  pub notes : List ℕ

abbrev pub is_lent_to : ℕ → Lent → Bool
is_lent_to t x = x.ticket == t

-- the number of faults with which a ticket's part went out
abbrev pub lent_at : ℕ → List Lent → ℕ
lent_at t xs = sum_by (λ (x : Lent). x.faults) (filter (is_lent_to t) xs)

abbrev pub lent_sum : List Lent → ℕ
lent_sum xs = sum_by (λ (x : Lent). x.faults) xs

abbrev pub or_zero : Option ℕ → ℕ
or_zero None = 0
or_zero (Some n) = n
