-- which memory the book keeps ready, so that grants and releases take none
use Rattle.std.specs.Prelude.{ℕ, ◌≡◌, ◌+◌, ◌≤◌, ◌⊎◌, Bool, true, false, not, List, length, filter}
use Rattle.st_wants.specs.declared.row.LockRow.{LockRow}
use Rattle.st_grants.specs.Order.{IsOrdered}
use Rattle.st_wants.specs.Lock.{Lock}
use Rattle.st_wants.specs.Rules.{LiveApart}
use Rattle.st_book.specs.Stands.{TableIsHome, TableIsOut}

-- the tickets that wait
abbrev pub waiting : List LockRow → ℕ
waiting rows = length (filter (λ (r : LockRow). not r.live) rows)

-- the events that the tickets have to come: a grant and a release of those that wait, a release of those that are live
abbrev pub events_due : List LockRow → ℕ
events_due rows = length rows + waiting rows

-- the table is there just where no live ticket has it
abbrev pub TableIsPlaced : Bool → List LockRow → Type 0
TableIsPlaced there rows = ((there ≡ true) × TableIsHome rows) ⊎ ((there ≡ false) × TableIsOut rows)

-- room for what tickets that arrived may still need, and for 16 pools
pub record HasRoom (lock : Lock) (log_room spares_len lent_room cell_places info_places infos_len fresh_room : ℕ) (there : Bool) : Type 0 where
  pub ordered : IsOrdered lock.rows lock.next
  pub apart : LiveApart lock
  pub log : events_due lock.rows ≤ log_room
  pub spares : waiting lock.rows ≤ spares_len
  pub lent : waiting lock.rows ≤ lent_room
  -- places for cells and infos, used or not
  pub cells : 16 ≤ cell_places
  pub infos : 16 ≤ info_places
  pub few : infos_len ≤ 16
  pub fresh : 16 ≤ fresh_room
  pub table : TableIsPlaced there lock.rows
