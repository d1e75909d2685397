-- how the unreleased tickets stand
use Rattle.std.specs.Prelude.{ℕ, ◌<◌, ◌≤◌, List, [], ◌∷◌, IsSome}
use Rattle.st_wants.specs.Lock.{row_at}
use Rattle.std.specs.List.{AllByRecursion}
use Rattle.st_wants.specs.declared.row.LockRow.{LockRow}

-- tickets rise, and all are below the next
abbrev pub IsOrdered : List LockRow → ℕ → Type 0
IsOrdered [] n = Unit {0}
IsOrdered (r ∷ rs) n = (r.ticket < n) × AllByRecursion (λ q. r.ticket < q.ticket) rs × IsOrdered rs n

-- a ticket of the rows, and no greater than any
pub record IsLeastTicket (rows : List LockRow) (t : ℕ) : Type 0 where
  pub here : IsSome (row_at t rows)
  pub least : (u : ℕ) → IsSome (row_at u rows) → t ≤ u
