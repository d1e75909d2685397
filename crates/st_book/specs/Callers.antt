-- what callers of a release may rest on: what comes back fits beside what is at home
use Rattle.std.specs.Prelude.{ℕ, ◌≡◌, ◌+◌, ◌≤◌, true, List, length, Option, Some}
use Rattle.st_wants.specs.declared.row.LockRow.{LockRow}
use Rattle.st_wants.specs.Lock.{row_at}
use Rattle.st_model.specs.declared.entry.Entry.{Entry}
use Rattle.st_model.specs.declared.state.EngineState.{EngineState}
use Rattle.st_model.specs.declared.state.PoolState.{PoolState}
use Rattle.st_model.specs.Parts.{started}
use Rattle.st_history.specs.History.{replay, state_after}
use Rattle.st_book.specs.Stands.{Stands, ComesBack}
use Rattle.st_book.specs.View.{BookView, TableView}

-- the cells at home and those that come back are no more than the started pools after the entries
abbrev pub PartFits : Type 0
PartFits = (s : EngineState) (base : ℕ) (b : BookView) (t : ℕ) (r : LockRow) (entries : List Entry) (cells : List PoolState) (table : Option TableView)
    → Stands s base b → row_at t b.lock.rows ≡ Some r → r.live ≡ true → ComesBack r.want (replay s b.log) base entries cells table
    → length b.cells + length cells ≤ length (started (state_after (replay s b.log) entries))
