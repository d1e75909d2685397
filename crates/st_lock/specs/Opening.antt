-- what a book opened with, and whose its events are
use Rattle.st_model.specs.Parts.{table_of, started}
use Rattle.std.specs.Prelude.{ℕ, ◌≡◌, [], List, map, Option, Some, None}
use Rattle.st_history.specs.declared.log.Event.{Event}
use Rattle.st_history.specs.Own.{seat_of}
use Rattle.st_model.specs.declared.state.EngineState.{EngineState}
use Rattle.st_model.specs.declared.state.TableState.{TableState}
use Rattle.st_model.specs.Valid.{IsValid}
use Rattle.st_book.specs.declared.noted.Noted.{Noted}
use Rattle.st_book.specs.Noted.{noted_log}
use Rattle.st_book.specs.Stands.{Stands}
use Rattle.st_book.specs.View.{BookView, TableView}
use Rattle.st_lock.specs.declared.desk.Opening.{Opening}

abbrev pub noted_by : Noted → ℕ
noted_by x = seat_of x.event

abbrev pub events_of : List Noted → List Event
events_of xs = map (λ (x : Noted). x.event) xs

-- the state without started pools for which a table stands
abbrev pub state_of : TableState → EngineState
state_of t = record { pools = t.stopped; devices = t.devices; next = t.next }

abbrev pub no_opening : Opening
no_opening = record { state = record { pools = []; devices = []; next = 1 }; base = 0 }

abbrev pub opening_of : Option TableView → Opening
opening_of None = no_opening
opening_of (Some v) = record { state = state_of v.state; base = v.slack }

-- the opening is valid, and the book stands for its log from it on
pub record Fits (o : Opening) (b : BookView) : Type 0 where
  pub valid : IsValid o.state
  pub stands : Stands o.state o.base b

-- the log of a book, each grant with its number
abbrev pub noted_of : BookView → List Noted
noted_of b = noted_log b.log b.notes

-- the table is that of a valid state without started pools
pub record IsOpening (t : TableState) : Type 0 where
  pub table : table_of (state_of t) ≡ t
  pub none : started (state_of t) ≡ []
  pub valid : IsValid (state_of t)
