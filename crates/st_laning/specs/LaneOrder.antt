-- lane order: which entries stand in a log for the lines of an input, and in which order
use Rattle.std.specs.Prelude.{ℕ, ◌≡◌, ◌≢◌, ◌↔◌, ◌+◌, ◌<◌, ◌≤◌, List, Some, Ok, slice_get}
use Rattle.st_wants.specs.declared.want.Want.{Want}
use Rattle.st_model.specs.declared.call.Call.{Call}
use Rattle.st_model.specs.declared.entry.Entry.{Entry}
use Rattle.st_history.specs.declared.log.Event.{Event}
use Rattle.st_history.specs.declared.log.Event.TheVariants.{Arrive}
use Rattle.st_model.specs.declared.entry.Origin.TheVariants.{Line}
use Rattle.st_calls.specs.Form.{form}
use Rattle.st_laning.specs.Entries.{entries_of, count_from, StandsAt}

-- line n, counted from 1, is that call, in that lane
pub record IsLineCall (lanes : ℕ) (lines : List (List ℕ)) (n lane : ℕ) (call : Call) : Type 0 where
  pub place : ℕ
  pub numbered : n ≡ place + 1
  pub line : List ℕ
  pub at : slice_get lines place ≡ Some line
  pub read : form lanes line ≡ Ok (lane, call)

-- an entry of the log that stands for line n, which is a call in that lane
pub record IsOfLine (lanes : ℕ) (lines : List (List ℕ)) (log : List Event) (place seat ticket n lane : ℕ) (e : Entry) : Type 0 where
  pub stands : StandsAt log place seat ticket e
  pub from : e.from ≡ Line n
  pub call : IsLineCall lanes lines n lane e.call

pub record LaneOrder (lanes : ℕ) (lines : List (List ℕ)) (log : List Event) : Type 0 where
  -- at most one entry is from a line
  pub once : (n : ℕ) → count_from n (entries_of log) ≤ 1
  -- the line is a call, and the entry's call is that one
  pub calls : (place seat ticket n : ℕ) (e : Entry) → StandsAt log place seat ticket e → e.from ≡ Line n → (lane : ℕ) × IsLineCall lanes lines n lane e.call
  -- one lane has one seat, two lanes have two
  pub seats : (i j s u t v m n k l : ℕ) (e f : Entry) → IsOfLine lanes lines log i s t m k e → IsOfLine lanes lines log j u v n l f → (k ≡ l) ↔ (s ≡ u)
  -- no lane has the session's own seat
  pub apart : (place seat ticket n lane : ℕ) (e : Entry) → IsOfLine lanes lines log place seat ticket n lane e → seat ≢ 0
  -- of two lines of one lane, the earlier one is released before the later one arrives
  pub order : (i j p s u t v m n k : ℕ) (e f : Entry) (want : Want) → IsOfLine lanes lines log i s t m k e → IsOfLine lanes lines log j u v n k f → m < n → slice_get log p ≡ Some (Arrive u v want) → i < p
  -- there is no entry but those from lines, as long as there is neither an event worker nor a closing call
  pub no_other : (place seat ticket : ℕ) (e : Entry) → StandsAt log place seat ticket e → (n : ℕ) × (e.from ≡ Line n)
