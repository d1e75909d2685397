-- the entries of a log
use Rattle.std.specs.Prelude.{ℕ, ◌≡◌, ◌+◌, ◌==◌, List, [], ◌∷◌, ◌++◌, Bool, false, Option, Some, find, slice_get, if◌then◌else◌}
use Rattle.st_units.specs.Roomy.{Roomy}
use Rattle.st_model.specs.declared.entry.Entry.{Entry}
use Rattle.st_history.specs.declared.log.Event.{Event}
use Rattle.st_history.specs.declared.log.Event.TheVariants.{Arrive, Grant, Release}
use Rattle.st_model.specs.declared.entry.Origin.{Origin}
use Rattle.st_model.specs.declared.entry.Origin.TheVariants.{Line, Prepare, Close}
use Rattle.st_model.specs.declared.entry.Origin.TheVariants as origins

-- all entries, in the log's order
abbrev pub entries_of : List Event → List Entry
entries_of [] = []
entries_of (Arrive seat ticket want ∷ log) = entries_of log
entries_of (Grant seat ticket ∷ log) = entries_of log
entries_of (Release seat ticket entries ∷ log) = entries.items ++ entries_of log

abbrev pub is_line : ℕ → Origin → Bool
is_line n (Line m) = m == n
is_line n origins.Event = false
is_line n Prepare = false
is_line n Close = false

abbrev pub is_from : ℕ → Entry → Bool
is_from n e = is_line n e.from

-- the first entry from line n
abbrev pub entry_of : ℕ → List Entry → Option Entry
entry_of n = find (is_from n)

-- how many entries are from line n
abbrev pub count_from : ℕ → List Entry → ℕ
count_from n [] = 0
count_from n (e ∷ es) = (if is_from n e then 1 else 0) + count_from n es

-- the release at that place of the log, by that seat and of that ticket, holds the entry
pub record StandsAt (log : List Event) (place seat ticket : ℕ) (e : Entry) : Type 0 where
  pub entries : Roomy Entry
  pub at : slice_get log place ≡ Some (Release seat ticket entries)
  pub within : ℕ
  pub among : slice_get entries.items within ≡ Some e
