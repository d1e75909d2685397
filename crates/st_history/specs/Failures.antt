-- how many calls of a log were answered with a fault of a device
use Rattle.std.specs.Prelude.{ℕ, ◌+◌, ◌==◌, Bool, List, [], ◌∷◌, length, filter}
use Rattle.st_model.specs.declared.entry.Entry.{Entry}
use Rattle.st_history.specs.declared.log.Event.{Event}
use Rattle.st_history.specs.declared.log.Event.TheVariants.{Arrive, Grant, Release}

abbrev pub is_failure : Entry → Bool
is_failure e = e.reply.code == 27

-- the entries that were answered so
abbrev pub failures_of : List Entry → ℕ
failures_of entries = length (filter is_failure entries)

abbrev pub failures_in : Event → ℕ
failures_in (Arrive seat ticket want) = 0
failures_in (Grant seat ticket) = 0
failures_in (Release seat ticket entries) = failures_of entries.items

abbrev pub failures : List Event → ℕ
failures [] = 0
failures (e ∷ es) = failures_in e + failures es
