-- what runs for a ticket runs alike in all states that agree on what it wants
use Rattle.std.specs.Prelude.{List}
use Rattle.st_wants.specs.declared.want.Want.{Want}
use Rattle.st_model.specs.declared.entry.Entry.{Entry}
use Rattle.st_model.specs.declared.state.EngineState.{EngineState}
use Rattle.st_model.specs.Parts.{Agree}
use Rattle.st_model.specs.Valid.{IsValid}
use Rattle.st_history.specs.History.{state_after, AreSteps, AreOneCall, IsOf}

-- Entries that are due after one valid state are due after each valid state that agrees with it on the want, and what they leave agrees on it again.
abbrev pub EntriesGoOver : Type 0
EntriesGoOver = (want : Want) (s t : EngineState) (entries : List Entry) → IsValid s → IsValid t → Agree want s t → AreSteps s entries → AreOneCall s entries → IsOf want entries
    → AreSteps t entries × AreOneCall t entries × Agree want (state_after s entries) (state_after t entries)
