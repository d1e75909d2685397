-- a log leaves a valid state of a valid one
use Rattle.std.proofs.Common.{List, [], ◌∷◌}
use Rattle.st_model.proofs.Validity.{step-keeps}
use Rattle.st_model.specs.declared.entry.Entry.{Entry}
use Rattle.st_model.specs.declared.state.EngineState.{EngineState}
use Rattle.st_model.specs.Step.{step}
use Rattle.st_model.specs.Valid.{IsValid}
use Rattle.st_history.specs.declared.log.Event.{Event}
use Rattle.st_history.specs.declared.log.Event.TheVariants.{Arrive, Grant, Release}
use Rattle.st_history.specs.History.{state_after, state_past, replay}

pub valid_entries : (s : EngineState) (entries : List Entry) → IsValid s → IsValid (state_after s entries)
valid_entries s [] h = h
valid_entries s (e ∷ es) h = valid_entries (step s e.call e.env).1 es (step-keeps s e.call e.env h)

valid_past : (s : EngineState) (e : Event) → IsValid s → IsValid (state_past s e)
valid_past s (Arrive seat ticket want) h = h
valid_past s (Grant seat ticket) h = h
valid_past s (Release seat ticket entries) h = valid_entries s entries.items h

pub valid_replay : (s : EngineState) (log : List Event) → IsValid s → IsValid (replay s log)
valid_replay s [] h = h
valid_replay s (e ∷ es) h = valid_replay (state_past s e) es (valid_past s e h)
