-- scripts of calls, and what step answers to each where it meets nothing
use Rattle.std.specs.Prelude.{ℕ, ◌+◌, List, [], ◌∷◌}
use Rattle.st_units.specs.declared.rows.DevRow.{DevRow}
use Rattle.st_units.specs.declared.rows.Tier.TheVariants.{DataTier}
use Rattle.st_model.specs.declared.call.Call.{Call}
use Rattle.st_model.specs.declared.entry.Env.TheVariants.{Plain}
use Rattle.st_model.specs.declared.reply.Reply.{Reply}
use Rattle.st_model.specs.declared.state.EngineState.{EngineState}
use Rattle.st_model.specs.Look.{Text}
use Rattle.st_model.specs.Step.{step}

-- the path /dev/sim and a digit
abbrev pub sim : ℕ → Text
sim n = 47 ∷ 100 ∷ 101 ∷ 118 ∷ 47 ∷ 115 ∷ 105 ∷ 109 ∷ (48 + n) ∷ []

-- device n of a rack, of so many sectors
abbrev pub device : ℕ → ℕ → DevRow
device n sectors = record { path = sim n; tier = DataTier; sectors = sectors }

-- no pool is known yet
abbrev pub on_rack : List DevRow → EngineState
on_rack rows = record { pools = []; devices = rows; next = 1 }

abbrev pub replies : EngineState → List Call → List Reply
replies s [] = []
replies s (call ∷ calls) = (step s call Plain).0 ∷ replies (step s call Plain).1 calls

abbrev pub after : EngineState → List Call → EngineState
after s [] = s
after s (call ∷ calls) = after (step s call Plain).1 calls
