-- what the words ask for
use Rattle.std.specs.Prelude.{ℕ, Bool, true, false, not, Option, Some, None, option_map}
use Rattle.st_words.specs.declared.words.Words.{Words}
use Rattle.st_words.specs.declared.words.RunMode.{RunMode}
use Rattle.st_words.specs.declared.words.RunMode.TheVariants.{Run, Check, Gen}

-- the words that are served: those without the power cut, which isn't built
abbrev pub are_served : Option Words → Bool
are_served None = false
are_served (Some words) = not words.recover

abbrev pub asks_mode : Option Words → Option RunMode
asks_mode words = option_map (λ (w : Words). w.mode) words

abbrev pub asks_trace : Option Words → Bool
asks_trace None = false
asks_trace (Some words) = words.trace

-- how many lanes the words ask for
abbrev pub asks_lanes : Option Words → ℕ
asks_lanes None = 1
asks_lanes (Some words) = words.lanes

-- of which script
abbrev pub asks_number : Option Words → ℕ
asks_number None = 0
asks_number (Some words) = words.number

-- a mode that reads an input
abbrev pub reads_input : RunMode → Bool
reads_input Run = true
reads_input Check = true
reads_input Gen = false

-- the words ask for an input to be read
abbrev pub ask_input : Option Words → Bool
ask_input None = false
ask_input (Some words) = reads_input words.mode
