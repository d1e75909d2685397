-- what the words mean
use Rattle.std.specs.Prelude.{ℕ, List, Bool, false, ◌&&◌, nat_le, Option, Some, None, option_and_then, bytes_eq, codes, if◌then◌else◌}
use Rattle.std.specs.Option.{option_map_or}
use Rattle.std.specs.Str.Parse.{digits_value, without_leading_plus}
use Rattle.clap.specs.ValueTests.{is_unsigned_in}
use Rattle.clap.specs.Words.{Row, first_of, matches_of}
use Rattle.st_limits.specs.declared.TheConstants.{MAX_LANES}
use Rattle.st_words.specs.declared.words.Words.{Words}
use Rattle.st_words.specs.declared.words.RunMode.{RunMode}
use Rattle.st_words.specs.declared.words.RunMode.TheVariants.{Run, Check, Gen}
use Rattle.st_words.specs.Command.{command, takes_words}

abbrev pub mode_named : List ℕ → Option RunMode
mode_named text =
    if bytes_eq text (codes "run") then Some Run
    else if bytes_eq text (codes "check") then Some Check
    else if bytes_eq text (codes "gen") then Some Gen
    else None

-- a number of 64 bits in decimal digits, as the command line reads it: a plus may stand before them
unfoldable pub number_in : List ℕ → Option ℕ
number_in text = if is_unsigned_in 0 18446744073709551615 text then Some (digits_value 10 (without_leading_plus text)) else None

abbrev pub as_lanes : ℕ → Option ℕ
as_lanes lanes = if nat_le 1 lanes && nat_le lanes MAX_LANES then Some lanes else None

-- 1 to 8, and the most where no word says it
unfoldable pub lanes_told : Option (List ℕ) → Option ℕ
lanes_told None = Some MAX_LANES
lanes_told (Some text) = option_and_then as_lanes (number_in text)

-- 0 where no word says it
unfoldable pub number_told : Option (List ℕ) → Option ℕ
number_told None = Some 0
number_told (Some text) = number_in text

abbrev pub is_told : Option (List ℕ) → Bool
is_told flag = option_map_or (λ text. bytes_eq text (codes "true")) flag false

-- each value must be one that its argument may have, also of an option that the mode doesn't use
unfoldable pub meaning : List Row → Option Words
meaning rows =
    option_and_then (λ mode.
    option_and_then (λ lanes.
    option_and_then (λ number.
    Some (record { mode = mode; lanes = lanes; trace = is_told (first_of (codes "trace") rows); recover = false; number = number }))
    (number_told (first_of (codes "number") rows)))
    (lanes_told (first_of (codes "lanes") rows)))
    (option_and_then mode_named (first_of (codes "mode") rows))

-- what the words ask for, None where they aren't in the command's definition
unfoldable pub words_of : List (List ℕ) → Option Words
words_of words = if takes_words words then meaning (matches_of command words) else None
