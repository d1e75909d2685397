-- the limits on an input: 65,536 lines, 16,384 bytes a line, 67,108,864 bytes
use Rattle.std.specs.Prelude.{◌≡◌, ℕ, ◌+◌, List, [], ◌∷◌, ◌++◌, length, take, nat_lt, Option, Some, None, if◌then◌else◌}
use Rattle.std.specs.Option.{option_or}
use Rattle.st_limits.specs.declared.TheConstants.{MAX_LINES, MAX_LINE_BYTES, MAX_INPUT_BYTES}
use Rattle.st_lines.specs.declared.limit.Limit.{Limit}
use Rattle.st_lines.specs.declared.limit.Limit.TheVariants.{Bytes, Lines, Line}
use Rattle.st_lines.specs.Lines.{lines_of}

-- what a line breaks, by its number and its length: where it is one too many, its first byte breaks that already
abbrev pub broken_by_line : ℕ → ℕ → Option Limit
broken_by_line number len =
    if nat_lt MAX_LINES number then Some Lines
    else if nat_lt MAX_LINE_BYTES len then Some (Line number)
    else None

-- what the first line breaks that breaks a limit
abbrev pub broken_by_lines : ℕ → List (List ℕ) → Option Limit
broken_by_lines number [] = None
broken_by_lines number (line ∷ lines) = option_or (broken_by_line number (length line)) (broken_by_lines (number + 1) lines)

-- the limit that is broken first in the order of the bytes: no byte after the first that is too many is looked at,
-- and where that byte breaks another limit too, it counts as that one
unfoldable pub first_broken : List ℕ → Option Limit
first_broken input =
    option_or (broken_by_lines 1 (lines_of (take (MAX_INPUT_BYTES + 1) input)))
    (if nat_lt MAX_INPUT_BYTES (length input) then Some Bytes else None)

-- what a beginning of an input breaks first the whole breaks first, whatever follows
abbrev pub FirstStays : Type 0
FirstStays = (input more : List ℕ) (limit : Limit) → first_broken input ≡ Some limit → first_broken (input ++ more) ≡ Some limit
