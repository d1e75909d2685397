-- a line as a place in its text
use Rattle.std.specs.Prelude.{ℕ, ◌≤◌, List, length, slice_range}
use Rattle.st_lines.specs.declared.lines.Span.{Span}

abbrev pub line_at : List ℕ → Span → List ℕ
line_at text span = slice_range text span.from span.to

abbrev pub LiesIn : List ℕ → Span → Type 0
LiesIn text span = (span.from ≤ span.to) × (span.to ≤ length text)
