-- what the lines of a text keep of it
use Rattle.std.specs.Prelude.{◌≡◌, ℕ, List, [], ◌∷◌, ◌++◌, false, if◌then◌else◌}
use Rattle.std.specs.List.{AllByRecursion}
use Rattle.st_lines.specs.Lines.{is_feed, lines_of}

-- each line with an LF behind it
abbrev pub joined : List (List ℕ) → List ℕ
joined [] = []
joined (line ∷ lines) = line ++ 10 ∷ joined lines

-- the text itself, with an LF at its end where it has bytes and no LF there
abbrev pub ended : List ℕ → List ℕ
ended [] = []
ended (byte ∷ []) = if is_feed byte then byte ∷ [] else byte ∷ 10 ∷ []
ended (byte ∷ next ∷ more) = byte ∷ ended (next ∷ more)

abbrev pub LinesGiveBack : Type 0
LinesGiveBack = (text : List ℕ) → joined (lines_of text) ≡ ended text

abbrev pub IsNoFeed : ℕ → Type 0
IsNoFeed byte = is_feed byte ≡ false

-- no line has an LF in it
abbrev pub LinesAreBare : Type 0
LinesAreBare = (text : List ℕ) → AllByRecursion (AllByRecursion IsNoFeed) (lines_of text)
