-- an output that is printed piece by piece, of which an outlet holds some bytes back
use Rattle.std.specs.Prelude.{ℕ, ◌≡◌, List, ◌++◌, Option}
use Rattle.std.specs.Io.KnownBytes.{Appends}

-- the sink took the front of the whole, then come the bytes that wait, and then the rest
pub record Printing (before now : Option (List ℕ)) (waiting rest whole : List ℕ) : Type 0 where
  pub written : List ℕ
  pub took : Appends before now written
  pub makes : written ++ (waiting ++ rest) ≡ whole

-- the sink took a prefix of the whole
pub record Started (before now : Option (List ℕ)) (whole : List ℕ) : Type 0 where
  pub written : List ℕ
  pub rest : List ℕ
  pub took : Appends before now written
  pub makes : written ++ rest ≡ whole

-- the text is printed, whatever comes before and behind it
abbrev pub Prints : Option (List ℕ) → List ℕ → Option (List ℕ) → List ℕ → List ℕ → Type 0
Prints held waiting now left text = (before : Option (List ℕ)) (rest whole : List ℕ) → Printing before held waiting (text ++ rest) whole → Printing before now left rest whole

-- the printing stopped on the way
abbrev pub Stops : Option (List ℕ) → List ℕ → Option (List ℕ) → List ℕ → Type 0
Stops held waiting now text = (before : Option (List ℕ)) (rest whole : List ℕ) → Printing before held waiting (text ++ rest) whole → Started before now whole
