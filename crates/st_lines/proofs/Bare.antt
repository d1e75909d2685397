-- no line has an LF in it
use Rattle.std.proofs.Common.{◌≡◌, ℕ, List, [], ◌∷◌, Bool, true, false, refl}
use Rattle.std.specs.List.{slice_split, onto_first, AllByRecursion}
use Rattle.st_lines.specs.Lines.{is_feed, no_empty_last, lines_of}
use Rattle.st_lines.specs.GiveBack.{IsNoFeed}

abbrev Bare : List (List ℕ) → Type 0
Bare pieces = AllByRecursion (AllByRecursion IsNoFeed) pieces

Bare-onto_first : (byte : ℕ) (pieces : List (List ℕ)) → IsNoFeed byte → Bare pieces → Bare (onto_first byte pieces)
Bare-onto_first byte [] h g = ((h, tt), tt)
Bare-onto_first byte (piece ∷ pieces) h g = ((h, g.0), g.1)

Bare-cons : (byte : ℕ) (more : List ℕ) (feed : Bool) → is_feed byte ≡ feed → Bare (slice_split is_feed more) → Bare (slice_split is_feed (byte ∷ more))
Bare-cons byte more true h g = rw h (tt, g)
Bare-cons byte more false h g = rw h (Bare-onto_first byte (slice_split is_feed more) h g)

Bare-slice_split : (text : List ℕ) → Bare (slice_split is_feed text)
Bare-slice_split [] = (tt, tt)
Bare-slice_split (byte ∷ more) = Bare-cons byte more _ refl (Bare-slice_split more)

Bare-no_empty_last : (pieces : List (List ℕ)) → Bare pieces → Bare (no_empty_last pieces)
Bare-no_empty_last [] g = tt
Bare-no_empty_last ([] ∷ []) g = tt
Bare-no_empty_last ((byte ∷ piece) ∷ []) g = (g.0, tt)
Bare-no_empty_last ([] ∷ next ∷ pieces) g = (tt, Bare-no_empty_last (next ∷ pieces) g.1)
Bare-no_empty_last ((byte ∷ piece) ∷ next ∷ pieces) g = (g.0, Bare-no_empty_last (next ∷ pieces) g.1)

pub Bare-lines_of : (text : List ℕ) → AllByRecursion (AllByRecursion IsNoFeed) (lines_of text)
Bare-lines_of text = Bare-no_empty_last _ (Bare-slice_split text)
