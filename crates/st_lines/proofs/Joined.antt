-- the lines of a text, joined again
use Rattle.std.proofs.Common.{◌≡◌, ℕ, ◌<◌, List, [], ◌∷◌, length, Bool, true, false, refl, sym, ap, ◌∙◌, arith, eqb-true}
use Rattle.std.proofs.lemmas.List.Splits.{slice_split-cons_yes, slice_split-cons_no, length-slice_split}
use Rattle.std.specs.List.{slice_split, onto_first}
use Rattle.st_lines.specs.Lines.{is_feed, no_empty_last, lines_of}
use Rattle.st_lines.specs.GiveBack.{joined, ended}
use Rattle.st_lines.proofs.Cuts.{no_empty_last-cons}

-- a text of bytes has bytes when it is ended
ended-some : (byte : ℕ) (more : List ℕ) (feed : Bool) → is_feed byte ≡ feed → 0 < length (ended (byte ∷ more))
ended-some byte [] true h = rw h (omega arith)
ended-some byte [] false h = rw h (omega arith)
ended-some byte (next ∷ more) feed h = omega arith

-- a byte that is no LF goes to the front of the first line
joined-onto_first : (byte : ℕ) (pieces : List (List ℕ)) → 0 < length (joined (no_empty_last pieces)) → joined (no_empty_last (onto_first byte pieces)) ≡ byte ∷ joined (no_empty_last pieces)
joined-onto_first byte [] h = absurd (omega (arith, h))
joined-onto_first byte ([] ∷ []) h = absurd (omega (arith, h))
joined-onto_first byte ((first ∷ piece) ∷ []) h = refl
joined-onto_first byte ([] ∷ next ∷ pieces) h = refl
joined-onto_first byte ((first ∷ piece) ∷ next ∷ pieces) h = refl

joined-cons : (byte : ℕ) (more : List ℕ) (feed : Bool) → is_feed byte ≡ feed → joined (lines_of more) ≡ ended more → joined (lines_of (byte ∷ more)) ≡ ended (byte ∷ more)
joined-cons byte [] true h e = rw h (ap (λ b. b ∷ []) (sym (eqb-true byte 10 h)))
joined-cons byte [] false h e = rw h refl
joined-cons byte (next ∷ more) true h e = ap (λ pieces. joined (no_empty_last pieces)) (slice_split-cons_yes is_feed byte (next ∷ more) h)
    ∙ ap joined (no_empty_last-cons [] (slice_split is_feed (next ∷ more)) (omega (arith, length-slice_split is_feed (next ∷ more))))
    ∙ ap (λ rest. 10 ∷ rest) e ∙ ap (λ b. b ∷ ended (next ∷ more)) (sym (eqb-true byte 10 h))
joined-cons byte (next ∷ more) false h e = ap (λ pieces. joined (no_empty_last pieces)) (slice_split-cons_no is_feed byte (next ∷ more) h)
    ∙ joined-onto_first byte (slice_split is_feed (next ∷ more)) (rw e (ended-some next more _ refl)) ∙ ap (λ rest. byte ∷ rest) e

pub joined-lines_of : (text : List ℕ) → joined (lines_of text) ≡ ended text
joined-lines_of [] = refl
joined-lines_of (byte ∷ more) = joined-cons byte more _ refl (joined-lines_of more)
