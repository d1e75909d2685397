-- bytes that lie over others
use Rattle.std.proofs.Common.{◌≡◌, ℕ, ◌+◌, ◌≤◌, List, ◌++◌, length, take, drop, sym, ap, ◌∙◌, subst, arith, length-append}
use Rattle.std.proofs.lemmas.Grind.{common_steps}
use Rattle.std.proofs.lemmas.List.{append_assoc, take-append-drop, take-append-le, drop-append-le}
use Rattle.std.proofs.lemmas.Slice.{drop-append-drop}
use Rattle.std.proofs.Math.Seq.{drop-append-add}
use Rattle.st_model.specs.InPlace.{over}

pub front : (off m : ℕ) (xs ys : List ℕ) → off + m ≤ length xs → take m (drop off (xs ++ ys)) ≡ take m (drop off xs)
front off m xs ys h =
    let rest : m ≤ length (drop off xs) = grind (arith, common_steps) in
    ap (take m) (drop-append-le off xs ys (omega (arith, h))) ∙ take-append-le m (drop off xs) ys rest

pub short : (n : ℕ) (xs : List ℕ) → n ≤ length xs → length (take n xs) ≡ n
short n xs h = grind (arith, common_steps)

pub over-inside : (old : List ℕ) (at : ℕ) (piece : List ℕ) (j m : ℕ) → at ≤ length old → j + m ≤ length piece → take m (drop (at + j) (over old at piece)) ≡ take m (drop j piece)
over-inside old at piece j m low h =
    let rest = piece ++ drop (at + length piece) old in
    let is : length (take at old) ≡ at = short at old low in
    let moved : drop (at + j) (take at old ++ rest) ≡ drop j rest = subst (λ (n : ℕ). drop (n + j) (take at old ++ rest) ≡ drop j rest) is (drop-append-add (take at old) rest j) in
    ap (take m) moved ∙ front j m piece (drop (at + length piece) old) h

pub over-before : (old : List ℕ) (at : ℕ) (piece : List ℕ) (off m : ℕ) → at ≤ length old → off + m ≤ at → take m (drop off (over old at piece)) ≡ take m (drop off old)
over-before old at piece off m low h =
    let is : length (take at old) ≡ at = short at old low in
    let fits : off + m ≤ length (take at old) = omega (arith, is, h) in
    front off m (take at old) (piece ++ drop (at + length piece) old) fits
    ∙ sym (front off m (take at old) (drop at old) fits)
    ∙ ap (λ (l : List ℕ). take m (drop off l)) (take-append-drop at old)

pub over-behind : (old : List ℕ) (at : ℕ) (piece : List ℕ) (off m : ℕ) → at ≤ length old → at + length piece ≤ off → take m (drop off (over old at piece)) ≡ take m (drop off old)
over-behind old at piece off m low h =
    let is : length (take at old) ≡ at = short at old low in
    let ends : length (take at old ++ piece) ≡ at + length piece = length-append (take at old) piece ∙ ap (λ n. n + length piece) is in
    ap (λ (l : List ℕ). take m (drop off l)) (sym (append_assoc (take at old) piece (drop (at + length piece) old)))
    ∙ ap (take m) (drop-append-drop (at + length piece) old (take at old ++ piece) off h ends)
