-- bytes that are taken or put in two steps
use Rattle.std.proofs.Common.{◌≡◌, ℕ, ◌+◌, ◌<◌, ◌≤◌, List, [], ◌++◌, length, take, drop, Result, Ok, Err, Option, Some, None, refl, sym, ap, ◌∙◌, arith, length-append, length-take, take-append-drop}
use Rattle.std.proofs.lemmas.List.{drop-drop}
use Rattle.std.proofs.Math.Seq.{take-append_seam}
use Rattle.std.proofs.KnownBytes.{Consumes-nil, Consumes-trans, Consumes-kept, Appends-nil, Appends-trans}
use Rattle.std.specs.Prelude.{IfSome}
use Rattle.std.specs.Io.KnownBytes.{Consumes, ReadConsumes, Appends}
use Rattle.st_lines.specs.Lines.{lines_of, AreLinesOf}

pub Consumes-start : (a : Option (List ℕ)) → Consumes a a []
Consumes-start = Consumes-nil

pub Consumes-more : (a b c : Option (List ℕ)) (xs ys : List ℕ) → Consumes a b xs → Consumes b c ys → Consumes a c (xs ++ ys)
Consumes-more = Consumes-trans

-- a read after other reads
pub Consumes-read : {E : Type 0} (a b c : Option (List ℕ)) (xs : List ℕ) (r : Result ℕ E) (buf : List ℕ) → Consumes a b xs → ReadConsumes b c r buf → (ys : List ℕ) × Consumes a c ys
Consumes-read a b c xs (Ok n) buf h g = (xs ++ take n buf, Consumes-trans a b c xs (take n buf) h g.0)
Consumes-read a b c xs (Err e) buf h g = (xs, Consumes-kept a b c xs h g)

-- a source from which more was taken had more
pub Consumes-long : (a b : Option (List ℕ)) (xs : List ℕ) (n : ℕ) → Consumes a b xs → n < length xs → IfSome a (λ input. n < length input)
Consumes-long None b xs n h g = tt
Consumes-long (Some a) None xs n h g = absurd h
Consumes-long (Some a) (Some b) xs n h g = rw h (omega (arith, length-append xs b))

pub Appends-start : (a : Option (List ℕ)) → Appends a a []
Appends-start = Appends-nil

pub Appends-more : (a b c : Option (List ℕ)) (xs ys : List ℕ) → Appends a b xs → Appends b c ys → Appends a c (xs ++ ys)
Appends-more = Appends-trans

-- the front of what is left was copied into the front of a buffer
pub Consumes-copied : (bytes : List ℕ) (given count : ℕ) (front rest : List ℕ) → count ≤ length (drop given bytes) → front ≡ take count (drop given bytes) → drop given bytes ≡ take count (front ++ rest) ++ drop (given + count) bytes
Consumes-copied bytes given count front rest h e =
    let len : count ≡ length front = omega (arith, ap length e, length-take count (drop given bytes), h) in
    let taken : take count (front ++ rest) ≡ take count (drop given bytes) = ap (λ k. take k (front ++ rest)) len ∙ take-append_seam front rest ∙ e in
    sym (ap (λ part. part ++ drop (given + count) bytes) taken ∙ ap (λ part. take count (drop given bytes) ++ part) (sym (drop-drop count given bytes)) ∙ take-append-drop count (drop given bytes))

-- the lines of what a source had left, where it tells it, else none
pub lines_for : (left : Option (List ℕ)) → (lines : List (List ℕ)) × AreLinesOf left lines
lines_for None = ([], tt)
lines_for (Some input) = (lines_of input, refl)
