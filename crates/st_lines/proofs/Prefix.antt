-- bytes of which a sink has taken a prefix
use Rattle.std.proofs.Common.{◌≡◌, ℕ, ◌+◌, List, [], ◌++◌, length, take, drop, Result, Ok, Err, Option, sym, ap, ◌∙◌, subst, append_assoc, append-nil, take-append-drop}
use Rattle.std.proofs.Math.Seq.{take-append_seam, take-append-add}
use Rattle.std.specs.Prelude.{OnOk, OnErr}
use Rattle.std.specs.Io.KnownBytes.{Appends}
use Rattle.st_lines.proofs.Known.{Appends-more}

-- a prefix of the first bytes is one of all
pub Prefix-front : {T E : Type 0} (r : Result T E) (a b : Option (List ℕ)) (xs ys : List ℕ) → (n : ℕ) × Appends a b (take n xs) → OnErr r ((n : ℕ) × Appends a b (take n (xs ++ ys)))
Prefix-front (Ok t) a b xs ys h = tt
Prefix-front (Err e) a b xs ys h =
    let front = take h.0 xs in
    let is : take (length front) (xs ++ ys) ≡ front =
    ap (λ all. take (length front) (all ++ ys)) (sym (take-append-drop h.0 xs)) ∙ ap (take (length front)) (append_assoc front (drop h.0 xs) ys) ∙ take-append_seam front (drop h.0 xs ++ ys) in
    (length front, subst (Appends a b) (sym is) h.1)

-- the first bytes were taken, and then a prefix of the others
pub Prefix-more : {T E : Type 0} (r : Result T E) (a b c : Option (List ℕ)) (xs ys : List ℕ) → Appends a b xs → OnErr r ((n : ℕ) × Appends b c (take n ys)) → OnErr r ((n : ℕ) × Appends a c (take n (xs ++ ys)))
Prefix-more (Ok t) a b c xs ys h g = tt
Prefix-more (Err e) a b c xs ys h g = (length xs + g.0, subst (Appends a c) (sym (take-append-add xs ys g.0)) (Appends-more a b c xs (take g.0 ys) h g.1))

-- the first bytes were taken, and then the others, so that none wait
pub Prefix-all : {T E : Type 0} (r : Result T E) (a b c : Option (List ℕ)) (xs ys rest : List ℕ) → rest ≡ [] → Appends a b xs → OnOk r (Appends b c ys) → OnOk r ((sent : List ℕ) × Appends a c sent × (xs ++ ys ≡ sent ++ rest))
Prefix-all (Ok t) a b c xs ys rest e h g = (xs ++ ys, Appends-more a b c xs ys h g, sym (ap (λ l. (xs ++ ys) ++ l) e ∙ append-nil (xs ++ ys)))
Prefix-all (Err t) a b c xs ys rest e h g = tt
