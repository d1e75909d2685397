-- printing, piece by piece
use Rattle.std.proofs.Common.{◌≡◌, ℕ, List, [], ◌++◌, take, drop, Option, Result, Ok, Err, refl, sym, ap, ◌∙◌, subst, append-nil, append_assoc, take-append-drop}
use Rattle.std.specs.Prelude.{OnOk, OnErr}
use Rattle.std.specs.Io.KnownBytes.{Appends}
use Rattle.st_lines.proofs.Known.{Appends-start, Appends-more}
use Rattle.st_lines.specs.Printing.{Printing, Started}

pub printing_start : (held : Option (List ℕ)) (whole : List ℕ) → Printing held held [] whole whole
printing_start held whole = record { written = []; took = Appends-start held; makes = refl }

-- where nothing was put, a beginning of anything was
pub started_nothing : (held : Option (List ℕ)) (whole : List ℕ) → Started held held whole
started_nothing held whole = record { written = []; rest = whole; took = Appends-start held; makes = refl }

-- what is printed so far is a prefix
pub printing-Started : (before now : Option (List ℕ)) (waiting rest whole : List ℕ) → Printing before now waiting rest whole → Started before now whole
printing-Started before now waiting rest whole h = record { written = h.written; rest = waiting ++ rest; took = h.took; makes = h.makes }

-- one piece more, of which some was sent and some waits
pub printing_more : (before old new : Option (List ℕ)) (waiting left text rest whole sent : List ℕ) → Printing before old waiting (text ++ rest) whole → Appends old new sent → waiting ++ text ≡ sent ++ left → Printing before new left rest whole
printing_more before old new waiting left text rest whole sent h took e = record {
  written = h.written ++ sent;
  took = Appends-more before old new h.written sent h.took took;
  makes = append_assoc h.written sent (left ++ rest)
      ∙ ap (λ t. h.written ++ t) (sym (append_assoc sent left rest) ∙ ap (λ t. t ++ rest) (sym e) ∙ append_assoc waiting text rest)
      ∙ h.makes;
}

-- a piece that was cut off
pub printing_cut : (before old new : Option (List ℕ)) (waiting text rest whole : List ℕ) (n : ℕ) → Printing before old waiting (text ++ rest) whole → Appends old new (take n (waiting ++ text)) → Started before new whole
printing_cut before old new waiting text rest whole n h took = record {
  written = h.written ++ take n (waiting ++ text);
  rest = drop n (waiting ++ text) ++ rest;
  took = Appends-more before old new h.written _ h.took took;
  makes = append_assoc h.written (take n (waiting ++ text)) (drop n (waiting ++ text) ++ rest)
      ∙ ap (λ t. h.written ++ t) (sym (append_assoc (take n (waiting ++ text)) (drop n (waiting ++ text)) rest) ∙ ap (λ t. t ++ rest) (take-append-drop n (waiting ++ text)) ∙ append_assoc waiting text rest)
      ∙ h.makes;
}

-- all that waits is the rest, and it was sent
pub printing_end : (before old new : Option (List ℕ)) (waiting whole : List ℕ) → Printing before old waiting [] whole → Appends old new waiting → Appends before new whole
printing_end before old new waiting whole h took =
    let makes : h.written ++ waiting ≡ whole = ap (λ t. h.written ++ t) (sym (append-nil waiting)) ∙ h.makes in
    subst (Appends before new) makes (Appends-more before old new h.written waiting h.took took)

-- what follows from an answer follows where that answer came
pub ok_then : {T E : Type 0} (r : Result T E) (A B : Type 0) → (A → B) → OnOk r A → OnOk r B
ok_then (Ok t) A B f h = f h
ok_then (Err e) A B f h = tt

pub err_then : {T E : Type 0} (r : Result T E) (A B : Type 0) → (A → B) → OnErr r A → OnErr r B
err_then (Ok t) A B f h = tt
err_then (Err e) A B f h = f h

pub on_err : {T E : Type 0} (r : Result T E) (A : Type 0) → A → OnErr r A
on_err (Ok t) A h = tt
on_err (Err e) A h = h

-- the bytes that wait were cut off
pub printing_cut_end : (before old new : Option (List ℕ)) (waiting whole : List ℕ) (n : ℕ) → Printing before old waiting [] whole → Appends old new (take n waiting) → Started before new whole
printing_cut_end before old new waiting whole n h took =
    printing_cut before old new waiting [] [] whole n h (subst (λ (t : List ℕ). Appends old new (take n t)) (sym (append-nil waiting)) took)

-- a first piece of the rest, in other words
pub printing_as : (before now : Option (List ℕ)) (waiting rest rest' whole : List ℕ) → rest ≡ rest' → Printing before now waiting rest whole → Printing before now waiting rest' whole
printing_as before now waiting rest rest' whole e h = subst (λ (r : List ℕ). Printing before now waiting r whole) e h
