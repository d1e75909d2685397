-- a pass over rows that puts the segment of each last
use Rattle.std.proofs.Common.{◌≡◌, ℕ, suc, ◌+◌, ◌-◌, ◌<◌, ◌≤◌, List, ◌∷◌, ◌++◌, length, get_or, drop, drop-cons, sym, ap, ap₂, ◌∙◌, arith}
use Rattle.std.proofs.lemmas.List.{append_assoc, append-nil, drop_all}
use Rattle.st_units.specs.declared.rows.DevRow.{DevRow}
use Rattle.st_units.specs.declared.rows.Segment.{Segment}
use Rattle.st_datatier.specs.Segments.{segment_at, segment_rows, share}

pub one_more : (rows : List DevRow) (i : ℕ) (row : DevRow) (before now all : List Segment) (left own : ℕ) → i < length rows → row ≡ get_or rows i row → own ≡ share i row left → now ≡ before ++ segment_at i own
    → before ++ segment_rows i left (drop i rows) ≡ all → now ++ segment_rows (i + 1) (left - own) (drop (i + 1) rows) ≡ all
one_more rows i row before now all left own h is own_is now_is so_far =
    let rest : ℕ → List Segment = λ n. segment_rows (i + 1) (left - n) (drop (i + 1) rows) in
    let next : i + 1 ≡ suc i = omega arith in
    let head : drop i rows ≡ row ∷ drop (i + 1) rows =
    drop-cons rows i row h ∙ ap₂ (λ (r : DevRow) (n : ℕ). r ∷ drop n rows) (sym is) (sym next) in
    ap (λ (xs : List Segment). xs ++ rest own) now_is
    ∙ append_assoc before (segment_at i own) (rest own)
    ∙ ap (λ n. before ++ (segment_at i n ++ rest n)) own_is
    ∙ ap (λ (rs : List DevRow). before ++ segment_rows i left rs) (sym head)
    ∙ so_far

pub at_the_end : (rows : List DevRow) (i : ℕ) (before all : List Segment) (left : ℕ) → length rows ≤ i → before ++ segment_rows i left (drop i rows) ≡ all → before ≡ all
at_the_end rows i before all left h so_far =
    sym (append-nil before) ∙ ap (λ (rs : List DevRow). before ++ segment_rows i left rs) (sym (drop_all i rows h)) ∙ so_far
