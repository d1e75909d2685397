-- Deltas and their spellings.
use Rattle.std.proofs.Common.{◌≡◌, ℕ, ◌+◌, ◌*◌, ◌≤◌, Bool, true, false, cond, leb, List, [], ◌++◌, length, Option, Some, None, refl, sym, ap, ◌∙◌, arith}
use Rattle.std.specs.Str.{bytes_eq}
use Rattle.std.proofs.lemmas.Bool.{true≢false, and_from, le-leb, eq-eqb}
use Rattle.std.proofs.lemmas.Slice.Eq.{bytes_eq-Decides}
use Rattle.st_fields.specs.Fields.{spelling}
use Rattle.st_fields.proofs.Spellings.{number-spelling}
use Rattle.st_recrows.specs.Rows.{Spells, rows_text}
use Rattle.st_flexlog.specs.declared.delta.Delta.{Delta}
use Rattle.st_flexlog.specs.declared.delta.DeltaRow.{DeltaRow}
use Rattle.st_flexlog.specs.Delta.{rows_before, rows_of, row_text, RowFits, DeltaFits, delta_text, row_fields, count_in, delta_fields, delta_of}
use Rattle.st_flexlog.specs.Counted.{has_counted_length}

pub rows_few : (first second : Option DeltaRow) → length (rows_before first (rows_before second [])) ≤ 2
rows_few None None = omega arith
rows_few None (Some q) = omega arith
rows_few (Some r) None = omega arith
rows_few (Some r) (Some q) = omega arith

text_long : (serial next_cell : ℕ) (first second : Option DeltaRow)
    → length (delta_text (record { serial = serial; next_cell = next_cell; first = first; second = second })) ≡ 24 + length (rows_before first (rows_before second [])) * 24
text_long serial next_cell None None = refl
text_long serial next_cell None (Some q) = refl
text_long serial next_cell (Some r) None = refl
text_long serial next_cell (Some r) (Some q) = refl

count_back : (d : Delta) → count_in (delta_text d) ≡ length (rows_of d)
count_back d = number-spelling 2 (length (rows_of d)) (spelling 6 0 ++ rows_text row_text (rows_of d)) (omega (arith, rows_few d.first d.second))

-- a spelling is as long as its count tells
pub counted : (d : Delta) → has_counted_length (delta_text d) ≡ true
counted d =
    let count = count_back d in
    let long = text_long d.serial d.next_cell d.first d.second in
    let few = rows_few d.first d.second in
    and_from (leb 24 (length (delta_text d))) _ (le-leb _ _ (omega (arith, long)))
    (and_from (leb (count_in (delta_text d)) 2) _ (le-leb _ _ (omega (arith, count, few))) (eq-eqb _ _ (omega (arith, count, long))))

pub uncounted : (bytes : List ℕ) → has_counted_length bytes ≡ false → delta_of bytes ≡ None
unfolding delta_of
uncounted bytes differs = by (bytes_eq bytes (delta_text (delta_fields bytes))) refl
  where
    by : (b : Bool) → bytes_eq bytes (delta_text (delta_fields bytes)) ≡ b → cond b (Some (delta_fields bytes)) None ≡ None
    by false e = refl
    by true e =
        let same : bytes ≡ delta_text (delta_fields bytes) = (bytes_eq-Decides bytes (delta_text (delta_fields bytes))).0 e in
        absurd (true≢false (sym (ap has_counted_length same ∙ counted (delta_fields bytes)) ∙ differs))

-- a row is read back from its spelling
row_back : (r : DeltaRow) (rest : List ℕ) → RowFits r → row_fields 0 (row_text r ++ rest) ≡ r
row_back r rest fit =
    let fs = number-spelling 8 r.fs (spelling 4 r.block ++ (spelling 4 r.place ++ (spelling 8 r.cell ++ rest))) (omega (arith, fit.fs)) in
    let block = number-spelling 4 r.block (spelling 4 r.place ++ (spelling 8 r.cell ++ rest)) (omega (arith, fit.block)) in
    let place = number-spelling 4 r.place (spelling 8 r.cell ++ rest) (omega (arith, fit.place)) in
    let cell = number-spelling 8 r.cell rest (omega (arith, fit.cell)) in
    λ i. record { fs = fs i; block = block i; place = place i; cell = cell i }

fields_back : (serial next_cell : ℕ) (first second : Option DeltaRow) → DeltaFits (record { serial = serial; next_cell = next_cell; first = first; second = second })
    → delta_fields (delta_text (record { serial = serial; next_cell = next_cell; first = first; second = second })) ≡ record { serial = serial; next_cell = next_cell; first = first; second = second }
fields_back serial next_cell None None fit =
    let counted : List ℕ = spelling 2 0 ++ spelling 6 0 in
    let s = number-spelling 8 serial (spelling 8 next_cell ++ counted) (omega (arith, fit.serial)) in
    let n = number-spelling 8 next_cell counted (omega (arith, fit.next_cell)) in
    λ i. record { serial = s i; next_cell = n i; first = None; second = None }
fields_back serial next_cell (Some r) None fit =
    let counted : List ℕ = spelling 2 1 ++ (spelling 6 0 ++ (row_text r ++ [])) in
    let s = number-spelling 8 serial (spelling 8 next_cell ++ counted) (omega (arith, fit.serial)) in
    let n = number-spelling 8 next_cell counted (omega (arith, fit.next_cell)) in
    let a = row_back r [] fit.rows.0 in
    λ i. record { serial = s i; next_cell = n i; first = Some (a i); second = None }
fields_back serial next_cell (Some r) (Some q) fit =
    let counted : List ℕ = spelling 2 2 ++ (spelling 6 0 ++ (row_text r ++ (row_text q ++ []))) in
    let s = number-spelling 8 serial (spelling 8 next_cell ++ counted) (omega (arith, fit.serial)) in
    let n = number-spelling 8 next_cell counted (omega (arith, fit.next_cell)) in
    let a = row_back r (row_text q ++ []) fit.rows.0 in
    let b = row_back q [] fit.rows.1.0 in
    λ i. record { serial = s i; next_cell = n i; first = Some (a i); second = Some (b i) }
fields_back serial next_cell None (Some q) fit = absurd (true≢false (sym (fit.in_order refl)))

-- a delta is read back from its spelling
pub delta_back : (d : Delta) (bytes : List ℕ) → Spells DeltaFits delta_text bytes d → delta_of bytes ≡ Some d
unfolding delta_of
delta_back d bytes is =
    let same = fields_back d.serial d.next_cell d.first d.second is.fit in
    ap (λ (l : List ℕ). cond (bytes_eq l (delta_text (delta_fields l))) (Some (delta_fields l)) None) is.spelled
    ∙ ap (λ (e : Delta). cond (bytes_eq (delta_text d) (delta_text e)) (Some e) None) same
    ∙ ap (λ (b : Bool). cond b (Some d) None) ((bytes_eq-Decides (delta_text d) (delta_text d)).1 refl)

-- what is read as a delta is its spelling
pub delta_spelled : (d : Delta) (bytes : List ℕ) → delta_of bytes ≡ Some d → bytes ≡ delta_text d
unfolding delta_of
delta_spelled d bytes read = by (bytes_eq bytes (delta_text (delta_fields bytes))) refl read
  where
    by : (b : Bool) → bytes_eq bytes (delta_text (delta_fields bytes)) ≡ b → cond b (Some (delta_fields bytes)) None ≡ Some d → bytes ≡ delta_text d
    by true e got =
        let same : delta_fields bytes ≡ d = cc in
        (bytes_eq-Decides bytes (delta_text (delta_fields bytes))).0 e ∙ ap delta_text same
    by false e got = absurd cc
