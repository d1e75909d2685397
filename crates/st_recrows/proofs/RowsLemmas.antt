-- Rows of one width, one after the other.
use Rattle.std.proofs.Common.{◌≡◌, ℕ, ◌*◌, ◌<◌, List, [], ◌∷◌, ◌++◌, length, take, drop, Err, refl, sym, ap, ◌∙◌, subst, append_assoc, arith}
use Rattle.std.specs.List.{flat_map}
use Rattle.std.proofs.lemmas.List.{take_at, drop_at, take_all, append-nil, length-append}
use Rattle.std.proofs.lemmas.List.Concat.{flat_map-cons}
use Rattle.st_recrows.specs.declared.fault.RecFault.{RecFault}
use Rattle.st_recrows.specs.declared.fault.RecFault.TheVariants.{NotARecord, OutOfMemory}
use Rattle.st_recrows.specs.Rows.{Reads, ReadsFields, Spells, AllFit, rows_text}

-- each value that fits has a spelling of this width
abbrev pub HasWidth : {T : Type 0} → (T → Type 0) → (T → List ℕ) → ℕ → Type 0
HasWidth {T} fits text w = (row : T) → fits row → length (text row) ≡ w

-- what follows whole rows begins with a row, where all the bytes are rows
pub record Begins {T : Type 0} (fits : T → Type 0) (text : T → List ℕ) (rest : List ℕ) : Type 0 where
  pub row : T
  pub more : List ℕ
  pub fit : fits row
  pub parts : rest ≡ text row ++ more

pub next_row : {T : Type 0} (fits : T → Type 0) (text : T → List ℕ) (w : ℕ) → HasWidth fits text w → 0 < w → (rows others : List T) (rest : List ℕ)
    → AllFit fits rows → AllFit fits others → rows_text text rows ++ rest ≡ rows_text text others → 0 < length rest → Begins fits text rest
next_row fits text w has pos [] [] rest a b e long = absurd (omega (arith, ap length e))
next_row fits text w has pos [] (y ∷ ys) rest a b e long = record { row = y; more = flat_map text ys; fit = b.0; parts = e ∙ flat_map-cons text y ys }
next_row fits text w has pos (x ∷ xs) [] rest a b e long =
    let wide : length (text x) ≡ w = has x a.0 in
    let whole : (text x ++ flat_map text xs) ++ rest ≡ [] = ap (λ (l : List ℕ). l ++ rest) (sym (flat_map-cons text x xs)) ∙ e in
    absurd (omega (arith, simp length-append at (ap length whole)))
next_row fits text w has pos (x ∷ xs) (y ∷ ys) rest a b e long =
    let whole : text x ++ (flat_map text xs ++ rest) ≡ text y ++ flat_map text ys =
    sym (append_assoc (text x) (flat_map text xs) rest) ∙ ap (λ (l : List ℕ). l ++ rest) (sym (flat_map-cons text x xs)) ∙ e ∙ flat_map-cons text y ys in
    let tail : flat_map text xs ++ rest ≡ flat_map text ys =
    sym (drop_at (text x) (flat_map text xs ++ rest) w (has x a.0)) ∙ ap (λ (l : List ℕ). drop w l) whole ∙ drop_at (text y) (flat_map text ys) w (has y b.0) in
    next_row fits text w has pos xs ys rest a.1 b.1 tail long

-- what is left is shorter than a row
pub too_short : {T : Type 0} (fits : T → Type 0) (text : T → List ℕ) (w : ℕ) → HasWidth fits text w → 0 < w → (bytes : List ℕ) (rows : List T) (rest : List ℕ)
    → AllFit fits rows → bytes ≡ rows_text text rows ++ rest → 0 < length rest → length rest < w → (others : List T) → Spells (AllFit fits) (rows_text text) bytes others → ⊥
too_short fits text w has pos bytes rows rest a parts long short others is =
    let b = next_row fits text w has pos rows others rest a is.fit (sym parts ∙ is.spelled) long in
    let wide : length (text b.row) ≡ w = has b.row b.fit in
    omega (arith, simp length-append at (ap length b.parts))

-- what is left doesn't begin with a row
pub no_row : {T : Type 0} (fits : T → Type 0) (text : T → List ℕ) (w : ℕ) → HasWidth fits text w → 0 < w → (bytes : List ℕ) (rows : List T) (rest front : List ℕ) (fault : RecFault)
    → AllFit fits rows → bytes ≡ rows_text text rows ++ rest → 0 < length rest → front ≡ take w rest → Reads (Spells fits text front) (Err fault) → Reads (Spells (AllFit fits) (rows_text text) bytes) (Err fault)
no_row fits text w has pos bytes rows rest front NotARecord a parts long is_front none = λ others is.
    let b = next_row fits text w has pos rows others rest a is.fit (sym parts ∙ is.spelled) long in
    let same : front ≡ text b.row = is_front ∙ ap (λ (l : List ℕ). take w l) b.parts ∙ take_at (text b.row) b.more w (has b.row b.fit) in
    none b.row (record { fit = b.fit; spelled = same })
no_row fits text w has pos bytes rows rest front OutOfMemory a parts long is_front none = tt

-- one more row
pub rows_text-push : {T : Type 0} (text : T → List ℕ) (rows : List T) (row : T) → rows_text text (rows ++ row ∷ []) ≡ rows_text text rows ++ text row
rows_text-push text [] row = flat_map-cons text row [] ∙ append-nil (text row)
rows_text-push text (x ∷ xs) row =
    flat_map-cons text x (xs ++ row ∷ []) ∙ ap (λ (l : List ℕ). text x ++ l) (rows_text-push text xs row) ∙ sym (append_assoc (text x) (flat_map text xs) (text row)) ∙ ap (λ (l : List ℕ). l ++ text row) (sym (flat_map-cons text x xs))

pub AllFit-push : {T : Type 0} (fits : T → Type 0) (rows : List T) (row : T) → AllFit fits rows → fits row → AllFit fits (rows ++ row ∷ [])
AllFit-push fits [] row all fit = (fit, tt)
AllFit-push fits (x ∷ xs) row all fit = (all.0, AllFit-push fits xs row all.1 fit)

-- one more row read
pub one_more : {T : Type 0} (text : T → List ℕ) (bytes : List ℕ) (rows : List T) (row : T) (rest front after : List ℕ)
    → bytes ≡ rows_text text rows ++ rest → rest ≡ front ++ after → front ≡ text row → bytes ≡ rows_text text (rows ++ row ∷ []) ++ after
one_more text bytes rows row rest front after parts split spelled =
    parts ∙ ap (λ (l : List ℕ). rows_text text rows ++ l) (split ∙ ap (λ (l : List ℕ). l ++ after) spelled) ∙ sym (append_assoc (rows_text text rows) (text row) after)
    ∙ ap (λ (l : List ℕ). l ++ after) (sym (rows_text-push text rows row))

-- how long rows are
pub length-rows_text : {T : Type 0} (fits : T → Type 0) (text : T → List ℕ) (w : ℕ) → HasWidth fits text w → (rows : List T) → AllFit fits rows → length (rows_text text rows) ≡ w * length rows
length-rows_text fits text w has [] all = omega arith
length-rows_text fits text w has (x ∷ xs) all =
    let first : length (text x) ≡ w = has x all.0 in
    let others : length (flat_map text xs) ≡ w * length xs = length-rows_text fits text w has xs all.1 in
    ap length (flat_map-cons text x xs) ∙ length-append (text x) (flat_map text xs) ∙ omega (arith, first, others)

-- each value is read back from its spelling
abbrev pub ReadsBack : {T : Type 0} → (T → Type 0) → (T → List ℕ) → (List ℕ → T) → Type 0
ReadsBack {T} fits text fields = (row : T) → fits row → fields (text row) ≡ row

-- the value that the bytes spell stands in their fields
pub in_fields : {T : Type 0} (fits : T → Type 0) (text : T → List ℕ) (fields : List ℕ → T) → ReadsBack fits text fields → (bytes : List ℕ) (value : T) → Spells fits text bytes value → fields bytes ≡ value
in_fields fits text fields back bytes value is = ap fields is.spelled ∙ back value is.fit

-- what stands in the fields doesn't fit
pub unfit : {T : Type 0} (fits : T → Type 0) (text : T → List ℕ) (fields : List ℕ → T) → ReadsBack fits text fields → (bytes : List ℕ) (fault : RecFault) → ReadsFields fits (fields bytes) (Err fault) → Reads (Spells fits text bytes) (Err fault)
unfit fits text fields back bytes NotARecord none = λ value is. none (subst fits (sym (in_fields fits text fields back bytes value is)) is.fit)
unfit fits text fields back bytes OutOfMemory none = tt

-- what stands in the fields is spelled otherwise
pub otherwise : {T : Type 0} (fits : T → Type 0) (text : T → List ℕ) (fields : List ℕ → T) → ReadsBack fits text fields → (bytes : List ℕ) (found : T) → found ≡ fields bytes → (bytes ≡ text found → ⊥) → (value : T) → Spells fits text bytes value → ⊥
otherwise fits text fields back bytes found is_fields differ value is =
    differ (is.spelled ∙ ap text (sym (is_fields ∙ in_fields fits text fields back bytes value is)))

-- two values of one spelling are one
pub same_row : {T : Type 0} (fits : T → Type 0) (text : T → List ℕ) (fields : List ℕ → T) → ReadsBack fits text fields → (a b : T) → fits a → fits b → text a ≡ text b → a ≡ b
same_row fits text fields back a b fa fb e = sym (back a fa) ∙ ap fields e ∙ back b fb

-- where texts of one length begin the same bytes, they are the same, and so is what follows
pub same_front : (a b x y : List ℕ) → length a ≡ length b → a ++ x ≡ b ++ y → (a ≡ b) × (x ≡ y)
same_front a b x y size e = (
  sym (take_at a x (length a) refl) ∙ ap (λ (l : List ℕ). take (length a) l) e ∙ take_at b y (length a) (sym size),
  sym (drop_at a x (length a) refl) ∙ ap (λ (l : List ℕ). drop (length a) l) e ∙ drop_at b y (length a) (sym size),
)

-- so many rows in front of other bytes are these rows and no others
pub same_rows : {T : Type 0} (fits : T → Type 0) (text : T → List ℕ) (fields : List ℕ → T) (w : ℕ) → HasWidth fits text w → ReadsBack fits text fields → (xs ys : List T) (u v : List ℕ)
    → AllFit fits xs → AllFit fits ys → length xs ≡ length ys → rows_text text xs ++ u ≡ rows_text text ys ++ v → (xs ≡ ys) × (u ≡ v)
same_rows fits text fields w has back [] [] u v fx fy size e = (refl, e)
same_rows fits text fields w has back [] (y ∷ ys) u v fx fy size e = absurd (omega arith)
same_rows fits text fields w has back (x ∷ xs) [] u v fx fy size e = absurd (omega arith)
same_rows fits text fields w has back (x ∷ xs) (y ∷ ys) u v fx fy size e =
    let whole : text x ++ (flat_map text xs ++ u) ≡ text y ++ (flat_map text ys ++ v) =
    sym (append_assoc (text x) (flat_map text xs) u) ∙ ap (λ (l : List ℕ). l ++ u) (sym (flat_map-cons text x xs)) ∙ e ∙ ap (λ (l : List ℕ). l ++ v) (flat_map-cons text y ys) ∙ append_assoc (text y) (flat_map text ys) v in
    let both = same_front (text x) (text y) (flat_map text xs ++ u) (flat_map text ys ++ v) (has x fx.0 ∙ sym (has y fy.0)) whole in
    let first : x ≡ y = same_row fits text fields back x y fx.0 fy.0 both.0 in
    let others = same_rows fits text fields w has back xs ys u v fx.1 fy.1 (omega arith) both.1 in
    ((λ i. first i ∷ others.0 i), others.1)

-- ---- a text that is put together front to back

pub all_of_it : (n : ℕ) (bytes text : List ℕ) → length bytes ≡ n → take n bytes ≡ text → bytes ≡ text
all_of_it n bytes text size front = sym (take_all n bytes (omega arith)) ∙ front
