-- entries as the cells at a list of places
use Rattle.std.proofs.Common.{◌≡◌, ℕ, ◌<◌, ◌≤◌, Bool, true, false, not, List, [], ◌∷◌, length, get_or, set, cond, eqb, Some, None, inl, inr, refl, sym, ◌∙◌, ap, subst, arith}
use Rattle.std.specs.Map.{keys_of, values_of}
use Rattle.std.proofs.lemmas.Bool.{cases_eq, cases_Bool, or_left, eq-eqb, ne_eqb, eqb-true, eqb-false, cond-true, cond-false, false≢true, false_from_ne_true}
use Rattle.std.proofs.lemmas.List.{get_or-set_other}
use Rattle.st_limits.specs.Cache.{has, without, AreDistinct}
use Rattle.st_limits.proofs.Members.{has_head, has_tail, has_cases, lacks_parts, lacks_from, differ_by_list, without_here, without_there}
use Rattle.st_cachemap.specs.Cached.{place_in, without_cell, without_place}
use Rattle.st_cachemap.specs.Sound.{entries_at}

-- one step of a filter over entries
pub skipped : (t : Bool) (e : ℕ × ℕ) (es : List (ℕ × ℕ)) → t ≡ true → cond (not t) (e ∷ es) es ≡ es
skipped t e es h = cond-false (not t) (e ∷ es) es (ap not h)

pub kept : (t : Bool) (e : ℕ × ℕ) (es : List (ℕ × ℕ)) → t ≡ false → cond (not t) (e ∷ es) es ≡ e ∷ es
kept t e es h = cond-true (not t) (e ∷ es) es (ap not h)

-- without a place
pub entries-without : (cells : List ℕ) (p : ℕ) (xs : List ℕ) → entries_at cells (without p xs) ≡ without_place p (entries_at cells xs)
entries-without cells p [] = refl
entries-without cells p (x ∷ xs) =
    let e : ℕ × ℕ = (get_or cells x 0, x) in
    let rest = entries-without cells p xs in
    elim (cases_Bool (eqb p x)) [
      | inl t ↦
          ap (entries_at cells) (cond-false (not (eqb p x)) (x ∷ without p xs) (without p xs) (ap not t))
          ∙ rest
          ∙ sym (skipped (eqb p x) e (without_place p (entries_at cells xs)) t)
      | inr f ↦
          ap (entries_at cells) (cond-true (not (eqb p x)) (x ∷ without p xs) (without p xs) (ap not f))
          ∙ ap (λ (es : List (ℕ × ℕ)). e ∷ es) rest
          ∙ sym (kept (eqb p x) e (without_place p (entries_at cells xs)) f)
    ]

pub places_at : (cells xs : List ℕ) → values_of (entries_at cells xs) ≡ xs
places_at cells [] = refl
places_at cells (x ∷ xs) = ap (λ (ys : List ℕ). x ∷ ys) (places_at cells xs)

-- a cell of the entries stands at one of the places
pub cell_at : (cells xs : List ℕ) (cell : ℕ) → has cell (keys_of (entries_at cells xs)) ≡ true → (p : ℕ) × (has p xs ≡ true) × (get_or cells p 0 ≡ cell)
cell_at cells [] cell h = absurd (false≢true h)
cell_at cells (x ∷ xs) cell h =
    elim (has_cases cell (get_or cells x 0) (keys_of (entries_at cells xs)) h) [
      | inl e ↦ (x, has_head x xs, sym e)
      | inr t ↦ let rest = cell_at cells xs cell t in (rest.0, has_tail rest.0 x xs rest.1, rest.2)
    ]

pub cell_in : (cells xs : List ℕ) (p : ℕ) → has p xs ≡ true → has (get_or cells p 0) (keys_of (entries_at cells xs)) ≡ true
cell_in cells [] p h = absurd (false≢true h)
cell_in cells (x ∷ xs) p h =
    elim (has_cases p x xs h) [
      | inl e ↦
          or_left (eqb (get_or cells p 0) (get_or cells x 0)) (has (get_or cells p 0) (keys_of (entries_at cells xs)))
          (eq-eqb (get_or cells p 0) (get_or cells x 0) (ap (λ (k : ℕ). get_or cells k 0) e))
      | inr t ↦ has_tail (get_or cells p 0) (get_or cells x 0) (keys_of (entries_at cells xs)) (cell_in cells xs p t)
    ]

-- no two places of the list have one cell
abbrev pub Unique : List ℕ → List ℕ → Type 0
Unique cells xs = (p q : ℕ) → has p xs ≡ true → has q xs ≡ true → get_or cells p 0 ≡ get_or cells q 0 → p ≡ q

unique_rest : (cells : List ℕ) (x : ℕ) (xs : List ℕ) → Unique cells (x ∷ xs) → Unique cells xs
unique_rest cells x xs u p q hp hq e = u p q (has_tail p x xs hp) (has_tail q x xs hq) e

-- a look-up finds the place of a cell
pub found_at : (cells xs : List ℕ) (p cell : ℕ) → Unique cells xs → has p xs ≡ true → get_or cells p 0 ≡ cell → place_in (entries_at cells xs) cell ≡ Some p
found_at cells [] p cell u h e = absurd (false≢true h)
found_at cells (x ∷ xs) p cell u h e =
    elim (cases_eq cell (get_or cells x 0)) [
      | inl same ↦
          cond-true (eqb cell (get_or cells x 0)) (Some x) (place_in (entries_at cells xs) cell) (eq-eqb cell (get_or cells x 0) same)
          ∙ ap (λ (k : ℕ). Some k) (u x p (has_head x xs) h (sym same ∙ sym e))
      | inr ne ↦
          let t : has p xs ≡ true = elim (has_cases p x xs h) [ inl q ↦ absurd (ne (sym e ∙ ap (λ (k : ℕ). get_or cells k 0) q)) | inr t ↦ t ] in
          cond-false (eqb cell (get_or cells x 0)) (Some x) (place_in (entries_at cells xs) cell) (ne_eqb cell (get_or cells x 0) ne)
          ∙ found_at cells xs p cell (unique_rest cells x xs u) t e
    ]

pub not_found : (cells xs : List ℕ) (cell : ℕ) → ((q : ℕ) → has q xs ≡ true → get_or cells q 0 ≡ cell → ⊥) → place_in (entries_at cells xs) cell ≡ None
not_found cells [] cell none = refl
not_found cells (x ∷ xs) cell none =
    cond-false (eqb cell (get_or cells x 0)) (Some x) (place_in (entries_at cells xs) cell)
    (ne_eqb cell (get_or cells x 0) (λ (e : cell ≡ get_or cells x 0). none x (has_head x xs) (sym e)))
    ∙ not_found cells xs cell (λ (q : ℕ) (h : has q xs ≡ true). none q (has_tail q x xs h))

-- without a cell is without its place
pub entries-without_cell : (cells : List ℕ) (p : ℕ) (xs : List ℕ) → ((q : ℕ) → has q xs ≡ true → get_or cells p 0 ≡ get_or cells q 0 → p ≡ q) → without_cell (get_or cells p 0) (entries_at cells xs) ≡ entries_at cells (without p xs)
entries-without_cell cells p [] u = refl
entries-without_cell cells p (x ∷ xs) u =
    let c : ℕ = get_or cells p 0 in
    let d : ℕ = get_or cells x 0 in
    let rest = entries-without_cell cells p xs (λ (q : ℕ) (h : has q xs ≡ true). u q (has_tail q x xs h)) in
    elim (cases_eq p x) [
      | inl e ↦
          skipped (eqb c d) (d, x) (without_cell c (entries_at cells xs)) (eq-eqb c d (ap (λ (k : ℕ). get_or cells k 0) e))
          ∙ rest
          ∙ sym (ap (entries_at cells) (subst (λ (z : ℕ). without p (z ∷ xs) ≡ without p xs) e (without_here p xs)))
      | inr ne ↦
          kept (eqb c d) (d, x) (without_cell c (entries_at cells xs)) (ne_eqb c d (λ (q : c ≡ d). ne (u x (has_head x xs) q)))
          ∙ ap (λ (es : List (ℕ × ℕ)). (d, x) ∷ es) rest
          ∙ sym (ap (entries_at cells) (without_there p x xs ne))
    ]

-- a write at another place
pub entries-set : (cells : List ℕ) (p v : ℕ) (xs : List ℕ) → has p xs ≡ false → entries_at (set cells p v) xs ≡ entries_at cells xs
entries-set cells p v [] lacks = refl
entries-set cells p v (x ∷ xs) lacks =
    let parts = lacks_parts p x xs lacks in
    ap (λ (c : ℕ). (c, x) ∷ entries_at (set cells p v) xs) (get_or-set_other cells p x v 0 (λ (q : x ≡ p). parts.0 (sym q)))
    ∙ ap (λ (es : List (ℕ × ℕ)). (get_or cells x 0, x) ∷ es) (entries-set cells p v xs parts.1)

pub cells_differ_at : (cells xs : List ℕ) → Unique cells xs → AreDistinct xs → AreDistinct (keys_of (entries_at cells xs))
cells_differ_at cells [] u dist = tt
cells_differ_at cells (x ∷ xs) u dist = (
  false_from_ne_true (has (get_or cells x 0) (keys_of (entries_at cells xs)))
      (λ (h : has (get_or cells x 0) (keys_of (entries_at cells xs)) ≡ true).
      let at = cell_at cells xs (get_or cells x 0) h in
      differ_by_list at.0 x xs at.1 dist.0 (u at.0 x (has_tail at.0 x xs at.1) (has_head x xs) at.2)),
  cells_differ_at cells xs (unique_rest cells x xs u) dist.1,
)

-- the same facts on any entries
pub found_place : (es : List (ℕ × ℕ)) (cell p : ℕ) → place_in es cell ≡ Some p → (has cell (keys_of es) ≡ true) × (has p (values_of es) ≡ true)
found_place [] cell p h = absurd (let e : None ≡ Some p = h in cc)
found_place (e ∷ es) cell p h =
    elim (cases_Bool (eqb cell e.0)) [
      | inl t ↦
          let same : Some e.1 ≡ Some p = sym (cond-true (eqb cell e.0) (Some e.1) (place_in es cell) t) ∙ h in
          let is : p ≡ e.1 = cc in
          (or_left (eqb cell e.0) (has cell (keys_of es)) t, or_left (eqb p e.1) (has p (values_of es)) (eq-eqb p e.1 is))
      | inr f ↦
          let rest = found_place es cell p (sym (cond-false (eqb cell e.0) (Some e.1) (place_in es cell) f) ∙ h) in
          (has_tail cell e.0 (keys_of es) rest.0, has_tail p e.1 (values_of es) rest.1)
    ]

pub no_place : (es : List (ℕ × ℕ)) (cell : ℕ) → place_in es cell ≡ None → has cell (keys_of es) ≡ false
no_place [] cell h = refl
no_place (e ∷ es) cell h =
    elim (cases_Bool (eqb cell e.0)) [
      | inl t ↦ absurd (let bad : Some e.1 ≡ None = sym (cond-true (eqb cell e.0) (Some e.1) (place_in es cell) t) ∙ h in cc)
      | inr f ↦
          lacks_from cell e.0 (keys_of es) (eqb-false cell e.0 f) (no_place es cell (sym (cond-false (eqb cell e.0) (Some e.1) (place_in es cell) f) ∙ h))
    ]

pub keys-without_cell : (cell : ℕ) (es : List (ℕ × ℕ)) → keys_of (without_cell cell es) ≡ without cell (keys_of es)
keys-without_cell cell [] = refl
keys-without_cell cell (e ∷ es) =
    let rest = keys-without_cell cell es in
    elim (cases_Bool (eqb cell e.0)) [
      | inl t ↦
          ap (λ (fs : List (ℕ × ℕ)). keys_of fs) (skipped (eqb cell e.0) e (without_cell cell es) t)
          ∙ rest
          ∙ sym (cond-false (not (eqb cell e.0)) (e.0 ∷ without cell (keys_of es)) (without cell (keys_of es)) (ap not t))
      | inr f ↦
          ap (λ (fs : List (ℕ × ℕ)). keys_of fs) (kept (eqb cell e.0) e (without_cell cell es) f)
          ∙ ap (λ (ks : List ℕ). e.0 ∷ ks) rest
          ∙ sym (cond-true (not (eqb cell e.0)) (e.0 ∷ without cell (keys_of es)) (without cell (keys_of es)) (ap not f))
    ]

pub without_cell_absent : (cell : ℕ) (es : List (ℕ × ℕ)) → has cell (keys_of es) ≡ false → without_cell cell es ≡ es
without_cell_absent cell [] lacks = refl
without_cell_absent cell (e ∷ es) lacks =
    let parts = lacks_parts cell e.0 (keys_of es) lacks in
    kept (eqb cell e.0) e (without_cell cell es) (ne_eqb cell e.0 parts.0)
    ∙ ap (λ (fs : List (ℕ × ℕ)). e ∷ fs) (without_cell_absent cell es parts.1)

pub without_cell_shorter : (cell : ℕ) (es : List (ℕ × ℕ)) → has cell (keys_of es) ≡ true → length (without_cell cell es) < length es
without_cell_shorter cell [] h = absurd (false≢true h)
without_cell_shorter cell (e ∷ es) h =
    elim (cases_Bool (eqb cell e.0)) [
      | inl t ↦
          let is = ap (λ (fs : List (ℕ × ℕ)). length fs) (skipped (eqb cell e.0) e (without_cell cell es) t) in
          omega (arith, is, no_longer cell es)
      | inr f ↦
          let is = ap (λ (fs : List (ℕ × ℕ)). length fs) (kept (eqb cell e.0) e (without_cell cell es) f) in
          let tail : has cell (keys_of es) ≡ true = elim (has_cases cell e.0 (keys_of es) h) [ inl q ↦ absurd (eqb-false cell e.0 f q) | inr t ↦ t ] in
          omega (arith, is, without_cell_shorter cell es tail)
    ]
  where
    no_longer : (cell : ℕ) (es : List (ℕ × ℕ)) → length (without_cell cell es) ≤ length es
    no_longer cell [] = omega arith
    no_longer cell (e ∷ es) =
        elim (cases_Bool (eqb cell e.0)) [
          | inl t ↦
              let is = ap (λ (fs : List (ℕ × ℕ)). length fs) (skipped (eqb cell e.0) e (without_cell cell es) t) in
              omega (arith, is, no_longer cell es)
          | inr f ↦
              let is = ap (λ (fs : List (ℕ × ℕ)). length fs) (kept (eqb cell e.0) e (without_cell cell es) f) in
              omega (arith, is, no_longer cell es)
        ]

-- a place that a look-up finds has the cell
pub found_cell : (cells xs : List ℕ) (cell p : ℕ) → place_in (entries_at cells xs) cell ≡ Some p → (get_or cells p 0 ≡ cell) × (has p xs ≡ true)
found_cell cells [] cell p h = absurd (let e : None ≡ Some p = h in cc)
found_cell cells (x ∷ xs) cell p h =
    elim (cases_Bool (eqb cell (get_or cells x 0))) [
      | inl t ↦
          let same : Some x ≡ Some p = sym (cond-true (eqb cell (get_or cells x 0)) (Some x) (place_in (entries_at cells xs) cell) t) ∙ h in
          let is : p ≡ x = cc in
          (ap (λ (k : ℕ). get_or cells k 0) is ∙ sym (eqb-true cell (get_or cells x 0) t), or_left (eqb p x) (has p xs) (eq-eqb p x is))
      | inr f ↦
          let rest = found_cell cells xs cell p (sym (cond-false (eqb cell (get_or cells x 0)) (Some x) (place_in (entries_at cells xs) cell) f) ∙ h) in
          (rest.0, has_tail p x xs rest.1)
    ]
