-- What the first device of a path has, and what changes where another stands in its place.
use Rattle.std.proofs.Common.{◌≡◌, ◌≢◌, inl, inr, ℕ, zero, suc, ◌+◌, ◌*◌, ◌<◌, ◌≤◌, Bool, true, false, cond, Option, Some, None, is_some, unwrap_or, IsNone, Less, List, [], ◌∷◌, length, get_or, slice_set, refl, sym, ◌∙◌, ap, subst, arith}
use Rattle.std.specs.List.{slice_get}
use Rattle.std.specs.Option.{option_map}
use Rattle.std.specs.Ordering.{nat_cmp}
use Rattle.std.specs.Cmp.Lexicographic.{slice_cmp}
use Rattle.std.specs.Str.{bytes_eq}
use Rattle.std.proofs.lemmas.Option.{slice_get-map}
use Rattle.std.proofs.lemmas.Slice.Eq.{bytes_eq-Decides}
use Rattle.std.proofs.lemmas.Bool.{cases_Bool, cases_lt}
use Rattle.st_rack.specs.Device.{Path}
use Rattle.st_rack.specs.Calls.{Devices, sectors_of, size_in, Has, Rises, IsWithin}
use Rattle.st_shelf.specs.Shelf.{comes_before, rows_of, look, is_in, IsFirst}
use Rattle.st_shelf.proofs.Order.{Below, paths, before_less, not_before, less_apart, less_less, rises_at, rises_first, rises_rest}

pub differ : (a b : Path) → (a ≡ b → ⊥) → bytes_eq a b ≡ false
differ a b ne = elim (cases_Bool (bytes_eq a b)) [ inl hit ↦ absurd (ne ((bytes_eq-Decides a b).0 hit)) | inr miss ↦ miss ]

pub equal : (a b : Path) → a ≡ b → bytes_eq a b ≡ true
equal a b same = (bytes_eq-Decides a b).1 same

pub bytes_eq-sym : (a b : Path) → bytes_eq a b ≡ false → bytes_eq b a ≡ false
bytes_eq-sym a b miss = differ b a (λ e. let hit = equal a b (sym e) in cc)

some_same : {D : Type 0} (x y : D) → Some x ≡ Some y → x ≡ y
some_same x y is = cc

module _ {D : Type 0} (path : D → Path) where
  pub first_path : (l : List D) (p : Path) (i : ℕ) (d : D) → IsFirst path l p i → path (get_or l i d) ≡ p
  first_path [] p i d h = absurd h
  first_path (x ∷ l) p zero d h = (bytes_eq-Decides (path x) p).0 h
  first_path (x ∷ l) p (suc i) d h = first_path l p i d h.1

  -- a device of that path, with others before it
  pub first_at : (l : List D) (p : Path) (i : ℕ) (d : D) → i < length l → bytes_eq (path (get_or l i d)) p ≡ true → ((k : ℕ) → k < i → bytes_eq (path (get_or l k d)) p ≡ false) → IsFirst path l p i
  first_at [] p i d lt hit misses = absurd (omega arith)
  first_at (x ∷ l) p zero d lt hit misses = hit
  first_at (x ∷ l) p (suc i) d lt hit misses = (misses 0 (omega arith), first_at l p i d (omega arith) hit (λ k less. misses (suc k) (omega arith)))

module _ {D A : Type 0} (path : D → Path) (f : D → A) (none : A) where
  pub look_first : (l : List D) (p : Path) (i : ℕ) (d : D) → IsFirst path l p i → look path f none l p ≡ f (get_or l i d)
  look_first [] p i d h = absurd h
  look_first (x ∷ l) p zero d h = ap (λ (b : Bool). cond b (f x) (look path f none l p)) h
  look_first (x ∷ l) p (suc i) d h = ap (λ (b : Bool). cond b (f x) (look path f none l p)) h.0 ∙ look_first l p i d h.1

  pub look_set_same : (l : List D) (p : Path) (i : ℕ) (v : D) → IsFirst path l p i → path v ≡ p → look path f none (slice_set l i v) p ≡ f v
  look_set_same [] p i v h same = absurd h
  look_set_same (x ∷ l) p zero v h same = ap (λ (b : Bool). cond b (f v) (look path f none l p)) (equal (path v) p same)
  look_set_same (x ∷ l) p (suc i) v h same = ap (λ (b : Bool). cond b (f x) (look path f none (slice_set l i v) p)) h.0 ∙ look_set_same l p i v h.1 same

  pub look_set_other : (l : List D) (p : Path) (i : ℕ) (v : D) (q : Path) → IsFirst path l p i → path v ≡ p → q ≢ p → look path f none (slice_set l i v) q ≡ look path f none l q
  look_set_other [] p i v q h same ne = absurd h
  look_set_other (x ∷ l) p zero v q h same ne =
      let not_v = differ (path v) q (λ e. ne (sym e ∙ same)) in
      let not_x = differ (path x) q (λ e. ne (sym e ∙ (bytes_eq-Decides (path x) p).0 h)) in
      ap (λ (b : Bool). cond b (f v) (look path f none l q)) not_v ∙ sym (ap (λ (b : Bool). cond b (f x) (look path f none l q)) not_x)
  look_set_other (x ∷ l) p (suc i) v q h same ne = ap (λ (y : A). cond (bytes_eq (path x) q) (f x) y) (look_set_other l p i v q h.1 same ne)

  -- what is the same of the new device is the same of all
  pub look_set_kept : (l : List D) (p : Path) (i : ℕ) (v d : D) (q : Path) → IsFirst path l p i → path v ≡ p → f v ≡ f (get_or l i d) → look path f none (slice_set l i v) q ≡ look path f none l q
  look_set_kept [] p i v d q h same kept = absurd h
  look_set_kept (x ∷ l) p zero v d q h same kept =
      let there : path v ≡ path x = same ∙ sym ((bytes_eq-Decides (path x) p).0 h) in
      (λ i. cond (bytes_eq (there i) q) (kept i) (look path f none l q))
  look_set_kept (x ∷ l) p (suc i) v d q h same kept = ap (λ (y : A). cond (bytes_eq (path x) q) (f x) y) (look_set_kept l p i v d q h.1 same kept)

  pub look_none : (l : List D) (p : Path) → is_in path l p ≡ false → look path f none l p ≡ none
  look_none [] p h = refl
  look_none (x ∷ l) p h = elim (cases_Bool (bytes_eq (path x) p)) [
    | inl hit ↦ absurd (let there = ap (λ (b : Bool). cond b true (is_in path l p)) hit in cc)
    | inr miss ↦
        let rest = sym (ap (λ (b : Bool). cond b true (is_in path l p)) miss) ∙ h in
        ap (λ (b : Bool). cond b (f x) (look path f none l p)) miss ∙ look_none l p rest
  ]

module _ {D : Type 0} (path : D → Path) (size : D → ℕ) where
  pub sectors_look : (l : List D) (p : Path) → sectors_of (rows_of path size l) p ≡ look path (λ d. Some (size d)) None l p
  sectors_look [] p = refl
  sectors_look (x ∷ l) p = ap (λ (o : Option ℕ). cond (bytes_eq (path x) p) (Some (size x)) o) (sectors_look l p)

  pub sectors_first : (l : List D) (p : Path) (i : ℕ) (d : D) → IsFirst path l p i → sectors_of (rows_of path size l) p ≡ Some (size (get_or l i d))
  sectors_first l p i d h = sectors_look l p ∙ look_first path (λ d. Some (size d)) None l p i d h

  pub is_in_some : (l : List D) (p : Path) → is_in path l p ≡ is_some (sectors_of (rows_of path size l) p)
  is_in_some [] p = refl
  is_in_some (x ∷ l) p = elim (cases_Bool (bytes_eq (path x) p)) [
    | inl hit ↦ ap (λ (b : Bool). cond b true (is_in path l p)) hit ∙ sym (ap (λ (b : Bool). is_some (cond b (Some (size x)) (sectors_of (rows_of path size l) p))) hit)
    | inr miss ↦ ap (λ (b : Bool). cond b true (is_in path l p)) miss ∙ is_in_some l p ∙ sym (ap (λ (b : Bool). is_some (cond b (Some (size x)) (sectors_of (rows_of path size l) p))) miss)
  ]

  pub not_in : (l : List D) (p : Path) → IsNone (sectors_of (rows_of path size l) p) → is_in path l p ≡ false
  not_in l p none = is_in_some l p ∙ none

  pub has_in : (l : List D) (p : Path) (n : ℕ) → Has (rows_of path size l) p n → is_in path l p ≡ true
  has_in l p n has = is_in_some l p ∙ ap is_some has

  pub none_there : (l : List D) (p : Path) → ((k : ℕ) (d : D) → k < length l → bytes_eq (path (get_or l k d)) p ≡ false) → IsNone (sectors_of (rows_of path size l) p)
  none_there [] p misses = refl
  none_there (x ∷ l) p misses =
      ap (λ (b : Bool). is_some (cond b (Some (size x)) (sectors_of (rows_of path size l) p))) (misses 0 x (omega arith))
      ∙ none_there l p (λ k d lt. misses (suc k) d (omega arith))

  below_get : (p : Path) (l : List D) (i : ℕ) (d : D) → Below p (paths path size l) → slice_get l i ≡ Some d → slice_cmp nat_cmp p (path d) ≡ Less
  below_get p [] i d h is = absurd (let gone : None ≡ Some d = is in cc)
  below_get p (x ∷ l) zero d h is = let same : x ≡ d = some_same x d is in subst (λ (y : D). slice_cmp nat_cmp p (path y) ≡ Less) same h.0
  below_get p (x ∷ l) (suc i) d h is = below_get p l i d h.1 is

  -- the device at an index is there, with its sectors
  pub at_has : (l : List D) (i : ℕ) (d : D) → Rises (rows_of path size l) → slice_get l i ≡ Some d → Has (rows_of path size l) (path d) (size d)
  at_has [] i d rises is = absurd (let gone : None ≡ Some d = is in cc)
  at_has (x ∷ l) zero d rises is =
      let same : x ≡ d = some_same x d is in
      ap (λ (b : Bool). cond b (Some (size x)) (sectors_of (rows_of path size l) (path d))) (equal (path x) (path d) (ap path same)) ∙ ap (λ (y : D). Some (size y)) same
  at_has (x ∷ l) (suc i) d rises is =
      let miss = less_apart (path x) (path d) (below_get (path x) l i d (rises_first path size x l rises) is) in
      ap (λ (b : Bool). cond b (Some (size x)) (sectors_of (rows_of path size l) (path d))) miss ∙ at_has l i d (rises_rest path size x l rises) is

  -- so it is the row that its path tells
  pub at_row : (l : List D) (i : ℕ) (d : D) → Rises (rows_of path size l) → slice_get l i ≡ Some d → slice_get (rows_of path size l) i ≡ Some (path d, size_in (rows_of path size l) (path d))
  at_row l i d rises is =
      slice_get-map (λ (y : D). (path y, size y)) l i ∙ ap (λ (o : Option D). option_map (λ y. (path y, size y)) o) is
      ∙ ap (λ (o : Option ℕ). Some (path d, unwrap_or o 0)) (sym (at_has l i d rises is))

  pub at_size : (l : List D) (i : ℕ) (d : D) → Rises (rows_of path size l) → slice_get l i ≡ Some d → Has (rows_of path size l) (path d) (size_in (rows_of path size l) (path d))
  at_size l i d rises is =
      let has = at_has l i d rises is in
      has ∙ ap (λ (o : Option ℕ). Some (unwrap_or o 0)) (sym has)

  -- what lies within the device's sectors
  pub fits : (l : List D) (p : Path) (i : ℕ) (d : D) (sector n : ℕ) → IsFirst path l p i → IsWithin (rows_of path size l) p sector n → 512 * sector + n ≤ 512 * size (get_or l i d)
  fits l p i d sector n h within =
      let is : Some (size (get_or l i d)) ≡ Some within.sectors = sym (sectors_first l p i d h) ∙ within.has in
      let same : size (get_or l i d) ≡ within.sectors = cc in
      omega (arith, within.within, same)

  pub rows_set : (l : List D) (p : Path) (i : ℕ) (v d : D) → IsFirst path l p i → path v ≡ p → size v ≡ size (get_or l i d) → rows_of path size (slice_set l i v) ≡ rows_of path size l
  rows_set [] p i v d h same len = absurd h
  rows_set (x ∷ l) p zero v d h same len =
      let there : path v ≡ path x = same ∙ sym ((bytes_eq-Decides (path x) p).0 h) in
      (λ i. (there i, len i) ∷ rows_of path size l)
  rows_set (x ∷ l) p (suc i) v d h same len = ap (λ (rows : Devices). (path x, size x) ∷ rows) (rows_set l p i v d h.1 same len)

  -- the place at which a path belongs: it is there, or nowhere
  module _ (l : List D) (p : Path) (i : ℕ) (rises : Rises (rows_of path size l))
      (before : (k : ℕ) (d : D) → 0 ≤ k → k < i → comes_before (path (get_or l k d)) p ≡ true)
      (after : (k : ℕ) (d : D) → i ≤ k → k < length l → comes_before (path (get_or l k d)) p ≡ false) where
    earlier : (k : ℕ) (d : D) → k < i → bytes_eq (path (get_or l k d)) p ≡ false
    earlier k d less = less_apart (path (get_or l k d)) p (before_less (path (get_or l k d)) p (before k d (omega arith) less))

    pub found : (d : D) → i < length l → bytes_eq (path (get_or l i d)) p ≡ true → IsFirst path l p i
    found d lt hit = first_at path l p i d lt hit (λ k less. earlier k d less)

    pub missed : ((d : D) → i < length l → bytes_eq (path (get_or l i d)) p ≡ false) → IsNone (sectors_of (rows_of path size l) p)
    missed miss = none_there l p (λ k d lt. elim (cases_lt k i) [
      | inl less ↦ earlier k d less
      | inr ge ↦ elim (cases_lt i k) [
        | inr le ↦ let same : i ≡ k = omega arith in subst (λ (j : ℕ). bytes_eq (path (get_or l j d)) p ≡ false) same (miss d (omega arith))
        | inl more ↦ later k d more lt
      ]
    ])
      where
        later : (k : ℕ) (d : D) → i < k → k < length l → bytes_eq (path (get_or l k d)) p ≡ false
        later k d more lt =
            let here = not_before (path (get_or l i d)) p (after i d (omega arith) (omega arith)) (miss d (omega arith)) in
            let there = rises_at path size l i k d rises more lt in
            bytes_eq-sym p (path (get_or l k d)) (less_apart p (path (get_or l k d)) (less_less p (path (get_or l i d)) (path (get_or l k d)) here there))
