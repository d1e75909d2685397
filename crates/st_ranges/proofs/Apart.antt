-- Bytes of ranges after a write.
use Rattle.std.proofs.Common.{◌≡◌, ◌≢◌, ◌⊎◌, inl, inr, ℕ, zero, suc, ◌+◌, ◌-◌, ◌<◌, ◌≤◌, Bool, true, false, ◌&&◌, ◌||◌, cond, List, [], ◌∷◌, length, get_or, Some, refl, sym, ◌∙◌, ap, arith, add-zero}
use Rattle.std.specs.List.{slice_get}
use Rattle.std.specs.Str.{bytes_eq}
use Rattle.std.proofs.lemmas.Bool.{cases_Bool, cases_lt}
use Rattle.st_rack.specs.Story.{Content, within, put_in}
use Rattle.st_rack.specs.Device.{Path, Image, cells}
use Rattle.st_rack.specs.Steps.{put_on}
use Rattle.st_rack.proofs.Cells.{cells_same, get_or-cells}
use Rattle.st_rack.proofs.Look.{same_or_other, on_path, off_path}
use Rattle.st_rack.proofs.Pending.{within_below, within_above, within_inside}
use Rattle.st_rack.proofs.Readers.{put_in_given, put_in_outside}
use Rattle.st_ranges.specs.Ranges.{Range, covers, bytes_in, AreApart}

-- two contents that agree, byte by byte
pub cells_alike : (f g : Content) (a b n : ℕ) → ((k : ℕ) → k < n → f (a + k) ≡ g (b + k)) → cells f a n ≡ cells g b n
cells_alike f g a b zero each = refl
cells_alike f g a b (suc n) each =
    let here : f a ≡ g b = ap f (sym (add-zero a)) ∙ each 0 (omega arith) ∙ ap g (add-zero b) in
    let rest = cells_alike f g (a + 1) (b + 1) n (λ k lt. ap f (shift a k) ∙ each (suc k) (omega arith) ∙ ap g (sym (shift b k))) in
    (λ i. here i ∷ rest i)
  where
    shift : (m k : ℕ) → m + 1 + k ≡ m + suc k
    shift m k = omega arith

pub cells_tell : (f g : Content) (a b n k : ℕ) → cells f a n ≡ cells g b n → k < n → f (a + k) ≡ g (b + k)
cells_tell f g a b n k same lt = sym (get_or-cells f a n k lt) ∙ ap (λ (l : List ℕ). get_or l k 0) same ∙ get_or-cells g b n k lt

-- bytes put at a place behind a, seen from a on
pub put_in_shift : (a o : ℕ) (bytes : List ℕ) (f : Content) (k : ℕ) → put_in (a + o) bytes f (a + k) ≡ put_in o bytes (λ j. f (a + j)) k
put_in_shift a o bytes f k =
    let at : (a + k) - (a + o) ≡ k - o = omega arith in
    (λ i. cond (same i) (get_or bytes (at i) 0) (f (a + k)))
  where
    same : within (a + o) (length bytes) (a + k) ≡ within o (length bytes) k
    same = elim (cases_lt k o) [
      | inl low ↦ within_below (a + o) (length bytes) (a + k) (omega arith) ∙ sym (within_below o (length bytes) k low)
      | inr from ↦ elim (cases_lt k (o + length bytes)) [
        | inl until ↦ within_inside (a + o) (length bytes) (a + k) (omega arith) (omega arith) ∙ sym (within_inside o (length bytes) k from until)
        | inr high ↦ within_above (a + o) (length bytes) (a + k) (omega arith) ∙ sym (within_above o (length bytes) k high)
      ]
    ]

-- the same bytes put at the same place of two that agree
pub both_put : (f g : Content) (a b n o : ℕ) (bytes : List ℕ) → cells f a n ≡ cells g b n → cells (put_in (a + o) bytes f) a n ≡ cells (put_in (b + o) bytes g) b n
both_put f g a b n o bytes same = cells_alike (put_in (a + o) bytes f) (put_in (b + o) bytes g) a b n each
  where
    each : (k : ℕ) → k < n → put_in (a + o) bytes f (a + k) ≡ put_in (b + o) bytes g (b + k)
    each k lt =
        put_in_shift a o bytes f k
        ∙ ap (λ (x : ℕ). cond (within o (length bytes) k) (get_or bytes (k - o) 0) x) (cells_tell f g a b n k same lt)
        ∙ sym (put_in_shift b o bytes g k)

module _ (dev : Path) (at : ℕ) (bytes : List ℕ) (c : Image) where
  pub put_here : put_on dev at bytes c dev ≡ put_in at bytes (c dev)
  put_here = ap (λ (t : Bool). cond t (put_in at bytes (c dev)) (c dev)) (on_path dev dev refl)

  pub put_elsewhere : (p : Path) → p ≢ dev → put_on dev at bytes c p ≡ c p
  put_elsewhere p ne = ap (λ (t : Bool). cond t (put_in at bytes (c p)) (c p)) (off_path p dev ne)

  -- a range apart from the write
  pub put_apart : (r : Range) → AreApart (dev, at, length bytes) r → bytes_in (put_on dev at bytes c) r ≡ bytes_in c r
  put_apart r apart = elim (same_or_other r.0 dev) [
    | inl e ↦ ap (λ (f : Content). cells f r.1 r.2) (on e) ∙ cells_same (put_in at bytes (c r.0)) (c r.0) r.1 r.2 (λ i low high. put_in_outside at bytes (c r.0) i (off i low high (apart (sym e))))
    | inr ne ↦ ap (λ (f : Content). cells f r.1 r.2) (put_elsewhere r.0 ne)
  ]
    where
      on : r.0 ≡ dev → put_on dev at bytes c r.0 ≡ put_in at bytes (c r.0)
      on e = ap (λ (t : Bool). cond t (put_in at bytes (c r.0)) (c r.0)) (on_path r.0 dev e)

      off : (i : ℕ) → r.1 ≤ i → i < r.1 + r.2 → (at + length bytes ≤ r.1) ⊎ (r.1 + r.2 ≤ at) → within at (length bytes) i ≡ false
      off i low high (inl before) = within_above at (length bytes) i (omega arith)
      off i low high (inr behind) = within_below at (length bytes) i (omega arith)

  -- the range of the write
  pub put_given : bytes_in (put_on dev at bytes c) (dev, at, length bytes) ≡ bytes
  put_given = ap (λ (f : Content). cells f at (length bytes)) put_here ∙ put_in_given at bytes (c dev)

-- a part of one of the ranges
pub covers_inside : (rs : List Range) (k : ℕ) (q r : Range) → slice_get rs k ≡ Some q → r.0 ≡ q.0 → q.1 ≤ r.1 → r.1 + r.2 ≤ q.1 + q.2 → (p : Path) (i : ℕ) → covers rs p i ≡ false → covers (r ∷ []) p i ≡ false
covers_inside [] k q r is path low high p i off = absurd (cc)
covers_inside (x ∷ rs) zero q r is path low high p i off =
    let same : x ≡ q = cc in
    by same (cases_Bool (bytes_eq r.0 p))
  where
    by : x ≡ q → (bytes_eq r.0 p ≡ true) ⊎ (bytes_eq r.0 p ≡ false) → covers (r ∷ []) p i ≡ false
    by same (inr there) = (λ j. there j && within r.1 r.2 i || false)
    by same (inl here) =
        let first : bytes_eq x.0 p ≡ true = ap (λ (y : Path). bytes_eq y p) (ap (λ (y : Range). y.0) same ∙ sym path) ∙ here in
        let out : within x.1 x.2 i ≡ false = left_off (within x.1 x.2 i) (covers rs p i) (sym (ap (λ (b : Bool). b && within x.1 x.2 i || covers rs p i) first) ∙ off) in
        let off_q : within q.1 q.2 i ≡ false = ap (λ (y : Range). within y.1 y.2 i) (sym same) ∙ out in
        (λ j. here j && off_r off_q j || false)
      where
        left_off : (a b : Bool) → (true && a || b) ≡ false → a ≡ false
        left_off true b h = h
        left_off false b h = refl

        off_r : within q.1 q.2 i ≡ false → within r.1 r.2 i ≡ false
        off_r out = elim (cases_lt i r.1) [
          | inl below ↦ within_below r.1 r.2 i below
          | inr from ↦ elim (cases_lt i (r.1 + r.2)) [
            | inl until ↦ absurd (let inside : within q.1 q.2 i ≡ true = within_inside q.1 q.2 i (omega arith) (omega arith) in cc)
            | inr above ↦ within_above r.1 r.2 i above
          ]
        ]
covers_inside (x ∷ rs) (suc k) q r is path low high p i off = covers_inside rs k q r is path low high p i (right_off (bytes_eq x.0 p && within x.1 x.2 i) (covers rs p i) off)
  where
    right_off : (a b : Bool) → (a || b) ≡ false → b ≡ false
    right_off true b h = absurd (let bad : true ≡ false = h in cc)
    right_off false b h = h
