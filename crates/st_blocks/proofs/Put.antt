-- Bytes that are put over others.
use Rattle.std.proofs.Common.{◌≡◌, inl, inr, ℕ, ◌+◌, ◌-◌, ◌<◌, ◌≤◌, Bool, cond, List, ◌++◌, take, drop, length, get_or, sym, ◌∙◌, ap, arith, length-take, length-drop}
use Rattle.std.proofs.lemmas.List.{get_or-take, get_or-drop}
use Rattle.std.proofs.lemmas.Bool.{cases_lt}
use Rattle.st_rack.specs.Story.{Content, put_in}
use Rattle.st_rack.specs.Device.{cells}
use Rattle.st_rack.proofs.Cells.{cells-add}
use Rattle.st_rack.proofs.Pending.{within_below, within_above, within_inside}
use Rattle.st_rack.proofs.Readers.{put_in_outside}

pub put_in_inside : (at : ℕ) (bytes : List ℕ) (f : Content) (i : ℕ) → at ≤ i → i < at + length bytes → put_in at bytes f i ≡ get_or bytes (i - at) 0
put_in_inside at bytes f i le lt = ap (λ (b : Bool). cond b (get_or bytes (i - at) 0) (f i)) (within_inside at (length bytes) i le lt)

pub put_in_below : (at : ℕ) (bytes : List ℕ) (f : Content) (i : ℕ) → i < at → put_in at bytes f i ≡ f i
put_in_below at bytes f i lt = put_in_outside at bytes f i (within_below at (length bytes) i lt)

pub put_in_above : (at : ℕ) (bytes : List ℕ) (f : Content) (i : ℕ) → at + length bytes ≤ i → put_in at bytes f i ≡ f i
put_in_above at bytes f i le = put_in_outside at bytes f i (within_above at (length bytes) i le)

-- the same bytes are put over the same ones, elsewhere
pub put_moved : (a b at : ℕ) (bytes : List ℕ) (f g : Content) (i : ℕ) → f (a + i) ≡ g (b + i) → put_in (a + at) bytes f (a + i) ≡ put_in (b + at) bytes g (b + i)
put_moved a b at bytes f g i same = elim (cases_lt i at) [
  | inl low ↦ put_in_below (a + at) bytes f (a + i) (omega (arith, low)) ∙ same ∙ sym (put_in_below (b + at) bytes g (b + i) (omega (arith, low)))
  | inr from ↦ elim (cases_lt i (at + length bytes)) [
    | inl until ↦
        let there : a + i - (a + at) ≡ b + i - (b + at) = omega (arith, from) in
        put_in_inside (a + at) bytes f (a + i) (omega (arith, from)) (omega (arith, until)) ∙ ap (λ (j : ℕ). get_or bytes j 0) there
        ∙ sym (put_in_inside (b + at) bytes g (b + i) (omega (arith, from)) (omega (arith, until)))
    | inr high ↦ put_in_above (a + at) bytes f (a + i) (omega (arith, high)) ∙ same ∙ sym (put_in_above (b + at) bytes g (b + i) (omega (arith, high)))
  ]
]

-- Two parts of a text, one behind the other, are put in as one.
module _ (f g h : Content) (at m n : ℕ) (bytes : List ℕ) (room : m + n ≤ length bytes)
    (so_far : (i : ℕ) → g i ≡ put_in at (take m bytes) f i) (part : (i : ℕ) → h i ≡ put_in (at + m) (take n (drop m bytes)) g i) where
  short : length (take m bytes) ≡ m
  short = omega (arith, length-take {A = ℕ})

  middle : length (take n (drop m bytes)) ≡ n
  middle = omega (arith, length-take {A = ℕ}, length-drop {A = ℕ})

  long : length (take (m + n) bytes) ≡ m + n
  long = omega (arith, length-take {A = ℕ})

  pub put_more : (i : ℕ) → h i ≡ put_in at (take (m + n) bytes) f i
  put_more i = elim (cases_lt i at) [
    | inl low ↦
        part i ∙ put_in_below (at + m) (take n (drop m bytes)) g i (omega (arith, low)) ∙ so_far i ∙ put_in_below at (take m bytes) f i low
        ∙ sym (put_in_below at (take (m + n) bytes) f i low)
    | inr from ↦ elim (cases_lt i (at + m)) [
      | inl until ↦
          part i ∙ put_in_below (at + m) (take n (drop m bytes)) g i until ∙ so_far i
          ∙ put_in_inside at (take m bytes) f i from (omega (arith, short, until)) ∙ get_or-take m bytes (i - at) 0 (omega (arith, from, until))
          ∙ sym (get_or-take (m + n) bytes (i - at) 0 (omega (arith, from, until))) ∙ sym (put_in_inside at (take (m + n) bytes) f i from (omega (arith, long, until)))
      | inr past ↦ elim (cases_lt i (at + m + n)) [
        | inl last ↦
            let there : m + (i - (at + m)) ≡ i - at = omega (arith, past) in
            part i ∙ put_in_inside (at + m) (take n (drop m bytes)) g i past (omega (arith, middle, last))
            ∙ get_or-take n (drop m bytes) (i - (at + m)) 0 (omega (arith, past, last)) ∙ get_or-drop m bytes (i - (at + m)) 0 ∙ ap (λ (j : ℕ). get_or bytes j 0) there
            ∙ sym (get_or-take (m + n) bytes (i - at) 0 (omega (arith, past, last))) ∙ sym (put_in_inside at (take (m + n) bytes) f i from (omega (arith, long, last)))
        | inr high ↦
            part i ∙ put_in_above (at + m) (take n (drop m bytes)) g i (omega (arith, middle, high)) ∙ so_far i ∙ put_in_above at (take m bytes) f i (omega (arith, short, high))
            ∙ sym (put_in_above at (take (m + n) bytes) f i (omega (arith, long, high)))
      ]
    ]
  ]

-- one more part of a read
pub read_more : (f : Content) (at m n : ℕ) (old new : List ℕ) → take m old ≡ cells f at m → take (m + n) new ≡ take m old ++ cells f (at + m) n → take (m + n) new ≡ cells f at (m + n)
read_more f at m n old new so_far front = front ∙ ap (λ (l : List ℕ). l ++ cells f (at + m) n) so_far ∙ sym (cells-add f at m n)
