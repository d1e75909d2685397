-- Bytes that are laid over others.
use Rattle.std.proofs.Common.{◌≡◌, ◌≢◌, inl, inr, ℕ, ◌+◌, ◌-◌, ◌*◌, ◌/◌, ◌%◌, ◌<◌, ◌≤◌, Bool, cond, List, ◌++◌, take, drop, length, get_or, sym, ◌∙◌, ap, arith, length-append, length-take, length-drop}
use Rattle.std.proofs.lemmas.List.{get_or-take, get_or-drop, get_or_append_left, get_or-append_right}
use Rattle.std.proofs.lemmas.Grind.{same_number_lists}
use Rattle.std.proofs.lemmas.Bool.{cases_lt}
use Rattle.st_rack.specs.Story.{Content, put_in}
use Rattle.st_rack.specs.Device.{cells}
use Rattle.st_rack.proofs.Cells.{length-cells, get_or-cells, cells-add}
use Rattle.st_rack.proofs.Pending.{within_below, within_above, within_inside}
use Rattle.st_rack.proofs.Readers.{put_in_outside}

pub put_in_inside : (at : ℕ) (bytes : List ℕ) (f : Content) (i : ℕ) → at ≤ i → i < at + length bytes → put_in at bytes f i ≡ get_or bytes (i - at) 0
put_in_inside at bytes f i le lt = ap (λ (b : Bool). cond b (get_or bytes (i - at) 0) (f i)) (within_inside at (length bytes) i le lt)

pub put_in_below : (at : ℕ) (bytes : List ℕ) (f : Content) (i : ℕ) → i < at → put_in at bytes f i ≡ f i
put_in_below at bytes f i lt = put_in_outside at bytes f i (within_below at (length bytes) i lt)

pub put_in_above : (at : ℕ) (bytes : List ℕ) (f : Content) (i : ℕ) → at + length bytes ≤ i → put_in at bytes f i ≡ f i
put_in_above at bytes f i le = put_in_outside at bytes f i (within_above at (length bytes) i le)

-- a piece in the middle of a list
module _ (b p : List ℕ) (a m : ℕ) (size : length p ≡ m) (le : a + m ≤ length b) where
  front : length (take a b) ≡ a
  front = omega (arith, length-take {A = ℕ})

  pub piece_length : length (take a b ++ p ++ drop (a + m) b) ≡ length b
  piece_length = omega (arith, length-append (take a b ++ p) (drop (a + m) b), length-append (take a b) p, front, size, length-drop {A = ℕ})

  pub before_piece : (k : ℕ) → k < a → get_or (take a b ++ p ++ drop (a + m) b) k 0 ≡ get_or b k 0
  before_piece k lt =
      get_or_append_left (take a b ++ p) (drop (a + m) b) 0 k (omega (arith, length-append (take a b) p, front))
      ∙ get_or_append_left (take a b) p 0 k (omega (arith, front)) ∙ get_or-take a b k 0 lt

  pub in_piece : (k : ℕ) → a ≤ k → k < a + m → get_or (take a b ++ p ++ drop (a + m) b) k 0 ≡ get_or p (k - a) 0
  in_piece k ge lt =
      get_or_append_left (take a b ++ p) (drop (a + m) b) 0 k (omega (arith, length-append (take a b) p, front, size))
      ∙ get_or-append_right (take a b) p a k 0 front ge

  pub after_piece : (k : ℕ) → a + m ≤ k → get_or (take a b ++ p ++ drop (a + m) b) k 0 ≡ get_or b k 0
  after_piece k ge =
      get_or-append_right (take a b ++ p) (drop (a + m) b) (a + m) k 0 (omega (arith, length-append (take a b) p, front, size)) ge
      ∙ get_or-drop (a + m) b (k - (a + m)) 0 ∙ ap (λ (j : ℕ). get_or b j 0) back
    where
      back : a + m + (k - (a + m)) ≡ k
      back = omega arith

-- A write is laid over a buffer that begins at A: its bytes from `first` on, m of them, at a.
module _ (f : Content) (A n B : ℕ) (bytes : List ℕ) (a first m : ℕ) (same : A + a ≡ B + first) (inside : first + m ≤ length bytes) (fits : a + m ≤ n)
    (below : (k : ℕ) → k < a → A + k < B) (above : (k : ℕ) → a + m ≤ k → k < n → B + length bytes ≤ A + k) where
  abbrev buf : List ℕ
  buf = cells f A n

  abbrev part : List ℕ
  part = take m (drop first bytes)

  size : length part ≡ m
  size = omega (arith, length-take {A = ℕ}, length-drop {A = ℕ})

  room : a + m ≤ length buf
  room = omega (arith, fits, length-cells f A n)

  given : (k : ℕ) → k < n → get_or (take a buf ++ part ++ drop (a + m) buf) k 0 ≡ put_in B bytes f (A + k)
  given k lt = elim (cases_lt k a) [
    | inl low ↦ before_piece buf part a m size room k low ∙ get_or-cells f A n k lt ∙ sym (put_in_below B bytes f (A + k) (below k low))
    | inr from ↦ elim (cases_lt k (a + m)) [
      | inl until ↦
          let there : first + (k - a) ≡ A + k - B = omega (arith, same) in
          in_piece buf part a m size room k from until
          ∙ get_or-take m (drop first bytes) (k - a) 0 (omega arith) ∙ get_or-drop first bytes (k - a) 0 ∙ ap (λ (j : ℕ). get_or bytes j 0) there
          ∙ sym (put_in_inside B bytes f (A + k) (omega (arith, same)) (omega (arith, same, inside)))
      | inr high ↦ after_piece buf part a m size room k high ∙ get_or-cells f A n k lt ∙ sym (put_in_above B bytes f (A + k) (above k high lt))
    ]
  ]

  pub laid : take a buf ++ part ++ drop (a + m) buf ≡ cells (put_in B bytes f) A n
  laid = same_number_lists (take a buf ++ part ++ drop (a + m) buf) (cells (put_in B bytes f) A n)
      (piece_length buf part a m size room ∙ length-cells f A n ∙ sym (length-cells (put_in B bytes f) A n))
      (λ k lt.
      let small : k < n = omega (arith, piece_length buf part a m size room, length-cells f A n) in
      given k small ∙ sym (get_or-cells (put_in B bytes f) A n k small))

-- a write that lies outside a buffer changes none of its bytes
pub laid_outside : (f : Content) (A n B : ℕ) (bytes : List ℕ) → ((k : ℕ) → k < n → (A + k < B → ⊥) → B + length bytes ≤ A + k) → cells f A n ≡ cells (put_in B bytes f) A n
laid_outside f A n B bytes out = same_number_lists (cells f A n) (cells (put_in B bytes f) A n)
    (length-cells f A n ∙ sym (length-cells (put_in B bytes f) A n))
    (λ k lt.
    let small : k < n = omega (arith, length-cells f A n) in
    get_or-cells f A n k small ∙ sym (at_k k small) ∙ sym (get_or-cells (put_in B bytes f) A n k small))
  where
    at_k : (k : ℕ) → k < n → put_in B bytes f (A + k) ≡ f (A + k)
    at_k k lt = elim (cases_lt (A + k) B) [
      | inl low ↦ put_in_below B bytes f (A + k) low
      | inr ge ↦ put_in_above B bytes f (A + k) (out k lt (λ low. absurd (omega (arith, low, ge))))
    ]

-- one more sector of a write
module _ (f g h : Content) (s k : ℕ) (bytes piece : List ℕ) (room : 512 * k + 512 ≤ length bytes) (is : piece ≡ take 512 (drop (512 * k) bytes))
    (so_far : (i : ℕ) → g i ≡ put_in (512 * s) (take (512 * k) bytes) f i) (here : (i : ℕ) → i / 512 ≡ s + k → h i ≡ get_or piece (i % 512) 0)
    (others : (i : ℕ) → i / 512 ≢ s + k → h i ≡ g i) where
  short : length (take (512 * k) bytes) ≡ 512 * k
  short = omega (arith, length-take {A = ℕ})

  long : length (take (512 * (k + 1)) bytes) ≡ 512 * k + 512
  long = omega (arith, length-take {A = ℕ})

  elsewhere : (i : ℕ) → i / 512 ≢ s + k → h i ≡ put_in (512 * s) (take (512 * k) bytes) f i
  elsewhere i ne = others i ne ∙ so_far i

  pub one_more : (i : ℕ) → h i ≡ put_in (512 * s) (take (512 * (k + 1)) bytes) f i
  one_more i = elim (cases_lt i (512 * s)) [
    | inl low ↦ elsewhere i (λ e. absurd (omega (arith, e, low))) ∙ put_in_below (512 * s) (take (512 * k) bytes) f i low ∙ sym (put_in_below (512 * s) (take (512 * (k + 1)) bytes) f i low)
    | inr from ↦ elim (cases_lt i (512 * s + 512 * k)) [
      | inl until ↦
          elsewhere i (λ e. absurd (omega (arith, e, until))) ∙ put_in_inside (512 * s) (take (512 * k) bytes) f i from (omega (arith, short, until))
          ∙ get_or-take (512 * k) bytes (i - 512 * s) 0 (omega arith) ∙ sym (get_or-take (512 * (k + 1)) bytes (i - 512 * s) 0 (omega arith))
          ∙ sym (put_in_inside (512 * s) (take (512 * (k + 1)) bytes) f i from (omega (arith, long, until)))
      | inr past ↦ elim (cases_lt i (512 * s + 512 * k + 512)) [
        | inl last ↦
            let there : 512 * k + i % 512 ≡ i - 512 * s = omega arith in
            here i (omega arith) ∙ ap (λ (l : List ℕ). get_or l (i % 512) 0) is ∙ get_or-take 512 (drop (512 * k) bytes) (i % 512) 0 (omega arith)
            ∙ get_or-drop (512 * k) bytes (i % 512) 0 ∙ ap (λ (j : ℕ). get_or bytes j 0) there
            ∙ sym (get_or-take (512 * (k + 1)) bytes (i - 512 * s) 0 (omega arith))
            ∙ sym (put_in_inside (512 * s) (take (512 * (k + 1)) bytes) f i from (omega (arith, long, last)))
        | inr high ↦
            elsewhere i (λ e. absurd (omega (arith, e, high))) ∙ put_in_above (512 * s) (take (512 * k) bytes) f i (omega (arith, short, high))
            ∙ sym (put_in_above (512 * s) (take (512 * (k + 1)) bytes) f i (omega (arith, long, high)))
      ]
    ]
  ]

-- one more sector of a read
pub read_more : (f : Content) (s k : ℕ) (old new : List ℕ) → take (512 * k) old ≡ cells f (512 * s) (512 * k) → take (512 * k + 512) new ≡ take (512 * k) old ++ cells f (512 * (s + k)) 512
    → take (512 * (k + 1)) new ≡ cells f (512 * s) (512 * (k + 1))
read_more f s k old new so_far front =
    ap (λ (n : ℕ). take n new) next ∙ front ∙ ap (λ (l : List ℕ). l ++ cells f (512 * (s + k)) 512) so_far
    ∙ ap (λ (n : ℕ). cells f (512 * s) (512 * k) ++ cells f n 512) place ∙ sym (cells-add f (512 * s) (512 * k) 512) ∙ ap (λ (n : ℕ). cells f (512 * s) n) (sym next)
  where
    next : 512 * (k + 1) ≡ 512 * k + 512
    next = omega arith

    place : 512 * (s + k) ≡ 512 * s + 512 * k
    place = omega arith
