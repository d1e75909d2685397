-- An image that agrees but for any pieces has the cells with the bytes that it has there.
use Rattle.std.proofs.Common.{◌≡◌, inl, inr, ℕ, ◌+◌, ◌<◌, ◌≤◌, Bool, true, false, ◌&&◌, ◌||◌, cond, nat_eq, List, [], ◌∷◌, ◌++◌, length, take, drop, Some, refl, sym, ◌∙◌, ap, subst}
use Rattle.std.specs.List.{slice_get}
use Rattle.std.specs.Str.{bytes_eq}
use Rattle.std.proofs.Math.Seq.{take-append_seam, drop-append_seam}
use Rattle.std.proofs.lemmas.Slice.Eq.{bytes_eq-Decides}
use Rattle.std.proofs.lemmas.Bool.{cases_Bool}
use Rattle.st_limits.specs.declared.TheConstants.{BLOCK_BYTES}
use Rattle.st_poolrec.specs.declared.record.PoolRec.{PoolRec}
use Rattle.st_flexrec.specs.declared.rows.CellRow.{CellRow}
use Rattle.st_rack.specs.Story.{within}
use Rattle.st_rack.specs.Device.{Path, Image, cells}
use Rattle.st_rack.proofs.Cells.{cells_same, length-cells}
use Rattle.st_rack.proofs.Pending.{within_inside}
use Rattle.st_image.specs.Stands.{Range, range_of, bytes_in, cells_of}
use Rattle.st_image.specs.Frame.{covers, AgreesOn}
use Rattle.st_model.specs.InPlace.{Piece, over, put_cell, put_pieces}
use Rattle.st_image.specs.Pieces.{PieceAt, ArePieces, bytes_of}
use Rattle.st_image.proofs.Content.{same_bytes, piece_bytes, cells_piece, cells_alike}

-- the image m with what c has in a range
abbrev patched : Range → Image → Image → Image
patched r c m d i = cond (covers (r ∷ []) d i) (c d i) (m d i)

module _ (rec : PoolRec) (rows : List CellRow) where
  -- one piece
  one_piece : (q : Piece) (r : Range) (c m : Image) → PieceAt rec rows q r → ((k : ℕ) (row : CellRow) → slice_get rows k ≡ Some row → AgreesOn (range_of rec row.place) (r ∷ []) c m)
      → cells_of rec rows c ≡ put_cell q.0 q.1 (cells (c r.0) r.1 r.2) (cells_of rec rows m)
  one_piece q r c m lies agrees = cells_piece rec c m q.0 q.1 (cells (c r.0) r.1 r.2) rows each
    where
      own_bytes : (k : ℕ) (row : CellRow) → slice_get rows k ≡ Some row → nat_eq row.cell q.0 ≡ true → bytes_in c (range_of rec row.place) ≡ over (bytes_in m (range_of rec row.place)) q.1 (cells (c r.0) r.1 r.2)
      own_bytes k row is hit =
          let own = lies.own k row is hit in
          let one : AgreesOn (r.0, lies.base, BLOCK_BYTES) (r ∷ []) c m = subst (λ (x : Range). AgreesOn x (r ∷ []) c m) own (agrees k row is) in
          let two : AgreesOn (r.0, lies.base, BLOCK_BYTES) ((r.0, lies.base + q.1, r.2) ∷ []) c m = subst (λ (n : ℕ). AgreesOn (r.0, lies.base, BLOCK_BYTES) ((r.0, n, r.2) ∷ []) c m) lies.at one in
          subst (λ (x : Range). bytes_in c x ≡ over (bytes_in m x) q.1 (cells (c r.0) r.1 r.2)) (sym own)
          (piece_bytes r.0 lies.base q.1 r.2 BLOCK_BYTES c m lies.inside two ∙ ap (λ (n : ℕ). over (bytes_in m (r.0, lies.base, BLOCK_BYTES)) q.1 (cells (c r.0) n r.2)) (sym lies.at))

      other_bytes : (k : ℕ) (row : CellRow) → slice_get rows k ≡ Some row → nat_eq row.cell q.0 ≡ false → bytes_in c (range_of rec row.place) ≡ bytes_in m (range_of rec row.place)
      other_bytes k row is miss =
          let one = agrees k row is in
          same_bytes (range_of rec row.place) c m (λ i low high none. one i low high (lies.others k row is miss i low high))

      each : (k : ℕ) (row : CellRow) → slice_get rows k ≡ Some row
          → bytes_in c (range_of rec row.place) ≡ cond (nat_eq row.cell q.0) (over (bytes_in m (range_of rec row.place)) q.1 (cells (c r.0) r.1 r.2)) (bytes_in m (range_of rec row.place))
      each k row is = elim (cases_Bool (nat_eq row.cell q.0)) [
        | inl hit ↦ own_bytes k row is hit ∙ sym (ap (λ (t : Bool). cond t (over (bytes_in m (range_of rec row.place)) q.1 (cells (c r.0) r.1 r.2)) (bytes_in m (range_of rec row.place))) hit)
        | inr miss ↦ other_bytes k row is miss ∙ sym (ap (λ (t : Bool). cond t (over (bytes_in m (range_of rec row.place)) q.1 (cells (c r.0) r.1 r.2)) (bytes_in m (range_of rec row.place))) miss)
      ]

  patched_there : (r : Range) (c m : Image) → cells (patched r c m r.0) r.1 r.2 ≡ cells (c r.0) r.1 r.2
  patched_there r c m = cells_same (patched r c m r.0) (c r.0) r.1 r.2 (λ i low high. ap (λ (b : Bool). cond b (c r.0 i) (m r.0 i)) (inside i low high))
    where
      inside : (i : ℕ) → r.1 ≤ i → i < r.1 + r.2 → covers (r ∷ []) r.0 i ≡ true
      inside i low high = (λ j. (bytes_eq-Decides r.0 r.0).1 refl j && within_inside r.1 r.2 i low high j || false)

  -- any number of pieces
  pub all_pieces : (qs : List Piece) (rs : List Range) (c m : Image) → ArePieces rec rows qs rs → ((k : ℕ) (row : CellRow) → slice_get rows k ≡ Some row → AgreesOn (range_of rec row.place) rs c m)
      → cells_of rec rows c ≡ put_pieces qs (bytes_of rs c) (cells_of rec rows m)
  all_pieces [] [] c m are agrees = cells_alike rec c m rows (λ k row is. same_bytes (range_of rec row.place) c m (agrees k row is))
  all_pieces [] (r ∷ rs) c m are agrees = absurd are
  all_pieces (q ∷ qs) [] c m are agrees = absurd are
  all_pieces (q ∷ qs) (r ∷ rs) c m are agrees =
      let h : List ℕ = cells (c r.0) r.1 r.2 in
      let size : length h ≡ q.2 = length-cells (c r.0) r.1 r.2 ∙ are.0.size in
      let rest = all_pieces qs rs c (patched r c m) are.1 (λ k row is i low high off. after_one (range_of rec row.place).0 i off (agrees k row is i low high)) in
      let first = one_piece q r (patched r c m) m are.0 (λ k row is i low high off. ap (λ (b : Bool). cond b (c (range_of rec row.place).0 i) (m (range_of rec row.place).0 i)) off) in
      let there = ap (λ (l : List ℕ). put_cell q.0 q.1 l (cells_of rec rows m)) (patched_there r c m) in
      let front : take q.2 (h ++ bytes_of rs c) ≡ h = ap (λ (n : ℕ). take n (h ++ bytes_of rs c)) (sym size) ∙ take-append_seam h (bytes_of rs c) in
      let back : drop q.2 (h ++ bytes_of rs c) ≡ bytes_of rs c = ap (λ (n : ℕ). drop n (h ++ bytes_of rs c)) (sym size) ∙ drop-append_seam h (bytes_of rs c) in
      rest ∙ ap (put_pieces qs (bytes_of rs c)) (first ∙ there)
      ∙ sym (λ i. put_pieces qs (back i) (put_cell q.0 q.1 (front i) (cells_of rec rows m)))
    where
      after_one : (d : Path) (i : ℕ) → covers rs d i ≡ false → (covers (r ∷ rs) d i ≡ false → c d i ≡ m d i) → c d i ≡ patched r c m d i
      after_one d i off same = elim (cases_Bool (covers (r ∷ []) d i)) [
        | inl hit ↦ sym (ap (λ (b : Bool). cond b (c d i) (m d i)) hit)
        | inr miss ↦ same (both (bytes_eq r.0 d && within r.1 r.2 i) miss) ∙ sym (ap (λ (b : Bool). cond b (c d i) (m d i)) miss)
      ]
        where
          both : (b : Bool) → (b || false) ≡ false → (b || covers rs d i) ≡ false
          both true e = absurd (cc)
          both false e = off
