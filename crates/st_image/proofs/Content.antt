-- The cells that are read from an image.
use Rattle.std.proofs.Common.{◌≡◌, ℕ, suc, ◌+◌, ◌-◌, ◌<◌, ◌≤◌, Bool, true, false, ◌&&◌, ◌||◌, cond, nat_eq, List, [], ◌∷◌, ◌++◌, length, take, drop, Some, refl, sym, ◌∙◌, ap, subst, append_assoc, arith}
use Rattle.std.specs.List.{slice_get}
use Rattle.std.specs.Str.{bytes_eq}
use Rattle.std.proofs.Math.Seq.{take-append_seam, drop-append_seam}
use Rattle.st_rack.proofs.Pending.{within_below, within_above}
use Rattle.st_rack.specs.Device.{Path, State, Image, held, cells}
use Rattle.st_rack.proofs.Cells.{cells_same, cells-add, length-cells}
use Rattle.st_poolrec.specs.declared.record.PoolRec.{PoolRec}
use Rattle.st_flexrec.specs.declared.rows.CellRow.{CellRow}
use Rattle.st_rack.specs.Left.{LeftOn}
use Rattle.st_fields.specs.Slot.{Found}
use Rattle.st_rack.specs.Story.{Content}
use Rattle.st_image.specs.Looks.{Look}
use Rattle.st_image.specs.Calm.{IsOf}
use Rattle.st_image.specs.Stands.{Range, range_of, bytes_in, cells_of}
use Rattle.st_image.specs.Frame.{covers, Moved, AgreesOn, SureOn}
use Rattle.st_model.specs.InPlace.{over, put_cell}

-- A range that was sure at the start is left as it was, but where something was written that is loose.
pub agrees_left : (devs : List Path) (read : ℕ → Look → Content → Found) (w loose : List Range) (q : Range) (a s : State) (c : Image) → IsOf devs q.0 → Moved w a s → SureOn q a
    → ((i : ℕ) → q.1 ≤ i → i < q.1 + q.2 → covers loose q.0 i ≡ false → covers w q.0 i ≡ false) → LeftOn devs read s c → AgreesOn q loose c (held a)
agrees_left devs read w loose q a s c on moved sure inside leaves i low high off =
    let out = inside i low high off in
    (leaves on.index q.0 on.is).left i (moved.sure q.0 i out (sure i low high)) ∙ moved.same q.0 i out

pub same_bytes : (q : Range) (c m : Image) → AgreesOn q [] c m → bytes_in c q ≡ bytes_in m q
same_bytes q c m agrees = cells_same (c q.0) (m q.0) q.1 q.2 (λ i low high. agrees i low high refl)

take_front : (xs ys : List ℕ) (n : ℕ) → length xs ≡ n → take n (xs ++ ys) ≡ xs
take_front xs ys n is = subst (λ (k : ℕ). take k (xs ++ ys) ≡ xs) is (take-append_seam xs ys)

drop_front : (xs ys : List ℕ) (n : ℕ) → length xs ≡ n → drop n (xs ++ ys) ≡ ys
drop_front xs ys n is = subst (λ (k : ℕ). drop k (xs ++ ys) ≡ ys) is (drop-append_seam xs ys)

two_parts : (f : ℕ → ℕ) (at k n : ℕ) → k ≤ n → cells f at n ≡ cells f at k ++ cells f (at + k) (n - k)
two_parts f at k n le =
    let one : n ≡ k + (n - k) = omega arith in
    ap (cells f at) one ∙ cells-add f at k (n - k)

-- bytes in three parts
parts : (f : ℕ → ℕ) (at off k n : ℕ) → off + k ≤ n → cells f at n ≡ cells f at off ++ cells f (at + off) k ++ cells f (at + (off + k)) (n - (off + k))
parts f at off k n le = two_parts f at (off + k) n le ∙ ap (λ (l : List ℕ). l ++ cells f (at + (off + k)) (n - (off + k))) (cells-add f at off k)

-- a range with other bytes in a piece of it
pub piece_bytes : (d : Path) (at off k n : ℕ) (c m : Image) → off + k ≤ n → AgreesOn (d, at, n) ((d, at + off, k) ∷ []) c m
    → bytes_in c (d, at, n) ≡ over (bytes_in m (d, at, n)) off (cells (c d) (at + off) k)
piece_bytes d at off k n c m le agrees =
    let h : List ℕ = cells (c d) (at + off) k in
    let size : length h ≡ k = length-cells (c d) (at + off) k in
    let front : cells (c d) at off ≡ take off (cells (m d) at n) =
    cells_same (c d) (m d) at off (λ i low high. agrees i low (omega (arith, high, le)) (below i high))
    ∙ sym (take_front (cells (m d) at off) (cells (m d) (at + off) (n - off)) off (length-cells (m d) at off)) ∙ ap (take off) (sym (two_parts (m d) at off n (omega (arith, le)))) in
    let back : cells (c d) (at + (off + k)) (n - (off + k)) ≡ drop (off + length h) (cells (m d) at n) =
    cells_same (c d) (m d) (at + (off + k)) (n - (off + k)) (λ i low high. agrees i (omega (arith, low)) (omega (arith, high, le)) (above i low))
    ∙ sym (drop_front (cells (m d) at (off + k)) (cells (m d) (at + (off + k)) (n - (off + k))) (off + length h) (omega (arith, length-cells (m d) at (off + k), size)))
    ∙ ap (drop (off + length h)) (sym (two_parts (m d) at (off + k) n le)) in
    parts (c d) at off k n le ∙ (λ i. front i ++ h ++ back i) ∙ append_assoc (take off (cells (m d) at n)) h (drop (off + length h) (cells (m d) at n))
  where
    below : (i : ℕ) → i < at + off → covers ((d, at + off, k) ∷ []) d i ≡ false
    below i lt = ap (λ (b : Bool). (bytes_eq d d && b) || false) (within_below (at + off) k i lt) ∙ end (bytes_eq d d)
      where
        end : (b : Bool) → ((b && false) || false) ≡ false
        end true = refl
        end false = refl

    above : (i : ℕ) → at + (off + k) ≤ i → covers ((d, at + off, k) ∷ []) d i ≡ false
    above i le = ap (λ (b : Bool). (bytes_eq d d && b) || false) (within_above (at + off) k i (omega (arith, le))) ∙ end (bytes_eq d d)
      where
        end : (b : Bool) → ((b && false) || false) ≡ false
        end true = refl
        end false = refl

abbrev entry : ℕ → List ℕ → ℕ × List ℕ
entry n l = (n, l)

push : (b : Bool) (n : ℕ) (x y : List ℕ) → entry n (cond b x y) ≡ cond b (entry n x) (entry n y)
push true n x y = refl
push false n x y = refl

-- the cells are the same, but for bytes that are put into one of them
module _ (rec : PoolRec) (c m : Image) where
  pub cells_piece : (cell at : ℕ) (h : List ℕ) (rows : List CellRow) → ((k : ℕ) (row : CellRow) → slice_get rows k ≡ Some row →
      bytes_in c (range_of rec row.place) ≡ cond (nat_eq row.cell cell) (over (bytes_in m (range_of rec row.place)) at h) (bytes_in m (range_of rec row.place)))
      → cells_of rec rows c ≡ put_cell cell at h (cells_of rec rows m)
  cells_piece cell at h [] each = refl
  cells_piece cell at h (row ∷ rows) each =
      let rest = cells_piece cell at h rows (λ k r is. each (suc k) r is) in
      let bytes = bytes_in m (range_of rec row.place) in
      let x : ℕ × List ℕ = (row.cell, over bytes at h) in
      let y : ℕ × List ℕ = (row.cell, bytes) in
      let z : ℕ × List ℕ = (row.cell, bytes_in c (range_of rec row.place)) in
      let here : z ≡ cond (nat_eq row.cell cell) x y = ap (λ (l : List ℕ). entry row.cell l) (each 0 row refl) ∙ push (nat_eq row.cell cell) row.cell (over bytes at h) bytes in
      (λ i. here i ∷ rest i)

  pub cells_alike : (rows : List CellRow) → ((k : ℕ) (row : CellRow) → slice_get rows k ≡ Some row → bytes_in c (range_of rec row.place) ≡ bytes_in m (range_of rec row.place))
      → cells_of rec rows c ≡ cells_of rec rows m
  cells_alike [] each = refl
  cells_alike (row ∷ rows) each =
      let here = each 0 row refl in
      let rest = cells_alike rows (λ k r is. each (suc k) r is) in
      (λ i. (row.cell, here i) ∷ rest i)
