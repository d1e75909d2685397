-- Pieces of cells on devices, any number of them.
use Rattle.std.specs.Prelude.{◌≡◌, ℕ, ◌+◌, ◌<◌, ◌≤◌, true, false, nat_eq, List, [], ◌∷◌, ◌++◌, Some, slice_get}
use Rattle.st_limits.specs.declared.TheConstants.{BLOCK_BYTES}
use Rattle.st_poolrec.specs.declared.record.PoolRec.{PoolRec}
use Rattle.st_flexrec.specs.declared.rows.CellRow.{CellRow}
use Rattle.st_rack.specs.Device.{Image, cells}
use Rattle.st_image.specs.Stands.{Range, range_of}
use Rattle.st_model.specs.InPlace.{Piece}
use Rattle.st_image.specs.Frame.{covers}

-- The piece of a cell lies in this range, and no other cell of these rows has a byte there.
pub record PieceAt (rec : PoolRec) (rows : List CellRow) (q : Piece) (r : Range) : Type 0 where
  pub base : ℕ
  pub at : r.1 ≡ base + q.1
  pub size : r.2 ≡ q.2
  pub inside : q.1 + r.2 ≤ BLOCK_BYTES
  pub own : (k : ℕ) (row : CellRow) → slice_get rows k ≡ Some row → nat_eq row.cell q.0 ≡ true → range_of rec row.place ≡ (r.0, base, BLOCK_BYTES)
  pub others : (k : ℕ) (row : CellRow) → slice_get rows k ≡ Some row → nat_eq row.cell q.0 ≡ false
      → (i : ℕ) → (range_of rec row.place).1 ≤ i → i < (range_of rec row.place).1 + (range_of rec row.place).2 → covers (r ∷ []) (range_of rec row.place).0 i ≡ false

abbrev pub ArePieces : PoolRec → List CellRow → List Piece → List Range → Type 0
ArePieces rec rows [] [] = Unit {0}
ArePieces rec rows [] (r ∷ rs) = ⊥
ArePieces rec rows (q ∷ qs) [] = ⊥
ArePieces rec rows (q ∷ qs) (r ∷ rs) = PieceAt rec rows q r × ArePieces rec rows qs rs

-- what the image has in the ranges
abbrev pub bytes_of : List Range → Image → List ℕ
bytes_of [] c = []
bytes_of (r ∷ rs) c = cells (c r.0) r.1 r.2 ++ bytes_of rs c
