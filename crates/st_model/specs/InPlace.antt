-- the sectors that a write changes in place: what they hold is lost where the write is cut off
use Rattle.std.specs.Prelude.{ℕ, ◌+◌, ◌*◌, ◌/◌, nat_eq, List, [], ◌∷◌, length, map, flat_map, take, drop, Option, Some, None, if◌then◌else◌}
use Rattle.std.specs.List.{splice}
use Rattle.st_limits.specs.Sums.{is_shared}
use Rattle.st_limits.specs.declared.TheConstants.{SECTOR_BYTES}
use Rattle.st_model.specs.declared.call.Call.{Call}
use Rattle.st_model.specs.declared.call.Call.TheVariants.{FsWrite}
use Rattle.st_model.specs.declared.call.Payload.{Payload}
use Rattle.st_model.specs.declared.call.Payload.TheVariants.{Fill, Given}
use Rattle.st_model.specs.declared.state.FsState.{FsState}
use Rattle.st_model.specs.declared.state.PoolState.{PoolState}
use Rattle.st_model.specs.Checks.{fs_at}
use Rattle.st_model.specs.Content.{Stretch, stretches, cell_at, mapped_cells}

-- the sectors of a payload, which are whole
abbrev pub sectors_in : Payload → ℕ
sectors_in (Fill byte n) = n
sectors_in (Given bytes) = length bytes / SECTOR_BYTES

-- bytes of a cell: its number, from where, how many
abbrev pub Piece : Type 0
Piece = ℕ × ℕ × ℕ

-- bytes with these over those from a place on
abbrev pub over : List ℕ → ℕ → List ℕ → List ℕ
over bytes at piece = splice bytes at (at + length piece) piece

abbrev pub put_cell : ℕ → ℕ → List ℕ → List (ℕ × List ℕ) → List (ℕ × List ℕ)
put_cell cell at h cells = map (λ (e : ℕ × List ℕ). if nat_eq e.0 cell then (e.0, over e.1 at h) else e) cells

-- the cells with these bytes in the pieces, in order
abbrev pub put_pieces : List Piece → List ℕ → List (ℕ × List ℕ) → List (ℕ × List ℕ)
put_pieces [] h cells = cells
put_pieces (q ∷ qs) h cells = put_pieces qs (drop q.2 h) (put_cell q.0 q.1 (take q.2 h) cells)

abbrev pub size_of : List Piece → ℕ
size_of [] = 0
size_of (q ∷ qs) = q.2 + size_of qs

-- a stretch of a block that has this cell, where the cell is mapped there alone
abbrev pub piece_in : List ℕ → Stretch → Option ℕ → List Piece
piece_in cells s None = []
piece_in cells s (Some cell) = if is_shared cells cell then [] else (cell, SECTOR_BYTES * s.at, SECTOR_BYTES * s.sectors) ∷ []

-- the sectors in place of a write: those in blocks whose cell is mapped once
abbrev pub pieces_at : List FsState → Option FsState → List Stretch → List Piece
pieces_at filesystems None written = []
pieces_at filesystems (Some fs) written = flat_map (λ (s : Stretch). piece_in (mapped_cells filesystems) s (cell_at s.block fs.map)) written

abbrev pub in_place : PoolState → Call → List Piece
in_place pool (FsWrite name fs sector payload) = pieces_at pool.filesystems (fs_at fs pool.filesystems) (stretches sector (sectors_in payload))
in_place pool _ = []

-- the pool with these bytes in the sectors in place of the call
abbrev pub with_bytes : PoolState → Call → List ℕ → PoolState
with_bytes pool call h = record pool { cells = put_pieces (in_place pool call) h pool.cells }
