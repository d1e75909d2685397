-- What is known of the devices of a started pool between its commits.
use Rattle.std.specs.Prelude.{◌≡◌, ℕ, ◌+◌, ◌<◌, ◌≤◌, ◌^◌, true, length, map, Some, slice_get}
use Rattle.st_poolrec.specs.declared.record.PoolRec.{PoolRec}
use Rattle.st_flexrec.specs.declared.rows.CellRow.{CellRow}
use Rattle.st_flexlog.specs.declared.state.FlexState.{FlexState}
use Rattle.st_seg.specs.Blocks.{blocks_of}
use Rattle.st_model.specs.declared.state.PoolState.{PoolState}
use Rattle.st_model.specs.Merged.{merged}
use Rattle.st_rack.specs.Device.{Path, State, Image}
use Rattle.st_rack.specs.Calls.{Devices, Has}
use Rattle.st_deltalog.specs.Bearing.{IsTail}
use Rattle.st_image.specs.Bears.{paths}
use Rattle.st_image.specs.Stands.{range_of, cell_rows, state_of}
use Rattle.st_image.specs.Calm.{Safe}
use Rattle.st_image.specs.Committed.{Committed}
use Rattle.st_image.specs.Kept.{as_pair}
use Rattle.st_books.specs.declared.books.Books.{Books}
use Rattle.st_books.specs.Spelled.{IsBare, same_flex}

abbrev pub rows_of : PoolRec → Devices
rows_of rec = map as_pair rec.devs

-- each cell has an allocated place, whose bytes no crash takes away
abbrev pub AreSafe : PoolRec → FlexState → State → Type 0
AreSafe rec st s = (k : ℕ) (row : CellRow) → slice_get (cell_rows st.mappings) k ≡ Some row → (row.place < length (blocks_of rec.segments)) × Safe (paths (rows_of rec)) (range_of rec row.place) s

-- The devices bear the books, and a next commit may be made by them.
pub record AreReady (b : Books) (s : State) : Type 0 where
  pub records : Committed b.rec.serial (rows_of b.rec) b.generation b.rec b.flex s
  pub tail : IsTail b.tail.slot b.tail.next records.log
  pub upto : b.has_committed ≡ true → (records.up ≡ 2 ^ 48) × (b.flex.version2 ≡ true)
  pub places : AreSafe b.rec b.flex s
  pub bare : IsBare b.rec.serial b.generation b.flex
  pub first : 1 ≤ b.generation
  pub last : b.generation ≤ 2 ^ 48

-- the rack has each of these devices, of this size
abbrev pub AreThere : Devices → Devices → Type 0
AreThere rack devs = (k : ℕ) (d : Path × ℕ) → slice_get devs k ≡ Some d → Has rack d.0 d.1

-- what the books and the cells of an image are, as devices keep it
abbrev pub stood : Books → Image → PoolState
stood b m = merged (state_of b.generation b.rec b.flex m)

-- and what they are after a commit of this record that maps no block
abbrev pub stood_next : Books → PoolRec → Image → PoolState
stood_next b rec m = merged (state_of (b.generation + 1) rec (same_flex b.flex) m)
