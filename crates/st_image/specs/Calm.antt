-- What is known of a started pool's devices between its calls.
use Rattle.std.specs.Prelude.{◌≡◌, ◌≢◌, ℕ, ◌%◌, ◌<◌, ◌≤◌, false, List, length, Some, slice_get}
use Rattle.st_poolrec.specs.declared.record.PoolRec.{PoolRec}
use Rattle.st_poolrec.specs.Record as pools
use Rattle.st_flexlog.specs.declared.state.FlexState.{FlexState}
use Rattle.st_flexrec.specs.declared.rows.CellRow.{CellRow}
use Rattle.st_seg.specs.Blocks.{blocks_of}
use Rattle.st_slots.specs.Reading.{read_slot}
use Rattle.st_rack.specs.Device.{Path, State, Image}
use Rattle.st_rack.specs.Calls.{Devices}
use Rattle.st_image.specs.Left.{LeftOf}
use Rattle.st_image.specs.Looks.{pool_area, is_first, records_end}
use Rattle.st_image.specs.Bears.{BearsWhole, newest_on, paths}
use Rattle.st_image.specs.Stands.{Range, range_of, cell_rows}
use Rattle.st_image.specs.Frame.{SureOn}
use Rattle.st_image.specs.Kept.{NoneOrGone}

-- each device, read alone, stands for no other pool
abbrev pub ForNoOther : ℕ → Devices → Image → Type 0
ForNoOther p devs c = (q k : ℕ) (d : Path × ℕ) → q ≢ p → slice_get devs k ≡ Some d → NoneOrGone (newest_on q d.1 (c d.0))

-- Every device of the pool bears the record.
pub record Shows (p : ℕ) (devs : Devices) (g : ℕ) (rec : PoolRec) (st : FlexState) (c : Image) : Type 0 where
  pub bears : BearsWhole p devs g rec st c
  pub borne : (k : ℕ) (d : Path × ℕ) → slice_get devs k ≡ Some d → read_slot pool_area (g % 2) (c d.0) ≡ Some (g, pools.record_text rec)
  pub others : ForNoOther p devs c

-- a device of a list
pub record IsOf (devs : List Path) (d : Path) : Type 0 where
  pub index : ℕ
  pub is : slice_get devs index ≡ Some d

-- A range of a device of the pool behind its records, whose bytes are sure.
pub record Safe (devs : List Path) (q : Range) (s : State) : Type 0 where
  pub on : IsOf devs q.0
  pub behind : (k : ℕ) → slice_get devs k ≡ Some q.0 → records_end (is_first k) ≤ q.1
  pub sure : SureOn q s

-- A pool that is up: each image that a crash now may leave shows its records, and its cells are safe.
pub record Calm (p : ℕ) (devs : Devices) (g : ℕ) (rec : PoolRec) (st : FlexState) (s : State) : Type 0 where
  pub shows : (c : Image) → LeftOf p devs s c → Shows p devs g rec st c
  pub alive : rec.gone ≡ false
  pub places : (k : ℕ) (row : CellRow) → slice_get (cell_rows st.mappings) k ≡ Some row → (row.place < length (blocks_of rec.segments)) × Safe (paths devs) (range_of rec row.place) s
