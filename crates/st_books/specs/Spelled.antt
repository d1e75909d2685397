-- The records of the next commit, and their spellings.
use Rattle.std.specs.Prelude.{◌≡◌, ℕ, ◌+◌, ◌*◌, ◌≤◌, true, [], length, None}
use Rattle.st_limits.specs.declared.TheConstants.{MAX_FILESYSTEMS}
use Rattle.st_fields.specs.Slot.{padded}
use Rattle.st_recrows.specs.Rows.{Spells}
use Rattle.st_poolrec.specs.declared.record.PoolRec.{PoolRec}
use Rattle.st_poolrec.specs.Record as pools
use Rattle.st_flexrec.specs.declared.record.FlexRec.{FlexRec}
use Rattle.st_flexrec.specs.Record.{record_text}
use Rattle.st_flexrec.specs.Conditions.{IsFlexRec}
use Rattle.st_flexlog.specs.declared.delta.Delta.{Delta}
use Rattle.st_flexlog.specs.declared.state.FlexState.{FlexState}
use Rattle.st_flexlog.specs.Delta.{DeltaFits, delta_text}
use Rattle.st_deltalog.specs.declared.area.Tail.{Tail}
use Rattle.st_deltalog.specs.Log.{serial_in}
use Rattle.st_books.specs.declared.books.Books.{Books}
use Rattle.st_books.specs.declared.books.Next.{Next}

-- A log at this generation says that the pool has no filesystem.
pub record IsBare (serial g : ℕ) (st : FlexState) : Type 0 where
  pub own : st.serial ≡ serial
  pub filesystems : st.filesystems ≡ []
  pub mappings : st.mappings ≡ []
  pub cell_from : 1 ≤ st.next_cell
  pub cell_until : st.next_cell ≤ 2 * g
  pub serial_from : 1 ≤ st.next_fs
  pub serial_until : st.next_fs ≤ MAX_FILESYSTEMS * g

-- what a log says after a commit that maps no block: the same, in version 2
abbrev pub same_flex : FlexState → FlexState
same_flex st = record st { version2 = true }

-- the record of a pool without filesystems
abbrev pub bare_record : FlexState → FlexRec
bare_record st = record { version2 = true; serial = st.serial; next_fs = st.next_fs; next_cell = st.next_cell; filesystems = []; mappings = []; cells = [] }

-- the delta of a commit that maps no block
abbrev pub no_rows : FlexState → Delta
no_rows st = record { serial = st.serial; next_cell = st.next_cell; first = None; second = None }

-- a record of the same pool on the same devices, with the same blocks, in version 2
pub record IsLater (b : Books) (rec : PoolRec) : Type 0 where
  pub serial : rec.serial ≡ b.rec.serial
  pub devs : rec.devs ≡ b.rec.devs
  pub segments : rec.segments ≡ b.rec.segments
  pub version : rec.version2 ≡ true

-- The spellings of the next commit: of its record, of a delta and of a checkpoint, each with a buffer of the length that writing it takes.
pub record IsNext (b : Books) (n : Next) : Type 0 where
  pub is : pools.IsPoolRec n.rec
  pub later : IsLater b n.rec
  pub text : n.rec_text ≡ pools.record_text n.rec
  pub delta : Spells DeltaFits delta_text n.delta (no_rows b.flex)
  pub body : Spells (IsFlexRec (b.generation + 1)) record_text n.body (bare_record b.flex)
  pub text_serial : serial_in n.rec_text ≡ b.rec.serial
  pub body_serial : serial_in n.body ≡ b.rec.serial
  pub text_fits : 64 + length n.rec_text ≤ 32768
  pub delta_fits : 64 + length n.delta ≤ 512
  pub body_fits : 64 + length n.body ≤ 851968
  pub text_work : length n.rec_work.items ≡ padded (64 + length n.rec_text)
  pub delta_work : length n.delta_work.items ≡ 512
  pub body_work : length n.body_work.items ≡ padded (64 + length n.body)

-- the books after the commit
abbrev pub booked : Books → Next → Tail → Books
booked b n tail = record { rec = n.rec; flex = same_flex b.flex; generation = b.generation + 1; tail = tail; has_committed = true }
