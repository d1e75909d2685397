-- The first records of a pool, and their spellings.
use Rattle.std.specs.Prelude.{◌≡◌, ℕ, ◌+◌, ◌≤◌, ◌^◌, true, false, List, [], ◌∷◌, length}
use Rattle.std.specs.List.{AllByRecursion}
use Rattle.st_limits.specs.declared.TheConstants.{DEFAULT_FS_LIMIT, FIRST_ALLOCATION, FLEX_BLOCKS, MAX_POOL_DEVICES}
use Rattle.st_limits.specs.Sums.{IsDeviceSize}
use Rattle.st_fields.specs.Slot.{padded}
use Rattle.st_units.specs.declared.rows.DevRow.{DevRow}
use Rattle.st_units.specs.declared.rows.Segment.{Segment}
use Rattle.st_units.specs.declared.rows.Tier.TheVariants.{DataTier}
use Rattle.st_recrows.specs.Rows.{Spells}
use Rattle.st_poolrec.specs.declared.record.PoolRec.{PoolRec}
use Rattle.st_poolrec.specs.Conditions.{have_own_paths}
use Rattle.st_poolrec.specs.Record as pools
use Rattle.st_flexrec.specs.declared.record.FlexRec.{FlexRec}
use Rattle.st_flexrec.specs.Record.{record_text}
use Rattle.st_flexrec.specs.Conditions.{IsFlexRec}
use Rattle.st_flexlog.specs.declared.state.FlexState.{FlexState}
use Rattle.st_deltalog.specs.declared.area.Tail.{Tail}
use Rattle.st_books.specs.declared.books.Books.{Books}
use Rattle.st_making.specs.declared.first.First.{First}

-- Rows that a pool may be made of: data devices, as many as a pool may have, each of a fit size and with a path of its own.
pub record AreDataRows (rows : List DevRow) : Type 0 where
  pub some : 1 ≤ length rows
  pub few : length rows ≤ MAX_POOL_DEVICES
  pub data_rows : AllByRecursion (λ (row : DevRow). row.tier ≡ DataTier) rows
  pub sizes : AllByRecursion (λ (row : DevRow). IsDeviceSize row.sectors) rows
  pub own : have_own_paths rows ≡ true

-- the first blocks of the first device behind the flex record
abbrev pub first_segment : Segment
first_segment = record { dev = 0; first = FLEX_BLOCKS; blocks = FIRST_ALLOCATION }

abbrev pub first_record : ℕ → List ℕ → List DevRow → PoolRec
first_record serial name devs = record {
  serial = serial;
  gone = false;
  overprovisioning = true;
  version2 = true;
  fs_limit = DEFAULT_FS_LIMIT;
  name = name;
  devs = devs;
  segments = first_segment ∷ [];
}

-- its log says that there is no filesystem
abbrev pub first_flex : ℕ → FlexState
first_flex serial = record { version2 = true; serial = serial; next_fs = 1; next_cell = 1; filesystems = []; mappings = [] }

abbrev pub flex_record : ℕ → FlexRec
flex_record serial = record { version2 = true; serial = serial; next_fs = 1; next_cell = 1; filesystems = []; mappings = []; cells = [] }

-- the checkpoint takes the first sector of slot 1
abbrev pub first_tail : Tail
first_tail = record { slot = 1; next = 1 }

abbrev pub first_books : ℕ → List ℕ → List DevRow → Books
first_books serial name devs = record { rec = first_record serial name devs; flex = first_flex serial; generation = 1; tail = first_tail; has_committed = false }

-- These are the books of a new pool.
pub record AreNew (b : Books) : Type 0 where
  pub are : b ≡ first_books b.rec.serial b.rec.name b.rec.devs
  pub from : 1 ≤ b.rec.serial
  pub until : b.rec.serial ≤ 2 ^ 48
  pub rows : AreDataRows b.rec.devs

-- The spellings of its record and of its first checkpoint, each with a buffer of the length that writing it takes.
pub record IsFirst (b : Books) (n : First) : Type 0 where
  pub is : pools.IsPoolRec b.rec
  pub text : n.rec_text ≡ pools.record_text b.rec
  pub body : Spells (IsFlexRec 1) record_text n.body (flex_record b.rec.serial)
  pub text_work : length n.rec_work.items ≡ padded (64 + length n.rec_text)
  pub body_work : length n.body_work.items ≡ padded (64 + length n.body)
