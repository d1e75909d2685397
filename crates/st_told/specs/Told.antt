-- When books say what others say, and when they are those of a new pool.
use Rattle.std.specs.Prelude.{◌≡◌, ℕ, true, List, [], ◌∷◌}
use Rattle.std.specs.List.{AllByRecursion}
use Rattle.st_limits.specs.declared.TheConstants.{DEFAULT_FS_LIMIT, FIRST_ALLOCATION, FLEX_BLOCKS}
use Rattle.st_units.specs.declared.rows.DevRow.{DevRow}
use Rattle.st_units.specs.declared.rows.Segment.{Segment}
use Rattle.st_units.specs.declared.rows.Tier.TheVariants.{DataTier}
use Rattle.st_poolrec.specs.declared.record.PoolRec.{PoolRec}
use Rattle.st_flexlog.specs.declared.state.FlexState.{FlexState}
use Rattle.st_books.specs.declared.books.Books.{Books}

-- the record says what another says, but with this name
pub record IsLike (name : List ℕ) (other rec : PoolRec) : Type 0 where
  pub serial : rec.serial ≡ other.serial
  pub overprovisioning : rec.overprovisioning ≡ other.overprovisioning
  pub fs_limit : rec.fs_limit ≡ other.fs_limit
  pub named : rec.name ≡ name
  pub devs : rec.devs ≡ other.devs
  pub segments : rec.segments ≡ other.segments

-- the log gives the same next numbers
pub record GoesOn (other flex : FlexState) : Type 0 where
  pub next_cell : flex.next_cell ≡ other.next_cell
  pub next_fs : flex.next_fs ≡ other.next_fs

-- The books say what others say, but with this name and generation.
pub record AreLike (name : List ℕ) (g : ℕ) (other b : Books) : Type 0 where
  pub generation : b.generation ≡ g
  pub rec : IsLike name other.rec b.rec
  pub flex : GoesOn other.flex b.flex

-- the first blocks of the first device behind the flex record
abbrev pub first_segment : Segment
first_segment = record { dev = 0; first = FLEX_BLOCKS; blocks = FIRST_ALLOCATION }

-- The books are those of a new pool of this name.
pub record AreFirst (name : List ℕ) (b : Books) : Type 0 where
  pub generation : b.generation ≡ 1
  pub overprovisioning : b.rec.overprovisioning ≡ true
  pub fs_limit : b.rec.fs_limit ≡ DEFAULT_FS_LIMIT
  pub named : b.rec.name ≡ name
  pub rows : AllByRecursion (λ (row : DevRow). row.tier ≡ DataTier) b.rec.devs
  pub segments : b.rec.segments ≡ first_segment ∷ []
  pub next_cell : b.flex.next_cell ≡ 1
  pub next_fs : b.flex.next_fs ≡ 1
