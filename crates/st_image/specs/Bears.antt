-- Which records the devices of one pool bear.
use Rattle.std.specs.Prelude.{◌≡◌, ◌≢◌, ℕ, ◌<◌, true, List, [], ◌∷◌, map, Option, Some, None, slice_get, if◌then◌else◌}
use Rattle.std.specs.List.{AllByRecursion}
use Rattle.st_units.specs.declared.rows.DevRow.{DevRow}
use Rattle.st_fields.specs.Slot.{Found}
use Rattle.st_poolrec.specs.declared.record.PoolRec.{PoolRec}
use Rattle.st_poolrec.specs.Record as pools
use Rattle.st_flexlog.specs.declared.state.FlexState.{FlexState}
use Rattle.st_flexat.specs.FlexAt.{FlexAt}
use Rattle.st_commit.specs.Standing.{keep}
use Rattle.st_rack.specs.Story.{Content}
use Rattle.st_rack.specs.Device.{Path, Image}
use Rattle.st_slots.specs.Reading.{read_slot, newer}
use Rattle.st_image.specs.Looks.{pool_area, flex_area, slot_on, has_header}

-- a candidate: the slot in a place, on a device with a header for this pool
abbrev pub candidate : ℕ → ℕ → ℕ → Content → Found
candidate p sectors r f = if has_header p sectors f then keep p (read_slot pool_area r f) else None

abbrev pub newest_on : ℕ → ℕ → Content → Found
newest_on p sectors f = newer (candidate p sectors 0 f) (candidate p sectors 1 f)

-- the newest over devices with their sectors, on a tie the first such
abbrev pub newest_over : ℕ → List (Path × ℕ) → Image → Found
newest_over p [] c = None
newest_over p (d ∷ ds) c = newer (newest_on p d.1 (c d.0)) (newest_over p ds c)

abbrev pub path_of : Path × ℕ → Path
path_of d = d.0

abbrev pub paths : List (Path × ℕ) → List Path
paths devs = map path_of devs

-- The body is the spelling of this record.
pub record SpellsPool (body : List ℕ) (rec : PoolRec) : Type 0 where
  pub is : pools.IsPoolRec rec
  pub spelled : body ≡ pools.record_text rec

-- any candidate of the pool on these devices
pub record Candidate (p : ℕ) (devs : List (Path × ℕ)) (c : Image) (x : ℕ × List ℕ) : Type 0 where
  pub index : ℕ
  pub dev : Path × ℕ
  pub of : slice_get devs index ≡ Some dev
  pub place : ℕ
  pub of_two : place < 2
  pub found : candidate p dev.1 place (c dev.0) ≡ Some x

-- two candidates of one generation have one body, and each is a record
pub record AreRecords (p : ℕ) (devs : List (Path × ℕ)) (c : Image) : Type 0 where
  pub one : (x y : ℕ × List ℕ) → Candidate p devs c x → Candidate p devs c y → x.0 ≡ y.0 → x.1 ≡ y.1
  pub each : (x : ℕ × List ℕ) → Candidate p devs c x → (rec : PoolRec) × SpellsPool x.1 rec

-- the device has the sectors of this row, and a header for the pool
pub record HasRow (p : ℕ) (devs : List (Path × ℕ)) (c : Image) (row : DevRow) : Type 0 where
  pub index : ℕ
  pub of : slice_get devs index ≡ Some (row.path, row.sectors)
  pub header : has_header p row.sectors (c row.path) ≡ true

-- no slot of the pool stands on a device that is in no row; the device's header doesn't matter
abbrev pub OnRowsAlone : ℕ → List (Path × ℕ) → List DevRow → Image → Type 0
OnRowsAlone p devs rows c = (k : ℕ) (d : Path × ℕ) → slice_get devs k ≡ Some d → ((r : DevRow) (j : ℕ) → slice_get rows j ≡ Some r → r.path ≢ d.0)
    → (place : ℕ) → place < 2 → keep p (slot_on d.1 place (c d.0)) ≡ None

-- The devices bear this record of generation g as the newest, and no rule is broken.
pub record Bears (p : ℕ) (devs : List (Path × ℕ)) (g : ℕ) (rec : PoolRec) (c : Image) : Type 0 where
  pub newest : newest_over p devs c ≡ Some (g, pools.record_text rec)
  pub is : pools.IsPoolRec rec
  pub serial : rec.serial ≡ p
  pub sound : AreRecords p devs c
  pub alone : OnRowsAlone p devs rec.devs c

abbrev pub path_in : Option DevRow → Path
path_in None = []
path_in (Some row) = row.path

-- the first device of a record
abbrev pub first_of : PoolRec → Path
first_of rec = path_in (slice_get rec.devs 0)

-- They bear it, each device of its rows is there, and the log of this generation stands on the first, in the record's version.
pub record BearsWhole (p : ℕ) (devs : List (Path × ℕ)) (g : ℕ) (rec : PoolRec) (st : FlexState) (c : Image) : Type 0 where
  pub record_of : Bears p devs g rec c
  pub rows : AllByRecursion (HasRow p devs c) rec.devs
  pub flexed : FlexAt flex_area p g (c (first_of rec)) st
  pub version : st.version2 ≡ rec.version2
