-- What a start finds on the devices of a pool.
use Rattle.std.specs.Prelude.{◌≡◌, ℕ, ◌+◌, ◌%◌, ◌<◌, true, List, map, Some, None, slice_get}
use Rattle.st_poolrec.specs.declared.record.PoolRec.{PoolRec}
use Rattle.st_flexlog.specs.declared.state.FlexState.{FlexState}
use Rattle.st_flexat.specs.FlexAt.{FlexAt}
use Rattle.st_deltalog.specs.Log.{serial_in}
use Rattle.st_rack.specs.Story.{Content}
use Rattle.st_rack.specs.Device.{Path, Image}
use Rattle.st_rack.specs.Calls.{Devices, size_in}
use Rattle.st_image.specs.Looks.{flex_area, has_header, slot_on}
use Rattle.st_image.specs.Bears.{Bears, first_of, newest_on, newest_over}
use Rattle.st_image.specs.Kept.{NoneOrGone}
use Rattle.st_books.specs.Spelled.{IsBare}
use Rattle.st_books.specs.Ready.{rows_of}
use Rattle.st_judge.specs.Verdicts.{IsHere}
use Rattle.st_starting.specs.declared.outcome.Start.{Start}
use Rattle.st_starting.specs.declared.outcome.Start.TheVariants.{Ready, Nothing, Gone, Broken}

-- the devices of these paths, with the sectors that the rack gives them
abbrev pub sized : Devices → List Path → Devices
sized rack list = map (λ (path : Path). (path, size_in rack path)) list

-- The newest record on the rack is of a known pool, whose rows are just these devices; its log stands on the first, in the record's
-- version, and says that the pool has no filesystem.
pub record AreBorne (p : ℕ) (rack : Devices) (list : List Path) (c : Image) (g : ℕ) (rec : PoolRec) (st : FlexState) : Type 0 where
  pub here : IsHere p rack c g rec
  pub on : rows_of rec ≡ sized rack list
  pub flexed : FlexAt flex_area p g (c (first_of rec)) st
  pub version : st.version2 ≡ rec.version2
  pub bare : IsBare p g st

-- The newest record on the rack says that the pool is gone; its rows are just these devices. Each device of the rack bears its header, and
-- the slot that isn't the newest record's holds no other pool's.
pub record HasEnded (p : ℕ) (rack : Devices) (list : List Path) (c : Image) (g : ℕ) (rec : PoolRec) : Type 0 where
  pub bears : Bears p rack g rec c
  pub gone : rec.gone ≡ true
  pub on : rows_of rec ≡ sized rack list
  pub headed : (k : ℕ) (d : Path × ℕ) → slice_get rack k ≡ Some d → has_header p d.1 (c d.0) ≡ true
  pub own : (k : ℕ) (d : Path × ℕ) → slice_get rack k ≡ Some d → (x : ℕ × List ℕ) → slot_on d.1 ((g + 1) % 2) (c d.0) ≡ Some x → serial_in x.1 ≡ p

-- Read alone no pool stands on a device of so many sectors with this content, and each valid slot for records is of the pool of this serial.
pub record TellsOfNone (p sectors : ℕ) (f : Content) : Type 0 where
  pub alone : (q : ℕ) → NoneOrGone (newest_on q sectors f)
  pub slots : (place : ℕ) → place < 2 → (x : ℕ × List ℕ) → slot_on sectors place f ≡ Some x → serial_in x.1 ≡ p

-- none of the three
pub record IsNeither (p : ℕ) (rack : Devices) (list : List Path) (c : Image) : Type 0 where
  pub some : newest_over p rack c ≡ None → ⊥
  pub not_borne : (g : ℕ) (rec : PoolRec) (st : FlexState) → AreBorne p rack list c g rec st → ⊥
  pub not_ended : (g : ℕ) (rec : PoolRec) → HasEnded p rack list c g rec → ⊥

-- what is found, by what reads give of the rack
abbrev pub IsStart : ℕ → Devices → List Path → Image → Start → Type 0
IsStart p rack list c (Ready b) = AreBorne p rack list c b.generation b.rec b.flex
IsStart p rack list c Nothing = newest_over p rack c ≡ None
IsStart p rack list c (Gone g) = (rec : PoolRec) × HasEnded p rack list c g rec
IsStart p rack list c Broken = IsNeither p rack list c
