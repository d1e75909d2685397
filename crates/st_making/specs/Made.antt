-- What devices are before a pool is made of them, and what a crash leaves meanwhile.
use Rattle.std.specs.Prelude.{◌≡◌, ◌⊎◌, ℕ, ◌*◌, ◌<◌, List, Option, Some, None, slice_get}
use Rattle.st_header.specs.Header.{IsCopy}
use Rattle.st_poolrec.specs.declared.record.PoolRec.{PoolRec}
use Rattle.st_model.specs.declared.state.PoolState.{PoolState}
use Rattle.st_model.specs.steps.CreatePool.{new_pool}
use Rattle.st_slots.specs.Reading.{read_slot}
use Rattle.st_rack.specs.Story.{Began}
use Rattle.st_rack.specs.Device.{Path, DevState, State, cells}
use Rattle.st_rack.specs.Calls.{Devices}
use Rattle.st_rack.specs.Readers.{SureIn}
use Rattle.st_deltalog.specs.Bearing.{IsSettled}
use Rattle.st_commit.specs.Standing.{keep}
use Rattle.st_commit.specs.Ready.{IsOf}
use Rattle.st_image.specs.Looks.{pool_area}
use Rattle.st_image.specs.Bears.{newest_on}
use Rattle.st_image.specs.Kept.{NoneOrGone}
use Rattle.st_image.specs.Survivors.{recorded}

-- A device of so many sectors is free for the pool of this serial: nothing is pending, no slot is of that pool, and read alone the
-- device stands for no pool.
pub record IsFree (p sectors : ℕ) (s : DevState) : Type 0 where
  pub settled : IsSettled s
  pub no_slot : (r : ℕ) → r < 2 → keep p (read_slot pool_area r s.holds) ≡ None
  pub alone : (q : ℕ) → NoneOrGone (newest_on q sectors s.holds)

-- one on which nothing was written
abbrev pub blank : DevState
blank = record { holds = λ i. 0; story = Began (λ i. 0) }

abbrev pub AreFree : ℕ → Devices → State → Type 0
AreFree p devs s = (k : ℕ) (d : Path × ℕ) → slice_get devs k ≡ Some d → IsFree p d.1 (s d.0)

-- what devices keep of the pool that the model makes for this record
abbrev pub made : PoolRec → PoolState
made rec = recorded (new_pool rec.serial rec.name rec.devs)

-- no pool yet, or this one
abbrev pub IsMade : PoolState → Option PoolState → Type 0
IsMade pool found = (found ≡ None) ⊎ (found ≡ Some pool)

-- The device bears both copies of the pool's header, at sectors 1 and 9, and no crash takes them away.
pub record BearsHeader (p sectors : ℕ) (s : DevState) : Type 0 where
  pub first : IsCopy sectors (cells s.holds (512 * 1) 512) p
  pub second : IsCopy sectors (cells s.holds (512 * 9) 512) p
  pub sure : SureIn 0 8192 s

abbrev pub BearHeaders : ℕ → Devices → State → Type 0
BearHeaders p devs s = (k : ℕ) (d : Path × ℕ) → slice_get devs k ≡ Some d → BearsHeader p d.1 (s d.0)

-- a device that isn't of the list stays as it was
abbrev pub Stays : List Path → State → State → Type 0
Stays devs a s = (d : Path) → (IsOf devs d → ⊥) → s d ≡ a d
