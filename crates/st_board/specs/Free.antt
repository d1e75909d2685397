-- The devices that no pool uses.
use Rattle.std.specs.Prelude.{◌≡◌, ◌⊎◌, ℕ, ◌==◌, ◌<◌, ◌≤◌, true, Option, None, option_map, if◌then◌else◌}
use Rattle.std.specs.List.{list_any}
use Rattle.st_limits.specs.declared.TheConstants.{MAX_POOL_SERIAL}
use Rattle.st_units.specs.declared.rows.DevRow.{DevRow}
use Rattle.st_model.specs.declared.state.KnownPool.{KnownPool}
use Rattle.st_model.specs.declared.state.TableState.{TableState}
use Rattle.st_model.specs.Look.{row_of}
use Rattle.st_model.specs.Parts.{is_used}
use Rattle.st_rack.specs.Device.{Path, DevState, State}
use Rattle.st_rack.specs.Calls.{Devices, Has, sectors_of}
use Rattle.st_deltalog.specs.Bearing.{IsSettled}
use Rattle.st_commit.specs.Standing.{keep}
use Rattle.st_image.specs.Looks.{slot_on}
use Rattle.st_image.specs.Bears.{newest_on}
use Rattle.st_image.specs.Kept.{NoneOrGone}

-- the sectors of a device that no known pool uses, if the rack has it
abbrev pub free_sectors : TableState → Path → Option ℕ
free_sectors t p = if list_any (is_used p) t.names then None else option_map (λ (row : DevRow). row.sectors) (row_of p t.devices)

-- these devices are just the free ones
abbrev pub AreTheFree : TableState → Devices → Type 0
AreTheFree t devs = (p : Path) → sectors_of devs p ≡ free_sectors t p

-- the serial of a pool that is known, or that may come
abbrev pub IsClaimed : TableState → ℕ → Type 0
IsClaimed t q = (list_any (λ (pool : KnownPool). pool.serial == q) t.names ≡ true) ⊎ ((t.next ≤ q) × (q ≤ MAX_POOL_SERIAL))

-- A free device of so many sectors: nothing is pending, read alone it stands for no pool, and none of its slots for records is of a pool
-- that is known or that may come.
pub record IsFreeFor (t : TableState) (sectors : ℕ) (s : DevState) : Type 0 where
  pub settled : IsSettled s
  pub alone : (q : ℕ) → NoneOrGone (newest_on q sectors s.holds)
  pub silent : (place : ℕ) → place < 2 → (q : ℕ) → IsClaimed t q → keep q (slot_on sectors place s.holds) ≡ None

-- each device of the rack of free devices is so
abbrev pub AreFreeFor : TableState → Devices → State → Type 0
AreFreeFor t devs s = (p : Path) (n : ℕ) → Has devs p n → IsFreeFor t n (s p)
