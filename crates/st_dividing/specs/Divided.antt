-- A rack that was divided into racks of pools and the rest.
use Rattle.std.specs.Prelude.{◌≡◌, ℕ, ◌+◌, ◌<◌, ◌≤◌, Bool, true, false, List, [], ◌∷◌, length, map, filter, is_some, Some, None, slice_get, if◌then◌else◌}
use Rattle.std.specs.List.{AllByRecursion, IsDistinct, list_any, sum_by}
use Rattle.std.specs.Str.{bytes_eq}
use Rattle.st_units.specs.declared.rows.DevRow.{DevRow}
use Rattle.st_rack.specs.Device.{Path, State}
use Rattle.st_rack.specs.Calls.{Devices, names, sectors_of}
use Rattle.st_judge.specs.declared.rows.FoundRow.{FoundRow}
use Rattle.st_parting.specs.Own.{IsPart}
use Rattle.st_pool.specs.Halts.{HaltedView}
use Rattle.st_pool.specs.View.{now}

abbrev pub path_of_row : DevRow → Path
path_of_row row = row.path

-- the paths of these rows that the rack has
abbrev pub present_of : Devices → List DevRow → List Path
present_of devs rows = filter (λ (p : Path). is_some (sectors_of devs p)) (map path_of_row rows)

-- one of these pools has the device
abbrev pub is_taken : {D : Type 0} → List (HaltedView D) → Path → Bool
is_taken parts p = list_any (λ h. names h.devs p) parts

-- no two of these pools have a device
abbrev pub AreApart : {D : Type 0} → List (HaltedView D) → Type 0
AreApart [] = Unit {0}
AreApart (h ∷ hs) = ((p : Path) → names h.devs p ≡ true → is_taken hs p ≡ false) × AreApart hs

-- what was found of the pool, on a rack of its devices
abbrev pub found_as : {D : Type 0} → Devices → FoundRow → D → HaltedView D
found_as devs row rack = record { serial = row.serial; devs = present_of devs row.devs; rack = rack; flight = None; faults = 0 }

-- the pools' rows name no device twice, and no two of them name one that is there
pub record AreRowsApart (devs : Devices) (rows : List FoundRow) : Type 0 where
  pub distinct : (k : ℕ) (row : FoundRow) → slice_get rows k ≡ Some row → IsDistinct bytes_eq (map path_of_row row.devs)
  pub apart : (j k : ℕ) (a b : FoundRow) → slice_get rows j ≡ Some a → slice_get rows k ≡ Some b → j < k → (p : Path) → names (present_of devs a.devs) p ≡ true → names (present_of devs b.devs) p ≡ false

module _ {D : Type 0} (devs : D → Devices) (moment : D → ℕ) (state_at : D → ℕ → State) (faults spare : D → ℕ) where
  -- Each pool is on a rack of its own of just the devices that it names, and the rest has the others; each device is what it was.
  pub record Divides (old rest : D) (parts : List (HaltedView D)) : Type 0 where
    pub rest_devs : (p : Path) → sectors_of (devs rest) p ≡ (if is_taken parts p then None else sectors_of (devs old) p)
    pub rest_same : (p : Path) → is_taken parts p ≡ false → now moment state_at rest p ≡ now moment state_at old p
    pub each : (k : ℕ) (h : HaltedView D) → slice_get parts k ≡ Some h → IsPart h.devs (devs old) (now moment state_at old) (devs h.rack) (now moment state_at h.rack)
    pub places : spare old + sum_by (λ (h : HaltedView D). length (devs h.rack)) parts ≤ spare rest
    pub count : length (devs rest) + sum_by (λ (h : HaltedView D). length (devs h.rack)) parts ≡ length (devs old)
    pub counted : faults rest ≡ faults old
    pub none_failed : AllByRecursion (λ (h : HaltedView D). faults h.rack ≡ 0) parts
    pub apart : AreApart parts

  -- The pools are those that the rows tell, in order.
  pub record AreTold (old : D) (rows : List FoundRow) (parts : List (HaltedView D)) : Type 0 where
    pub count : length parts ≡ length rows
    pub each : (k : ℕ) (row : FoundRow) (h : HaltedView D) → slice_get rows k ≡ Some row → slice_get parts k ≡ Some h → h ≡ found_as (devs old) row h.rack
