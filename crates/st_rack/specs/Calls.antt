-- Words of the calls of a rack.
use Rattle.std.specs.Prelude.{◌≡◌, ℕ, ◌+◌, ◌*◌, ◌%◌, ◌<◌, ◌≤◌, Bool, List, [], ◌∷◌, map, length, unwrap_or, Option, Some, None, if◌then◌else◌}
use Rattle.std.specs.Ordering.{nat_cmp}
use Rattle.std.specs.Cmp.Lexicographic.{slice_cmp}
use Rattle.std.specs.Str.{bytes_eq}
use Rattle.std.specs.List.{list_any}
use Rattle.std.specs.List.Sorted.{IsStrictlySortedBy}
use Rattle.st_limits.specs.declared.TheConstants.{MAX_RACK_DEVICES, MAX_DEVICE_SECTORS}
use Rattle.st_rack.specs.Device.{Path}

-- devices and their sectors, in order
abbrev pub Devices : Type 0
Devices = List (Path × ℕ)

abbrev pub path_in : Path × ℕ → Path
path_in d = d.0

-- their paths rise in byte order
abbrev pub Rises : Devices → Type 0
Rises devs = IsStrictlySortedBy (slice_cmp nat_cmp) (map path_in devs)

-- the sectors of a device, if it is there
abbrev pub sectors_of : Devices → Path → Option ℕ
sectors_of [] p = None
sectors_of (d ∷ ds) p = if bytes_eq d.0 p then Some d.1 else sectors_of ds p

-- the device is there, with so many sectors
abbrev pub Has : Devices → Path → ℕ → Type 0
Has devs p n = sectors_of devs p ≡ Some n

-- the sectors of a device that is there
abbrev pub size_in : Devices → Path → ℕ
size_in devs p = unwrap_or (sectors_of devs p) 0

-- what a run asks of its rack: not too many devices, and none with too many sectors
pub record IsFit (devs : Devices) : Type 0 where
  pub few : length devs ≤ MAX_RACK_DEVICES
  pub small : (p : Path) (n : ℕ) → Has devs p n → n ≤ MAX_DEVICE_SECTORS

-- the list names the device
abbrev pub names : List Path → Path → Bool
names list p = list_any (λ q. bytes_eq q p) list

-- whole sectors of a device of the rack, at least one
pub record IsWithin (devs : Devices) (dev : Path) (sector bytes : ℕ) : Type 0 where
  pub sectors : ℕ
  pub has : Has devs dev sectors
  pub whole : bytes % 512 ≡ 0
  pub some : 0 < bytes
  pub within : 512 * sector + bytes ≤ 512 * sectors
