-- the devices that the program makes
use Rattle.std.specs.Prelude.{ℕ, ◌≡◌, Bool, [], ◌∷◌, codes}
use Rattle.std.specs.List.{AllByRecursion, list_any}
use Rattle.std.specs.Str.{bytes_eq}
use Rattle.st_rack.specs.Calls.{Devices}
use Rattle.st_rack.specs.Device.{Path}
use Rattle.st_memrack.specs.Blank.{AreDistinct}

abbrev pub has_device : Path → Devices → Bool
has_device path = list_any (λ (d : Path × ℕ). bytes_eq d.0 path)

-- distinct devices, each of 65,536 sectors
pub record AreOurs (devs : Devices) : Type 0 where
  pub distinct : AreDistinct devs
  pub sizes : AllByRecursion (λ (d : Path × ℕ). d.1 ≡ 65536) devs

-- a device of 65,536 sectors
abbrev pub device : Path → Path × ℕ
device path = (path, 65536)

-- all that are made, in byte order of their paths
abbrev pub the_devices : Devices
the_devices =
    device (codes "/dev/sim0") ∷ device (codes "/dev/sim1") ∷ device (codes "/dev/sim10") ∷ device (codes "/dev/sim11") ∷ device (codes "/dev/sim2") ∷ device (codes "/dev/sim3") ∷ device (codes "/dev/sim4") ∷ device (codes "/dev/sim5") ∷ device (codes "/dev/sim6")
    ∷ device (codes "/dev/sim7") ∷ device (codes "/dev/sim8") ∷ device (codes "/dev/sim9") ∷ []
