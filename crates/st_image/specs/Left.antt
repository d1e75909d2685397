-- What a crash may leave on the devices of one pool.
use Rattle.std.specs.Prelude.{ℕ, [], ◌∷◌}
use Rattle.st_rack.specs.Device.{State, Image}
use Rattle.st_rack.specs.Calls.{Devices}
use Rattle.st_rack.specs.Left.{LeftOn}
use Rattle.st_image.specs.Looks.{look_of}
use Rattle.st_image.specs.Bears.{paths}

abbrev pub first_sectors : Devices → ℕ
first_sectors [] = 0
first_sectors (d ∷ ds) = d.1

-- A crash may leave this on the pool's devices, and no torn text in it is valid by chance where the pool looks. Nothing is said of
-- other devices.
abbrev pub LeftOf : ℕ → Devices → State → Image → Type 0
LeftOf p devs s c = LeftOn (paths devs) (look_of p (first_sectors devs)) s c
