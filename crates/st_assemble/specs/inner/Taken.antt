-- One serial more was taken in.
use Rattle.std.specs.Prelude.{ℕ, List, Some}
use Rattle.st_rack.specs.Device.{Image}
use Rattle.st_rack.specs.Calls.{Devices}
use Rattle.st_image.specs.Rack.{IsSerial}
use Rattle.st_looks.specs.declared.look.DevLook.{DevLook}
use Rattle.st_looks.specs.Serials.{IsNextOf}
use Rattle.st_assemble.specs.declared.taking.Found.{Found}
use Rattle.st_assemble.specs.inner.SoFar.{PoolsUpTo, GoneUpTo}

-- where the serial is the next one, what was found up to the last is then found up to it
abbrev pub Takes : Devices → Image → List DevLook → ℕ → Found → Found → Type 0
Takes devs c looks p old new = (last : ℕ) → IsSerial p → IsNextOf last looks (Some p) → PoolsUpTo devs c last old.pools → GoneUpTo devs c last old.gone → PoolsUpTo devs c p new.pools × GoneUpTo devs c p new.gone
