-- A pool's devices go on keeping its state.
use Rattle.std.proofs.Common.{◌≡◌, ℕ, Some}
use Rattle.std.specs.List.{slice_get}
use Rattle.st_model.specs.declared.state.PoolState.{PoolState}
use Rattle.st_rack.specs.Device.{Path, State, Settling}
use Rattle.st_rack.specs.Calls.{Devices, Has}
use Rattle.st_rack.specs.Moments.{OnDevice, AllCut}
use Rattle.st_image.specs.Left.{first_sectors}
use Rattle.st_image.specs.Bears.{paths}
use Rattle.st_image.specs.Kept.{in_use, look_for, Kept}
use Rattle.st_rack.proofs.Left.{left_on_same, left_on_sync, left_on_cut}

module _ (pool : PoolState) (devs : Devices) (s t : State) (kept : Kept pool devs s) where
  -- on a rack of which the pool's devices are what they were: where it was split or joined
  pub kept_same : ((k : ℕ) (d : Path) → slice_get (paths (in_use pool devs)) k ≡ Some d → t d ≡ s d) → Kept pool devs t
  kept_same same = record { all = λ c leaves. kept.all c (left_on_same (paths (in_use pool devs)) (look_for pool.mode pool.serial (first_sectors (in_use pool devs))) s t c same leaves) }

  pub kept_sync : (dev : Path) → OnDevice dev Settling s t → Kept pool devs t
  kept_sync dev step = record { all = λ c leaves. kept.all c (left_on_sync (paths (in_use pool devs)) (look_for pool.mode pool.serial (first_sectors (in_use pool devs))) s t c dev step leaves) }

  pub kept_cut : (rack : Devices) → ((k : ℕ) (d : Path) → slice_get (paths (in_use pool devs)) k ≡ Some d → (n : ℕ) × Has rack d n) → AllCut rack s t → Kept pool devs t
  kept_cut rack there cut = record { all = λ c leaves. kept.all c (left_on_cut (paths (in_use pool devs)) (look_for pool.mode pool.serial (first_sectors (in_use pool devs))) s t c rack there cut leaves) }
