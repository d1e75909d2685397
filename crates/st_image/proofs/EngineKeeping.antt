-- A rack's devices go on keeping the engine's state.
use Rattle.std.proofs.Common.{◌≡◌, inl, inr, ℕ, List, [], ◌∷◌, Some, sym, subst}
use Rattle.std.specs.List.{AllByRecursion, slice_get}
use Rattle.st_model.specs.declared.state.EngineState.{EngineState}
use Rattle.st_model.specs.declared.state.PoolState.{PoolState}
use Rattle.st_rack.specs.Story.{Content}
use Rattle.st_rack.specs.Device.{Path, DevState, State, Settling}
use Rattle.st_rack.specs.Calls.{Devices, Has}
use Rattle.st_rack.specs.Left.{LeavesFairly}
use Rattle.st_rack.specs.Moments.{OnDevice, AllCut}
use Rattle.st_rack.proofs.Left.{left_settled, left_cut}
use Rattle.st_rack.proofs.Look.{same_or_other}
use Rattle.st_image.specs.Looks.{look_of}
use Rattle.st_image.specs.Bears.{paths}
use Rattle.st_image.specs.Kept.{in_use, Kept}
use Rattle.st_image.specs.EngineKept.{EngineKept}
use Rattle.st_image.proofs.Keeping.{kept_sync, kept_cut}

each_pool : (P Q : PoolState → Type 0) → ((pool : PoolState) → P pool → Q pool) → (pools : List PoolState) → AllByRecursion P pools → AllByRecursion Q pools
each_pool P Q goes [] all = tt
each_pool P Q goes (pool ∷ pools) all = (goes pool all.0, each_pool P Q goes pools all.1)

module _ (e : EngineState) (devs : Devices) (s t : State) (kept : EngineKept e devs s) where
  pub engine_sync : (dev : Path) → OnDevice dev Settling s t → EngineKept e devs t
  engine_sync dev step = record {
    devices = kept.devices;
    pools = each_pool (λ pool. Kept pool devs s) (λ pool. Kept pool devs t) (λ pool one. kept_sync pool devs s t one dev step) e.pools kept.pools;
    free = λ d n has unused f leaves. kept.free d n has unused f (before d f leaves);
    silent = λ d n has unused f leaves. kept.silent d n has unused f (before d f leaves);
  }
    where
      before : (d : Path) (f : Content) → LeavesFairly (look_of 0 0 1) (t d) f → LeavesFairly (look_of 0 0 1) (s d) f
      before d f leaves = elim (same_or_other d dev) [
        | inl is ↦ subst (λ (q : Path). LeavesFairly (look_of 0 0 1) (s q) f) (sym is) (left_settled (look_of 0 0 1) (s dev) (t dev) f step.here (subst (λ (q : Path). LeavesFairly (look_of 0 0 1) (t q) f) is leaves))
        | inr ne ↦ subst (λ (x : DevState). LeavesFairly (look_of 0 0 1) x f) (step.others d ne) leaves
      ]

  -- all that a pool uses is in the rack
  pub engine_cut : AllByRecursion (λ (pool : PoolState). (k : ℕ) (d : Path) → slice_get (paths (in_use pool devs)) k ≡ Some d → (n : ℕ) × Has devs d n) e.pools → AllCut devs s t → EngineKept e devs t
  engine_cut there cut = record {
    devices = kept.devices;
    pools = both e.pools kept.pools there;
    free = λ d n has unused f leaves. kept.free d n has unused f (left_cut (look_of 0 0 1) (s d) (t d) f (cut.here d n has) leaves);
    silent = λ d n has unused f leaves. kept.silent d n has unused f (left_cut (look_of 0 0 1) (s d) (t d) f (cut.here d n has) leaves);
  }
    where
      both : (pools : List PoolState) → AllByRecursion (λ (pool : PoolState). Kept pool devs s) pools
          → AllByRecursion (λ (pool : PoolState). (k : ℕ) (d : Path) → slice_get (paths (in_use pool devs)) k ≡ Some d → (n : ℕ) × Has devs d n) pools → AllByRecursion (λ (pool : PoolState). Kept pool devs t) pools
      both [] all on = tt
      both (pool ∷ pools) all on = (kept_cut pool devs s t all.0 devs on.0 cut, both pools all.1 on.1)
