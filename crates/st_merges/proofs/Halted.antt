-- a pool that is halted: its merge where it was up, else in the mode that its own goes over to
use Rattle.std.proofs.Common.{◌≡◌, true, false, refl, sym, ap}
use Rattle.st_model.specs.declared.state.PoolMode.{PoolMode}
use Rattle.st_model.specs.declared.state.PoolMode.TheVariants.{Up, Down, Stopped, Unsettled, Incomplete}
use Rattle.st_model.specs.declared.state.PoolState.{PoolState}
use Rattle.st_model.specs.Checks.{cooled, halted, halted_from}
use Rattle.st_model.specs.Look.{is_up}
use Rattle.st_model.specs.Merged.{merged}
use Rattle.st_merges.specs.inner.Halting.{halted_mode, in_mode}

pub up_halts : (p : PoolState) → is_up p.mode ≡ true → cooled Stopped (merged p) ≡ halted p
up_halts p h = here p.mode h
  where
    here : (m : PoolMode) → is_up m ≡ true → cooled Stopped (merged p) ≡ halted_from p m
    here Up h = refl
    here (Down call) h = absurd cc
    here Stopped h = absurd cc
    here (Unsettled call) h = absurd cc
    here (Incomplete path) h = absurd cc

pub idle_halts : (p : PoolState) → is_up p.mode ≡ false → in_mode (halted_mode p.mode) p ≡ halted p
idle_halts p h = here p.mode refl h
  where
    here : (m : PoolMode) → p.mode ≡ m → is_up m ≡ false → in_mode (halted_mode m) p ≡ halted_from p m
    here Up e h = absurd cc
    here (Down call) e h = refl
    here Stopped e h = ap (λ (m : PoolMode). record p { mode = m }) (sym e)
    here (Unsettled call) e h = ap (λ (m : PoolMode). record p { mode = m }) (sym e)
    here (Incomplete path) e h = ap (λ (m : PoolMode). record p { mode = m }) (sym e)
