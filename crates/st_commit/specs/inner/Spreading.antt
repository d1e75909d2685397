-- The record of a generation goes from the first device to the others.
use Rattle.std.specs.Prelude.{◌≡◌, ℕ, ◌<◌, List, Some, slice_get}
use Rattle.st_rack.specs.Device.{Path, State}
use Rattle.st_rack.specs.Readers.{AllMeant}
use Rattle.st_rack.specs.Moments.{Keeps}
use Rattle.st_slots.specs.Reading.{read_slot}
use Rattle.st_slots.specs.declared.spot.Area.{Area}
use Rattle.st_deltalog.specs.declared.area.FlexArea.{FlexArea}
use Rattle.st_deltalog.specs.Log.{Log}
use Rattle.st_deltalog.specs.Bearing.{IsSettled}
use Rattle.st_commit.specs.Standing.{Only, standing_of}
use Rattle.st_commit.specs.Ready.{IsOf, BearsRecord, IsSound, Known, NoOther, Ready}

-- where the first device bears the record, the devices stand for it at each moment
abbrev pub Spread : {D : Type 0} → (D → ℕ) → (D → ℕ → State) → Area → List Path → ℕ → List ℕ → D → D → Type 0
Spread moment state_at pool devs generation rec old new =
    (flex : FlexArea) (p up : ℕ) (h : ℕ → List ℕ) (first : Path) (log : Log) → IsSound flex → slice_get devs 0 ≡ Some first → h generation ≡ rec
    → Ready pool flex p up h devs first generation (Some log) (state_at old (moment old))
    → Keeps moment state_at (Only pool flex p devs first (standing_of generation rec (Some log))) old new

-- then the first k bear it
abbrev pub SpreadDone : {D : Type 0} → (D → ℕ) → (D → ℕ → State) → Area → List Path → ℕ → List ℕ → ℕ → D → D → Type 0
SpreadDone moment state_at pool devs generation rec k old new =
    (flex : FlexArea) (p up : ℕ) (h : ℕ → List ℕ) (first : Path) (log : Log) → IsSound flex → slice_get devs 0 ≡ Some first → h generation ≡ rec
    → Ready pool flex p up h devs first generation (Some log) (state_at old (moment old))
    → Ready pool flex p up h devs first generation (Some log) (state_at new (moment new))
    × ((j : ℕ) (d : Path) → j < k → slice_get devs j ≡ Some d → BearsRecord pool generation rec (state_at new (moment new) d))

-- all that was meant for the slots of the devices, and all that they hold, is the record or was there at the start
pub record AllKnown (pool : Area) (devs : List Path) (g : ℕ) (rec : List ℕ) (start s : State) : Type 0 where
  pub meant : (d : Path) → IsOf devs d → (r : ℕ) → r < 2 → AllMeant (read_slot pool r) (Known pool g rec r (start d)) (s d)
  pub held : (d : Path) → IsOf devs d → (r : ℕ) → r < 2 → Known pool g rec r (start d) (read_slot pool r (s d).holds)

-- where that is so before, no other record appears
abbrev pub SpreadKnown : {D : Type 0} → (D → ℕ) → (D → ℕ → State) → Area → List Path → ℕ → List ℕ → D → D → Type 0
SpreadKnown moment state_at pool devs generation rec old new =
    (start : State) → AllKnown pool devs generation rec start (state_at old (moment old)) → Keeps moment state_at (NoOther pool devs generation rec start) old new

-- and that it is so afterwards
abbrev pub KnownDone : {D : Type 0} → (D → ℕ) → (D → ℕ → State) → Area → List Path → ℕ → List ℕ → D → D → Type 0
KnownDone moment state_at pool devs generation rec old new =
    (start : State) → AllKnown pool devs generation rec start (state_at old (moment old)) → AllKnown pool devs generation rec start (state_at new (moment new))

-- where the first device is settled before, the first k are
abbrev pub SettledDone : {D : Type 0} → (D → ℕ) → (D → ℕ → State) → List Path → ℕ → D → D → Type 0
SettledDone moment state_at devs k old new =
    ((first : Path) → slice_get devs 0 ≡ Some first → IsSettled (state_at old (moment old) first))
    → (j : ℕ) (d : Path) → j < k → slice_get devs j ≡ Some d → IsSettled (state_at new (moment new) d)
