-- What the devices of a rack stand for on which nothing was written.
use Rattle.std.specs.Prelude.{◌≡◌, ℕ, map}
use Rattle.std.specs.List.{AllByRecursion}
use Rattle.st_model.specs.declared.state.EngineState.{EngineState}
use Rattle.st_rack.specs.Device.{Path, Image}
use Rattle.st_rack.specs.Calls.{Devices}
use Rattle.st_image.specs.Rack.{RackStands, IsForeign}
use Rattle.st_image.specs.Survivors.{row_of}
use Rattle.st_plain.specs.Parts.{opening}

-- each device holds zeros
abbrev pub AreBlank : Devices → Image → Type 0
AreBlank devs c = AllByRecursion (λ (d : Path × ℕ). (i : ℕ) → c d.0 i ≡ 0) devs

-- these devices, of which no pool has one yet
abbrev pub unused : Devices → EngineState
unused devs = opening (map row_of devs)

-- Blank devices stand for the state with no pool, in which the first serial is next.
abbrev pub BlankStands : Type 0
BlankStands = (devs : Devices) (c : Image) → AreBlank devs c → RackStands devs c (unused devs)

-- They stand for no other state.
abbrev pub BlankStandsOnce : Type 0
BlankStandsOnce = (devs : Devices) (c : Image) (s : EngineState) → AreBlank devs c → RackStands devs c s → s ≡ unused devs

-- No serial breaks a rule on them.
abbrev pub BlankNotForeign : Type 0
BlankNotForeign = (devs : Devices) (c : Image) (p : ℕ) → AreBlank devs c → IsForeign devs c p → ⊥
