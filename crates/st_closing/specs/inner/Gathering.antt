-- Racks are put into one.
use Rattle.std.specs.Prelude.{◌≡◌, ℕ, ◌+◌, ◌<◌, ◌≤◌, true, List, [], ◌∷◌, ◌++◌, length, map, Option, Some, None, is_some, option_map, IsNone}
use Rattle.std.specs.List.{AllByRecursion, sum_by}
use Rattle.st_units.specs.declared.rows.DevRow.{DevRow}
use Rattle.st_model.specs.Look.{row_of}
use Rattle.st_rack.specs.Device.{Path, DevState, State}
use Rattle.st_rack.specs.Calls.{Devices, Has, sectors_of}
use Rattle.st_rack.specs.Parts.{AreApart}
use Rattle.st_pool.specs.Halts.{HaltedView}
use Rattle.st_pool.specs.View.{PoolView, now}
use Rattle.st_board.specs.View.{last}

abbrev pub rack_of : {D : Type 0} → HaltedView D → D
rack_of h = h.rack

abbrev pub rack_in : {D : Type 0} → PoolView D → D
rack_in c = c.rack

abbrev pub or_else : {A : Type 0} → Option A → Option A → Option A
or_else None b = b
or_else (Some a) b = Some a

-- no two racks have a device
abbrev pub PairsApart : {D : Type 0} → (D → Devices) → List D → Type 0
PairsApart devs [] = Unit {0}
PairsApart devs (x ∷ xs) = AllByRecursion (AreApart devs x) xs × PairsApart devs xs

-- each device of the rack is one of the engine's
abbrev pub IsWithinRows : {D : Type 0} → (D → Devices) → List DevRow → D → Type 0
IsWithinRows devs rows x = (p : Path) (n : ℕ) → Has (devs x) p n → is_some (row_of p rows) ≡ true

abbrev pub HasPlaces : {D : Type 0} → (D → Devices) → (D → ℕ) → ℕ → List D → Type 0
HasPlaces devs spare most [] = Unit {0}
HasPlaces devs spare most (x ∷ xs) = most ≤ spare x + length (devs x)

-- The racks may be put into the first one.
pub record MayGather {D : Type 0} (devs : D → Devices) (spare : D → ℕ) (rows : List DevRow) (racks : List D) : Type 0 where
  pub apart : PairsApart devs racks
  pub within : AllByRecursion (IsWithinRows devs rows) racks
  pub places : HasPlaces devs spare (length rows) racks

module _ {D : Type 0} (devs : D → Devices) (moment : D → ℕ) (state_at : D → ℕ → State) where
  -- the device on the rack: its sectors and its state
  abbrev pub dev_on : D → Path → Option (ℕ × DevState)
  dev_on x p = option_map (λ (n : ℕ). (n, now moment state_at x p)) (sectors_of (devs x) p)

  -- the device on the first rack that has it
  abbrev pub dev_in : List D → Path → Option (ℕ × DevState)
  dev_in [] p = None
  dev_in (x ∷ xs) p = or_else (dev_on x p) (dev_in xs p)

  module _ (faults spare : D → ℕ) where
    -- The first racks were put into the rack: each device is what it was, and each fault is counted.
    pub record Gathers (old : D) (parts : List D) (new : D) (counted : ℕ) : Type 0 where
      pub goes_on : (rows : List DevRow) (rest : List D) → MayGather devs spare rows (old ∷ parts ++ rest) → MayGather devs spare rows (new ∷ rest)
      pub same : (rows : List DevRow) (rest : List D) → MayGather devs spare rows (old ∷ parts ++ rest) → (p : Path) → dev_in (new ∷ rest) p ≡ dev_in (old ∷ parts ++ rest) p
      pub counts : faults new < last → faults old + counted ≤ faults new

    abbrev pub HasGathered : D → List (HaltedView D) → D → Type 0
    HasGathered old parts new = Gathers old (map rack_of parts) new (sum_by (λ (h : HaltedView D). h.faults) parts)

    abbrev pub HasGatheredStarted : D → List (PoolView D) → D → Type 0
    HasGatheredStarted old cells new = Gathers old (map rack_in cells) new (sum_by (λ (c : PoolView D). c.faults) cells)
