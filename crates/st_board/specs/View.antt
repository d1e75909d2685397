-- What contracts see of the engine's board.
use Rattle.std.specs.Prelude.{ℕ, ◌+◌, ◌-◌, ◌^◌, min, nat_lt, Bool, List, map, if◌then◌else◌}
use Rattle.std.specs.List.{sum_by}
use Rattle.st_model.specs.declared.state.PoolState.{PoolState}
use Rattle.st_model.specs.declared.state.TableState.{TableState}
use Rattle.st_pool.specs.Halts.{HaltedView}
use Rattle.st_pool.specs.View.{PoolView}

-- what it stands for, whether it has an info to give, the rack of the free devices, the pools that aren't started, and how many
-- operations of pools that ended met a fault
pub record BoardView (D : Type 0) : Type 0 where
  pub state : TableState
  pub spare : Bool
  pub free : D
  pub halted : List (HaltedView D)
  pub past : ℕ

-- counts stop at this number
abbrev pub last : ℕ
last = 2 ^ 64 - 1

-- the faults of the pools that aren't started and of those that ended
abbrev pub faults_of : {D : Type 0} → BoardView D → ℕ
faults_of b = min (b.past + sum_by (λ h. h.faults) b.halted) last

-- how far the free devices' count is above `past`; from the last number on nothing is known any more, and the slack is as large as can be
abbrev pub slack_of : {D : Type 0} → (D → ℕ) → BoardView D → ℕ
slack_of faults b = if nat_lt (faults b.free) last then faults b.free - b.past else last

-- the faults of a part with these started pools and the board
abbrev pub faults_with : {D : Type 0} → List (PoolView D) → BoardView D → ℕ
faults_with cells b = faults_of b + sum_by (λ c. c.faults) cells

abbrev pub pools_of : {D : Type 0} → List (PoolView D) → List PoolState
pools_of cells = map (λ c. c.pool) cells
