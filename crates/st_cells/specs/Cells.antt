-- the started pools of a state, in any order, through a change of one pool
use Rattle.std.specs.Prelude.{◌≡◌, ◌⊎◌, ℕ, ◌≤◌, true, false, not, List, [], ◌∷◌, ◌++◌, filter, length, remove, slice_get, Some, None}
use Rattle.st_model.specs.declared.state.EngineState.{EngineState}
use Rattle.st_model.specs.declared.state.PoolState.{PoolState}
use Rattle.st_model.specs.Flight.{all_but}
use Rattle.st_model.specs.Look.{Text, is_called, is_started}
use Rattle.st_model.specs.Parts.{own, pool_at}
use Rattle.st_model.specs.Pieces.{AreNamedApart, ArePools, every}
use Rattle.st_model.specs.Valid.{IsValid}
use Rattle.st_model.specs.steps.CreatePool.{with_pool}
use Rattle.st_table.specs.Steps.{with_other}

abbrev pub others : Text → List PoolState → List PoolState
others name = filter (λ (p : PoolState). not (is_called name p))

-- a pool taken out by its place leaves the others
abbrev pub TakenOut : Type 0
TakenOut = (ps : List PoolState) (i : ℕ) (p : PoolState) → AreNamedApart ps → slice_get ps i ≡ Some p → remove ps i ≡ others p.name ps

-- where no pool has the name, the others are all
abbrev pub NoneOut : Type 0
NoneOut = (name : Text) (ps : List PoolState) → pool_at name ps ≡ None → others name ps ≡ ps

-- a new pool, which is started
abbrev pub Added : Type 0
Added = (s : EngineState) (ps : List PoolState) (q : PoolState) → IsValid s → IsValid (with_pool s q) → is_started q.mode ≡ true → ArePools every s ps → ArePools every (with_pool s q) (ps ++ q ∷ [])

-- The pool becomes another, which has its name or one that no pool has.
pub record Becomes (s : EngineState) (p q : PoolState) : Type 0 where
  pub before : IsValid s
  pub here : pool_at p.name s.pools ≡ Some p
  pub after : IsValid (with_other p.name q s)
  pub free : (q.name ≡ p.name) ⊎ (pool_at q.name s.pools ≡ None)

-- a pool becomes a started one
abbrev pub Started : Type 0
Started = (s : EngineState) (ps : List PoolState) (p q : PoolState) → Becomes s p q → is_started q.mode ≡ true → ArePools every s ps → ArePools every (with_other p.name q s) (others p.name ps ++ q ∷ [])

-- a pool becomes one that isn't started
abbrev pub Halted : Type 0
Halted = (s : EngineState) (ps : List PoolState) (p q : PoolState) → Becomes s p q → q.name ≡ p.name → is_started q.mode ≡ false → ArePools every s ps → ArePools every (with_other p.name q s) (others p.name ps)

-- a pool is known no more
abbrev pub Dropped : Type 0
Dropped = (s : EngineState) (ps : List PoolState) (p : PoolState) → IsValid s → pool_at p.name s.pools ≡ Some p → ArePools every s ps → ArePools every (record s { pools = all_but p.serial s.pools }) (others p.name ps)

-- there are no more of them than pools
abbrev pub NoMore : Type 0
NoMore = (s : EngineState) (ps : List PoolState) → ArePools every s ps → length ps ≤ length s.pools

-- each is the state's
abbrev pub EachOwn : Type 0
EachOwn = (s : EngineState) (ps : List PoolState) (i : ℕ) (p : PoolState) → IsValid s → ArePools every s ps → slice_get ps i ≡ Some p → (own p.name s ≡ Some p) × (pool_at p.name s.pools ≡ Some p)
