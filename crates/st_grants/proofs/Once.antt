-- a log by the rule has each ticket's events once, in order
use Rattle.std.proofs.Common.{ℕ, zero, suc, ◌≡◌, ◌<◌, List, [], ◌∷◌, take, length, Some, ap, arith}
use Rattle.std.specs.Prelude.{slice_get, slice_index_or}
use Rattle.std.specs.List.{Contains}
use Rattle.st_wants.specs.declared.want.Want.{Want}
use Rattle.st_wants.specs.Rules.{Move, Arrive, Grant, Release}
use Rattle.st_wants.specs.Places.{IsByRule}

-- an event before a place stands at a lower place
at_index : (log : List Move) (i k : ℕ) (x : Move) → k < length (take i log) → slice_index_or (take i log) k x ≡ x → (k < i) × (slice_get log k ≡ Some x)
at_index [] zero k x lt e = absurd (omega arith)
at_index [] (suc i) k x lt e = absurd (omega arith)
at_index (y ∷ log) zero k x lt e = absurd (omega arith)
at_index (y ∷ log) (suc i) zero x lt e = (omega arith, ap Some e)
at_index (y ∷ log) (suc i) (suc k) x lt e =
    let less : k < length (take i log) = omega arith in
    let r = at_index log i k x less e in
    (let below = r.0 in omega arith, r.1)

pub place_of : (log : List Move) (i : ℕ) (x : Move) → Contains (take i log) x → (j : ℕ) × (j < i) × (slice_get log j ≡ Some x)
place_of log i x c = let r = at_index log i c.0 x c.1 c.2 in (c.0, r.0, r.1)

-- and the other way round
in_take : (log : List Move) (j i : ℕ) (x : Move) → slice_get log j ≡ Some x → j < i → (j < length (take i log)) × (slice_index_or (take i log) j x ≡ x)
in_take [] j i x at lt = absurd cc
in_take (y ∷ log) j zero x at lt = absurd (omega arith)
in_take (y ∷ log) zero (suc i) x at lt = (omega arith, cc)
in_take (y ∷ log) (suc j) (suc i) x at lt =
    let below : j < i = omega arith in
    let r = in_take log j i x at below in
    (let less = r.0 in omega arith, r.1)

pub before : (log : List Move) (j i : ℕ) (x : Move) → slice_get log j ≡ Some x → j < i → Contains (take i log) x
before log j i x at lt = let r = in_take log j i x at lt in (j, r.0, r.1)

-- places of which neither is before the other are one
pub one_place : (i j : ℕ) → (i < j → ⊥) → (j < i → ⊥) → i ≡ j
one_place i j a b = omega (arith, a, b)

pub granted_once : (log : List Move) (i j s r t : ℕ) → IsByRule log → slice_get log i ≡ Some (Grant s t) → slice_get log j ≡ Some (Grant r t) → i ≡ j
granted_once log i j s r t h at at' =
    let a : i < j → ⊥ = λ lt. (h j (Grant r t) at').once s (before log i j (Grant s t) at lt) in
    let b : j < i → ⊥ = λ lt. (h i (Grant s t) at).once r (before log j i (Grant r t) at' lt) in
    one_place i j a b

pub granted_after : (log : List Move) (i s t : ℕ) → IsByRule log → slice_get log i ≡ Some (Grant s t) → (j : ℕ) × (w : Want) × (j < i) × (slice_get log j ≡ Some (Arrive s t w))
granted_after log i s t h at =
    let due = h i (Grant s t) at in
    let p = place_of log i (Arrive s t due.want) due.arrived in
    (p.0, due.want, p.1, p.2)

pub released_once : (log : List Move) (i j s r t : ℕ) → IsByRule log → slice_get log i ≡ Some (Release s t) → slice_get log j ≡ Some (Release r t) → i ≡ j
released_once log i j s r t h at at' =
    let a : i < j → ⊥ = λ lt. (h j (Release r t) at').once s (before log i j (Release s t) at lt) in
    let b : j < i → ⊥ = λ lt. (h i (Release s t) at).once r (before log j i (Release r t) at' lt) in
    one_place i j a b

pub released_after : (log : List Move) (i s t : ℕ) → IsByRule log → slice_get log i ≡ Some (Release s t) → (j : ℕ) × (j < i) × (slice_get log j ≡ Some (Grant s t))
released_after log i s t h at = place_of log i (Grant s t) (h i (Release s t) at).granted
