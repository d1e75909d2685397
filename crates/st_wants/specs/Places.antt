-- the rule of the lock again, told of the places of a log: what an event may be, after those before it
use Rattle.std.specs.Prelude.{ℕ, ◌≡◌, ◌≢◌, ◌<◌, Bool, true, false, List, take, Some, slice_get}
use Rattle.std.specs.List.{Contains, count_by}
use Rattle.st_wants.specs.declared.want.Want.{Want}
use Rattle.st_wants.specs.Wants.{compatible}
use Rattle.st_wants.specs.Rules.{Move, Arrive, Grant, Release}

abbrev pub is_arrival : Move → Bool
is_arrival (Arrive s t w) = true
is_arrival (Grant s t) = false
is_arrival (Release s t) = false

abbrev pub NotGranted : List Move → ℕ → Type 0
NotGranted past t = (s : ℕ) → Contains past (Grant s t) → ⊥

abbrev pub NotReleased : List Move → ℕ → Type 0
NotReleased past t = (s : ℕ) → Contains past (Release s t) → ⊥

-- the ticket was granted, its want being w, and isn't released yet
pub record IsLiveGrant (past : List Move) (t : ℕ) (w : Want) : Type 0 where
  pub seat : ℕ
  pub arrived : Contains past (Arrive seat t w)
  pub granted : Contains past (Grant seat t)
  pub kept : NotReleased past t

-- the ticket arrived with the want w, and isn't granted yet
pub record IsWaiter (past : List Move) (t : ℕ) (w : Want) : Type 0 where
  pub seat : ℕ
  pub arrived : Contains past (Arrive seat t w)
  pub waits : NotGranted past t

-- a grant is of a ticket that arrived by the same seat and wasn't granted; it conflicts with no live grant, and with no lower ticket that waits
pub record IsDueGrant (past : List Move) (s t : ℕ) : Type 0 where
  pub want : Want
  pub arrived : Contains past (Arrive s t want)
  pub once : NotGranted past t
  pub beside : (u : ℕ) (v : Want) → IsLiveGrant past u v → compatible v want ≡ true
  pub in_turn : (u : ℕ) (v : Want) → IsWaiter past u v → u < t → compatible v want ≡ true

-- a release is of a ticket that was granted by the same seat and wasn't released
pub record IsDueRelease (past : List Move) (s t : ℕ) : Type 0 where
  pub granted : Contains past (Grant s t)
  pub once : NotReleased past t

-- what may come after the events of past: a ticket is the number of arrivals before it
abbrev pub MayFollow : List Move → Move → Type 0
MayFollow past (Arrive s t w) = t ≡ count_by is_arrival past
MayFollow past (Grant s t) = IsDueGrant past s t
MayFollow past (Release s t) = IsDueRelease past s t

-- so it is at each place of the log
abbrev pub IsByRule : List Move → Type 0
IsByRule log = (i : ℕ) (m : Move) → slice_get log i ≡ Some m → MayFollow (take i log) m

-- any two live grants are compatible after each number of events
abbrev pub LiveGrantsApart : List Move → Type 0
LiveGrantsApart log = (i t u : ℕ) (w v : Want) → IsLiveGrant (take i log) t w → IsLiveGrant (take i log) u v → t ≢ u → compatible w v ≡ true
