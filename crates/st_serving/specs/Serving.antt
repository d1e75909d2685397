-- a call under a ticket: what its caller knows between its arrival and its release
use Rattle.std.specs.Prelude.{ℕ, ◌≡◌, ◌<◌, ◌≤◌, ◌^◌, ◌⊎◌, List, [], ◌∷◌, ◌++◌, length, true, false, Option, IfSome, IsSomeAnd}
use Rattle.st_units.specs.Roomy.{Roomy}
use Rattle.st_model.specs.declared.call.Call.{Call}
use Rattle.st_model.specs.declared.entry.Entry.{Entry}
use Rattle.st_model.specs.declared.entry.Env.TheVariants.{NoMem}
use Rattle.st_model.specs.declared.state.EngineState.{EngineState}
use Rattle.st_model.specs.declared.state.PoolState.{PoolState}
use Rattle.st_model.specs.Step.{IsLicensed, step}
use Rattle.st_model.specs.Valid.{IsValid}
use Rattle.st_model.specs.Wanted.{want_of}
use Rattle.st_history.specs.declared.log.Event.TheVariants.{Arrive, Release}
use Rattle.st_history.specs.History.{IsNotPrepare, IsShort}
use Rattle.st_book.specs.declared.noted.Noted.{Noted}
use Rattle.st_book.specs.Noted.{grant_with, IsNoted}
use Rattle.st_book.specs.Stands.{PartStands}
use Rattle.st_book.specs.View.{TableView}
use Rattle.st_lock.specs.Seats.{LockSeat, IsHeard, IsLater, own_row, plain, state_at}

-- the ticket is the seat's, and waits with what the call wants
abbrev pub Awaits : LockSeat → ℕ → Call → Type 0
Awaits v t call = IsSomeAnd (own_row t v) (λ r. (r.live ≡ false) × (r.want ≡ want_of call))

-- memory was refused before the call arrived: the seat has no new event, and may have seen more of the log
abbrev pub HasStayed : LockSeat → LockSeat → Type 0
HasStayed old new = (new ≡ old) ⊎ (IsLater old new × (new.own ≡ old.own))

-- The ticket is the seat's, and is granted with what the call wants; these cells and this table are its part, as it came, and so many
-- faults are noted of them.
pub record Holds (v : LockSeat) (t : ℕ) (call : Call) (cells : List PoolState) (table : Option TableView) (faults : ℕ) : Type 0 where
  pub row : IsSomeAnd (own_row t v) (λ r. (r.live ≡ true) × (r.want ≡ want_of call))
  pub heard : IsHeard v
  pub valid : IsValid (state_at v)
  pub part : PartStands (want_of call) (state_at v) cells table
  pub slack : IfSome table (λ w. v.opening.base ≤ w.slack)
  pub number : ℕ
  pub noted : IsNoted (grant_with v.number t number) v.own
  pub whole : length v.seen < 2 ^ 62 → faults ≡ number
  pub few : length v.seen < 2 ^ 62 → faults < 2 ^ 63

-- The entry is the call's, as the model answers it in this state for what it met.
pub record IsAnswer (s : EngineState) (call : Call) (e : Entry) : Type 0 where
  pub call_is : e.call ≡ call
  pub from : IsNotPrepare e.from
  pub licensed : IsLicensed s e.call e.env
  pub replied : e.reply ≡ (step s e.call e.env).0
  -- a write for which more space could be had isn't refused for want of space
  pub long : IsShort s e.call → e.env ≡ NoMem

-- the seat's own events got one release, with this entry
pub record HasReleased (old new : List Noted) (seat ticket : ℕ) (entry : Entry) : Type 0 where
  pub entries : Roomy Entry
  pub one : entries.items ≡ entry ∷ []
  pub own : new ≡ old ++ plain (Release seat ticket entries) ∷ []

-- the seat's own events got an arrival with what the entry's call wants, a grant, and a release with this entry
pub record HasServed (old new : List Noted) (seat : ℕ) (entry : Entry) : Type 0 where
  pub ticket : ℕ
  pub faults : ℕ
  pub entries : Roomy Entry
  pub one : entries.items ≡ entry ∷ []
  pub own : new ≡ old ++ plain (Arrive seat ticket (want_of entry.call)) ∷ grant_with seat ticket faults ∷ plain (Release seat ticket entries) ∷ []
