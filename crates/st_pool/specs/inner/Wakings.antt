-- What a start knows once the devices of a halted pool were synced and read, and what it tells by that.
use Rattle.std.specs.Prelude.{◌≡◌, ℕ, ◌≤◌, true, List, Option, Some, None}
use Rattle.st_slots.specs.declared.spot.SlotFault.{SlotFault}
use Rattle.st_slots.specs.declared.spot.SlotFault.TheVariants.{Fault, OutOfMemory}
use Rattle.st_model.specs.declared.call.Call.{Call}
use Rattle.st_model.specs.declared.entry.Env.{Env}
use Rattle.st_model.specs.declared.entry.Env.TheVariants.{Plain}
use Rattle.st_rack.specs.Device.{Path, State, held}
use Rattle.st_rack.specs.Calls.{Devices, Has, Rises}
use Rattle.st_deltalog.specs.Bearing.{IsSettled}
use Rattle.st_commit.specs.Ready.{IsOf}
use Rattle.st_image.specs.Rack.{IsSerial}
use Rattle.st_books.specs.declared.books.Books.{Books}
use Rattle.st_starting.specs.declared.finding.Finding.{Finding}
use Rattle.st_starting.specs.inner.Finding.{IsFinding}
use Rattle.st_told.specs.Met as met
use Rattle.st_pool.specs.declared.flight.Flight.{Flight}
use Rattle.st_pool.specs.declared.started.Started.{Started}
use Rattle.st_pool.specs.declared.started.Started.TheVariants as did
use Rattle.st_pool.specs.Answered.{counted}
use Rattle.st_pool.specs.Halts.{HaltedView}
use Rattle.st_pool.specs.Starts.{HaltsSome}
use Rattle.st_pool.specs.View.{now}

-- Nothing is pending on its devices, and this was found on their rack.
pub record IsSought {D : Type 0} (devs : D → Devices) (moment : D → ℕ) (state_at : D → ℕ → State) (h : HaltedView D) (f : Finding) : Type 0 where
  pub some : HaltsSome devs moment state_at h
  pub serial : IsSerial h.serial
  pub rises : Rises (devs h.rack)
  pub settled : (d : Path) → IsOf h.devs d → IsSettled (now moment state_at h.rack d)
  pub found : IsFinding h.serial (devs h.rack) h.devs (held (now moment state_at h.rack)) f

-- what a start tells of a pool whose books are known, or that is at rest
abbrev pub IsTold : Option Flight → Books → Env → Type 0
IsTold None b env = env ≡ Plain
IsTold (Some f) b env = met.IsMet f.call f.books b env

abbrev pub IsUnmade : Option Flight → Type 0
IsUnmade None = ⊥
IsUnmade (Some f) = met.IsMaking f.call

abbrev pub IsEnded : Option Flight → ℕ → Type 0
IsEnded None g = ⊥
IsEnded (Some f) g = met.IsEnding f.call f.books g

-- each of the devices has room for the records of a pool
abbrev pub AreLarge : Devices → List Path → Type 0
AreLarge rack list = (d : Path) → IsOf list d → (n : ℕ) × Has rack d n × (8192 ≤ n)

-- the pool's books as they are known once these were found
abbrev pub known : Option Flight → Books → Flight
known None b = record { call = None; books = b }
known (Some f) b = f

-- what becomes of a halted pool for this fault
abbrev pub left : {D : Type 0} → SlotFault → HaltedView D → Started D
left Fault h = did.Fault (record h { faults = counted true h.faults })
left OutOfMemory h = did.NoMemory h
