-- what holds of a ticket that tried, and of a lock that was to be closed, by what became of it
use Rattle.std.specs.Prelude.{ℕ}
use Rattle.st_lock.specs.declared.guard.Guard.{Guard}
use Rattle.st_lock.specs.declared.guard.Ticket.{Ticket}
use Rattle.st_lock.specs.declared.guard.Tried.{Tried}
use Rattle.st_lock.specs.declared.guard.Tried.TheVariants.{Granted, NotYet}
use Rattle.st_lock.specs.declared.shut.Shut.{Shut}
use Rattle.st_lock.specs.declared.shut.Shut.TheVariants.{Quiet, Unjoined, Left}
use Rattle.st_lock.specs.Seats.{LockSeat}
use Rattle.atomic_table.specs.Seated.{TableId}
use Rattle.st_units.specs.Roomy.{Roomy}
use Rattle.st_history.specs.declared.log.Event.{Event}

abbrev pub IfGranted : {C T I J : Type 0} → Tried C T I J → (Guard C T I J → Type 0) → Type 0
IfGranted (Granted guard) P = P guard
IfGranted (NotYet ticket blocker) P = Unit {0}

abbrev pub IfNotYet : {C T I J : Type 0} → Tried C T I J → (Ticket → ℕ → Type 0) → Type 0
IfNotYet (Granted guard) P = Unit {0}
IfNotYet (NotYet ticket blocker) P = P ticket blocker

abbrev pub IfQuiet : {C T I J : Type 0} → Shut C T I J → (T → Roomy C → Roomy Event → Type 0) → Type 0
IfQuiet (Quiet table cells log) P = P table cells log
IfQuiet (Unjoined lock seat n) P = Unit {0}
IfQuiet (Left lock seat n) P = Unit {0}

abbrev pub IfUnjoined : {C T I J : Type 0} → Shut C T I J → (TableId → LockSeat → ℕ → Type 0) → Type 0
IfUnjoined (Quiet table cells log) P = Unit {0}
IfUnjoined (Unjoined lock seat n) P = P lock seat n
IfUnjoined (Left lock seat n) P = Unit {0}

abbrev pub IfLeft : {C T I J : Type 0} → Shut C T I J → (TableId → LockSeat → ℕ → Type 0) → Type 0
IfLeft (Quiet table cells log) P = Unit {0}
IfLeft (Unjoined lock seat n) P = Unit {0}
IfLeft (Left lock seat n) P = P lock seat n
