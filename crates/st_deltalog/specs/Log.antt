-- The log of a pool's mappings: a checkpoint, and the deltas behind it up to a generation.
use Rattle.std.specs.Prelude.{ℕ, zero, suc, ◌+◌, ◌-◌, ◌*◌, ◌/◌, ◌&&◌, nat_le, nat_lt, nat_eq, List, [], ◌∷◌, length, Option, Some, None, if◌then◌else◌}
use Rattle.st_fields.specs.Fields.{number}
use Rattle.st_fields.specs.Slot.{Found, sector_of}
use Rattle.st_rack.specs.Story.{Content}
use Rattle.st_rack.specs.Device.{cells}
use Rattle.st_slots.specs.Places.{place_at}
use Rattle.st_slots.specs.Reading.{read_any}
use Rattle.st_deltalog.specs.declared.area.FlexArea.{FlexArea}

-- a checkpoint's slot, its generation and its body, and the bodies of the deltas behind it, the newest first
pub record Log : Type 0 where
  pub slot : ℕ
  pub start : ℕ
  pub body : List ℕ
  pub deltas : List (List ℕ)

-- the serial with which a body begins; 0, which is no serial, where the body is too short for one
unfoldable pub serial_in : List ℕ → ℕ
serial_in body = if nat_le 8 (length body) then number 8 body else 0

-- the sectors that a checkpoint takes
abbrev pub sectors_of : List ℕ → ℕ
sectors_of body = (64 + length body + 511) / 512

-- the first sector of the slot behind a log
abbrev pub next_of : Log → ℕ
next_of log = sectors_of log.body + length log.deltas

-- the checkpoint in a slot
abbrev pub checkpoint_in : FlexArea → ℕ → Content → Found
checkpoint_in flex slot f = read_any flex.area slot f

-- the first byte of sector k of a slot
abbrev pub sector_at : FlexArea → ℕ → ℕ → ℕ
sector_at flex slot k = place_at flex.area slot + 512 * k

-- the delta in sector k of a slot; behind the slot there is none
abbrev pub delta_in : FlexArea → ℕ → ℕ → Content → Found
delta_in flex slot k f = if nat_lt k flex.area.slot then sector_of flex.delta (cells f (sector_at flex slot k) 512) else None

-- the body of what was found, if it is of this generation
abbrev pub body_at : ℕ → Found → Option (List ℕ)
body_at g None = None
body_at g (Some x) = if nat_eq x.0 g then Some x.1 else None

abbrev pub put_on : Option (List ℕ) → Option (List (List ℕ)) → Option (List (List ℕ))
put_on None rest = None
put_on (Some body) None = None
put_on (Some body) (Some rest) = Some (body ∷ rest)

-- the bodies of n deltas, which stand from sector m on and are of the generations after c
abbrev pub deltas_in : FlexArea → ℕ → ℕ → ℕ → ℕ → Content → Option (List (List ℕ))
deltas_in flex slot m c zero f = Some []
deltas_in flex slot m c (suc n) f = put_on (body_at (c + suc n) (delta_in flex slot (m + n) f)) (deltas_in flex slot m c n f)

-- what was found, if its body begins with p and it is of generation g at most
abbrev pub usable : ℕ → ℕ → Found → Found
usable p g None = None
usable p g (Some x) = if (nat_eq (serial_in x.1) p && nat_le x.0 g) then Some x else None

-- a checkpoint with no deltas yet
abbrev pub begun : ℕ → ℕ × List ℕ → Log
begun slot x = record { slot = slot; start = x.0; body = x.1; deltas = [] }

-- of what slots 0 and 1 hold the one of greater generation, that of slot 1 on a tie
abbrev pub later : Found → Found → Option Log
later None None = None
later (Some x) None = Some (begun 0 x)
later None (Some y) = Some (begun 1 y)
later (Some x) (Some y) = if nat_lt y.0 x.0 then Some (begun 0 x) else Some (begun 1 y)

abbrev pub with_deltas : Log → Option (List (List ℕ)) → Option Log
with_deltas log None = None
with_deltas log (Some deltas) = Some (record { slot = log.slot; start = log.start; body = log.body; deltas = deltas })

abbrev pub followed : FlexArea → ℕ → Content → Option Log → Option Log
followed flex g f None = None
followed flex g f (Some log) = with_deltas log (deltas_in flex log.slot (sectors_of log.body) log.start (g - log.start) f)

-- the log that the checkpoint which is taken begins
abbrev pub begun_in : FlexArea → ℕ → ℕ → Content → Option Log
begun_in flex p g f = later (usable p g (checkpoint_in flex 0 f)) (usable p g (checkpoint_in flex 1 f))

-- The log of serial p at generation g, if the device's content has one.
unfoldable pub log_at : FlexArea → ℕ → ℕ → Content → Option Log
log_at flex p g f = followed flex g f (begun_in flex p g f)

-- the log with one delta more
abbrev pub grown : Log → List ℕ → Log
grown log body = record { slot = log.slot; start = log.start; body = log.body; deltas = body ∷ log.deltas }
