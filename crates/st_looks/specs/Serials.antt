-- The serials that devices name.
use Rattle.std.specs.Prelude.{◌≡◌, ◌⊎◌, ℕ, ◌<◌, ◌≤◌, nat_le, nat_lt, max, List, [], ◌∷◌, Option, Some, None, unwrap_or, slice_get, if◌then◌else◌}
use Rattle.st_image.specs.Rack.{slot_serial}
use Rattle.st_looks.specs.declared.look.DevLook.{DevLook}

-- the serial in the header, 0 without one
abbrev pub header_serial : DevLook → ℕ
header_serial look = unwrap_or look.header 0

-- the greatest that a device names, in its header or at the beginning of a slot's body
abbrev pub greatest_in : DevLook → ℕ
greatest_in look = max (header_serial look) (max (slot_serial look.even) (slot_serial look.odd))

abbrev pub greatest_among : List DevLook → ℕ
greatest_among [] = 0
greatest_among (look ∷ looks) = max (greatest_in look) (greatest_among looks)

-- of a serial that was found above another, and one more, the nearer one that is above
abbrev pub nearer : Option ℕ → ℕ → ℕ → Option ℕ
nearer None serial above = if nat_le serial above then None else Some serial
nearer (Some other) serial above = if nat_le serial above then Some other else if nat_lt serial other then Some serial else Some other

-- a header names this serial
pub record IsNamed (looks : List DevLook) (serial : ℕ) : Type 0 where
  pub index : ℕ
  pub look : DevLook
  pub of : slice_get looks index ≡ Some look
  pub header : header_serial look ≡ serial

-- No header names a serial above this one; or this is the least that one does.
abbrev pub IsNextOf : ℕ → List DevLook → Option ℕ → Type 0
IsNextOf above looks None = (k : ℕ) (look : DevLook) → slice_get looks k ≡ Some look → header_serial look ≤ above
IsNextOf above looks (Some serial) = (above < serial) × (IsNamed looks serial × ((k : ℕ) (look : DevLook) → slice_get looks k ≡ Some look → (header_serial look ≤ above) ⊎ (serial ≤ header_serial look)))
