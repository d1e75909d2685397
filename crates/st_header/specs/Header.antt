-- The header of a device: a sector of 512 bytes, of which two copies stand on the device.
use Rattle.std.specs.Prelude.{◌≡◌, ◌⊎◌, ℕ, ◌*◌, ◌^◌, ◌≤◌, ◌&&◌, nat_lt, nat_le, List, [], ◌∷◌, ◌++◌, take, drop, replicate, Option, Some, None, if◌then◌else◌}
use Rattle.std.specs.Str.{bytes_eq}
use Rattle.st_fields.specs.Fields.{number_at, spelling, digest}

-- `STRSHDR1`
abbrev pub magic : List ℕ
magic = 83 ∷ 84 ∷ 82 ∷ 83 ∷ 72 ∷ 68 ∷ 82 ∷ 49 ∷ []

-- what the seal covers: 480 bytes
unfoldable pub header_fields : ℕ → ℕ → List ℕ
header_fields serial sectors = magic ++ spelling 8 serial ++ spelling 8 sectors ++ replicate 456 0

-- the one spelling of a serial on a device of so many sectors
abbrev pub header_text : ℕ → ℕ → List ℕ
header_text serial sectors = header_fields serial sectors ++ digest (header_fields serial sectors)

-- a serial of a pool
pub record IsSerial (serial : ℕ) : Type 0 where
  pub from : 1 ≤ serial
  pub until : serial ≤ 2 ^ 48

-- these bytes are a valid copy, with this serial, on a device of so many sectors
pub record IsCopy (sectors : ℕ) (bytes : List ℕ) (serial : ℕ) : Type 0 where
  pub number : IsSerial serial
  pub spelled : bytes ≡ header_text serial sectors

-- a sector of the header area
abbrev pub sector_of : ℕ → List ℕ → List ℕ
sector_of k area = take 512 (drop (512 * k) area)

-- The header is the copy at sector 1 where that is valid, else the copy at sector 9. A device of fewer than 8,192 sectors has none.
pub record IsHeader (sectors : ℕ) (area : List ℕ) (serial : ℕ) : Type 0 where
  pub large : 8192 ≤ sectors
  pub copy : IsCopy sectors (sector_of 1 area) serial ⊎ (((n : ℕ) → ¬ IsCopy sectors (sector_of 1 area) n) × IsCopy sectors (sector_of 9 area) serial)

-- the same as functions: the serial in a copy, if that is valid
abbrev pub copy_of : ℕ → List ℕ → Option ℕ
copy_of sectors bytes =
    let serial = number_at 8 8 bytes in
    if (nat_le 1 serial && (nat_le serial (2 ^ 48) && bytes_eq bytes (header_text serial sectors))) then Some serial else None

-- the first of two, else the second
abbrev pub first_of : Option ℕ → Option ℕ → Option ℕ
first_of (Some n) other = Some n
first_of None other = other

abbrev pub header_of : ℕ → List ℕ → Option ℕ
header_of sectors area = if nat_lt sectors 8192 then None else first_of (copy_of sectors (sector_of 1 area)) (copy_of sectors (sector_of 9 area))
