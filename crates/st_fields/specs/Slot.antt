-- A sealed text: a head of 64 bytes, whose seal covers its other fields and the body, and then the body. It stands at the start of a
-- slot, or fills whole sectors.
use Rattle.std.specs.Prelude.{◌≡◌, ◌≢◌, ℕ, ◌+◌, ◌-◌, ◌*◌, ◌/◌, ◌^◌, ◌≤◌, Bool, ◌&&◌, nat_le, List, ◌++◌, length, take, drop, replicate, Option, Some, None, if◌then◌else◌}
use Rattle.std.specs.Str.{bytes_eq}
use Rattle.st_fields.specs.Fields.{number_at, spelling, digest}

-- the head's first 32 bytes, before its seal: magic, generation, the body's length, and zero bytes
unfoldable pub slot_fields : List ℕ → ℕ → ℕ → List ℕ
slot_fields magic generation count = magic ++ spelling 8 generation ++ spelling 8 count ++ replicate 8 0

-- what seals a body of this generation
abbrev pub slot_seal : List ℕ → ℕ → List ℕ → List ℕ
slot_seal magic generation body = digest (slot_fields magic generation (length body) ++ body)

-- the one spelling of a generation and a body
abbrev pub slot_text : List ℕ → ℕ → List ℕ → List ℕ
slot_text magic generation body = slot_fields magic generation (length body) ++ slot_seal magic generation body ++ body

-- so many bytes, filled up to whole sectors
abbrev pub padded : ℕ → ℕ
padded n = 512 * ((n + 511) / 512)

-- what a write puts into the slot: the text, and zero bytes up to whole sectors
abbrev pub slot_bytes : List ℕ → ℕ → List ℕ → List ℕ
slot_bytes magic generation body = slot_text magic generation body ++ replicate (padded (64 + length body) - (64 + length body)) 0

-- The bytes begin with the spelling of this generation and body.
pub record IsSealed (magic bytes : List ℕ) (generation : ℕ) (body : List ℕ) : Type 0 where
  pub from : 1 ≤ generation
  pub until : generation ≤ 2 ^ 48
  pub rest : List ℕ
  pub spelled : bytes ≡ slot_text magic generation body ++ rest

-- a generation and its body, if a valid text was found
abbrev pub Found : Type 0
Found = Option (ℕ × List ℕ)

abbrev pub generation_in : List ℕ → ℕ
generation_in bytes = number_at 8 8 bytes

abbrev pub length_in : List ℕ → ℕ
length_in bytes = number_at 8 16 bytes

abbrev pub body_in : List ℕ → List ℕ
body_in bytes = take (length_in bytes) (drop 64 bytes)

abbrev pub is_generation : ℕ → Bool
is_generation generation = nat_le 1 generation && nat_le generation (2 ^ 48)

-- the same as a function: what the bytes say, where they begin with the spelling of it
unfoldable pub sealed_of : List ℕ → List ℕ → Found
sealed_of magic bytes =
    if (is_generation (generation_in bytes) && bytes_eq (take (64 + length_in bytes) bytes) (slot_text magic (generation_in bytes) (body_in bytes)))
    then Some (generation_in bytes, body_in bytes) else None

-- what was found, if its spelling and zero bytes up to a whole sector are all the bytes
abbrev pub whole_in : List ℕ → List ℕ → Found → Found
whole_in magic bytes None = None
whole_in magic bytes (Some x) = if bytes_eq bytes (slot_bytes magic x.0 x.1) then Some x else None

-- a sealed text that fills its sectors
unfoldable pub sector_of : List ℕ → List ℕ → Found
sector_of magic bytes = whole_in magic bytes (sealed_of magic bytes)

-- what the seal of a generation and a body covers
abbrev pub message_of : List ℕ → ℕ × List ℕ → List ℕ
message_of magic x = slot_fields magic x.0 (length x.1) ++ x.1

-- two messages of one digest
pub record Collides (a b : List ℕ) : Type 0 where
  pub differ : a ≢ b
  pub same : digest a ≡ digest b
