-- The bytes of a device, of which the blocks that were written are kept: each in its place in a room of blocks.
use Rattle.std.specs.Prelude.{ℕ, ◌+◌, ◌*◌, ◌/◌, ◌%◌, List, [], ◌∷◌, get_or, Option, Some, None}
use Rattle.st_limits.specs.declared.TheConstants.{BLOCK_BYTES}
use Rattle.st_rack.specs.Story.{Content}

-- the i-th byte of a block with that place; a block without one is zeros
abbrev pub byte_in : Option ℕ → List ℕ → ℕ → ℕ
byte_in None room i = 0
byte_in (Some place) room i = get_or room (BLOCK_BYTES * place + i) 0

-- each byte of the device
abbrev pub bytes_of : List (Option ℕ) → List ℕ → Content
bytes_of places room i = byte_in (get_or places (i / BLOCK_BYTES) None) room (i % BLOCK_BYTES)

-- how many blocks have a place
abbrev pub kept : List (Option ℕ) → ℕ
kept [] = 0
kept (None ∷ places) = kept places
kept (Some place ∷ places) = kept places + 1
