-- identities in UUID form
use Rattle.std.specs.Prelude.{ℕ, ◌+◌, ◌*◌, ◌^◌, ◌%◌, List}
use Rattle.std.specs.Int.{to_be_bytes, w128}
use Rattle.uuid.specs.Text.{hyphenated_text, lower}
use Rattle.st_model.specs.declared.reply.Identity.{Identity}
use Rattle.st_model.specs.declared.reply.Identity.TheVariants.{Pool, Filesystem}

-- the pool's serial in the high 64 bits, then 1 for a pool or 2 for a filesystem in a byte, then 56 bits
-- for the filesystem's serial, which is below 2 ^ 49 in every valid state
abbrev pub uuid_of : Identity → ℕ
uuid_of (Pool serial) = serial * 2 ^ 64 + 2 ^ 56
uuid_of (Filesystem pool serial) = pool * 2 ^ 64 + (2 ^ 57 + serial % 2 ^ 56)

unfoldable pub uuid_text : Identity → List ℕ
uuid_text identity = hyphenated_text lower (to_be_bytes w128 (uuid_of identity))
