-- the calls that write and read sectors, by their members in the order in which they are looked at
use Rattle.std.specs.Prelude.{ℕ, ◌%◌, ◌==◌, List, length, nat_le, Option, Some, None, Result, Ok, Err, codes, if◌then◌else◌}
use Rattle.serde_json.specs.Data.{Data}
use Rattle.serde_json.specs.Find.{get, as_str}
use Rattle.hex.specs.Hex.{decode_of}
use Rattle.hex.specs.declared.error.FromHexError.{FromHexError}
use Rattle.st_units.specs.declared.cause.Member.TheVariants as members
use Rattle.st_limits.specs.declared.TheConstants.{SECTOR_BYTES}
use Rattle.st_model.specs.declared.call.Call.{Call}
use Rattle.st_model.specs.declared.call.Call.TheVariants.{FsWrite, FsRead}
use Rattle.st_model.specs.declared.call.Payload.{Payload}
use Rattle.st_model.specs.declared.call.Payload.TheVariants.{Fill, Given}
use Rattle.st_calls.specs.declared.fault.LineFault.{LineFault}
use Rattle.st_calls.specs.declared.fault.LineFault.TheVariants.{BadCall}
use Rattle.st_calls.specs.Gives.{◌>>=◌}
use Rattle.st_calls.specs.Members.{or_bad, number_at}
use Rattle.st_calls.specs.PoolForms.{pool_at, own_name_at}

abbrev pub whole_sectors : List ℕ → Result Payload LineFault
whole_sectors bytes = if length bytes % SECTOR_BYTES == 0 then Ok (Given bytes) else Err (BadCall members.Hex)

abbrev pub decoded : Result (List ℕ) FromHexError → Result Payload LineFault
decoded (Ok bytes) = whole_sectors bytes
decoded (Err e) = Err (BadCall members.Hex)

-- digits of whole sectors, in either case; none at all are no sector
unfoldable pub hex_payload : Data → Result Payload LineFault
hex_payload d = or_bad members.Hex (as_str d) >>= λ text. decoded (decode_of text)

abbrev pub as_byte : ℕ → Result ℕ LineFault
as_byte n = if nat_le n 255 then Ok n else Err (BadCall members.Fill)

unfoldable pub fill_payload : Data → Result Payload LineFault
fill_payload d =
    number_at members.Fill (codes "fill") d >>= as_byte >>= λ byte.
    number_at members.Sectors (codes "sectors") d >>= λ sectors.
    Ok (Fill byte sectors)

abbrev pub payload_by : Option Data → Data → Result Payload LineFault
payload_by (Some hex) d = hex_payload hex
payload_by None d = fill_payload d

-- where hex is there, fill and sectors aren't looked at
unfoldable pub payload_of : Data → Result Payload LineFault
payload_of d = payload_by (get (codes "hex") d) d

-- FsWrite: pool, name, sector, and hex, or fill and sectors
unfoldable pub fs_write : Data → Result Call LineFault
fs_write d =
    pool_at d >>= λ pool.
    own_name_at d >>= λ name.
    number_at members.Sector (codes "sector") d >>= λ sector.
    payload_of d >>= λ payload.
    Ok (FsWrite pool name sector payload)

-- FsRead: pool, name, sector, sectors
unfoldable pub fs_read : Data → Result Call LineFault
fs_read d =
    pool_at d >>= λ pool.
    own_name_at d >>= λ name.
    number_at members.Sector (codes "sector") d >>= λ sector.
    number_at members.Sectors (codes "sectors") d >>= λ sectors.
    Ok (FsRead pool name sector sectors)
