-- which calls can be made at all: a line gives no other
use Rattle.std.specs.Prelude.{◌≡◌, ◌%◌, ◌==◌, Bool, true, List, length}
use Rattle.st_limits.specs.declared.TheConstants.{SECTOR_BYTES}
use Rattle.st_wants.specs.Names.{names_of, are_one_to_eight}
use Rattle.st_model.specs.declared.call.Call.{Call}
use Rattle.st_model.specs.declared.call.Call.TheVariants.{FsWrite, PoolReports}
use Rattle.st_model.specs.declared.call.Payload.{Payload}
use Rattle.st_model.specs.declared.call.Payload.TheVariants.{Fill, Given}
use Rattle.st_model.specs.Look.{Text}

-- whole sectors
abbrev pub is_whole : Payload → Bool
is_whole (Fill byte sectors) = true
is_whole (Given bytes) = length bytes % SECTOR_BYTES == 0

-- from 1 to 8 distinct names
abbrev pub are_few : List Text → Bool
are_few pools = are_one_to_eight (names_of pools)

abbrev pub is_sound : Call → Bool
is_sound (FsWrite pool name sector payload) = is_whole payload
is_sound (PoolReports pools) = are_few pools
is_sound call = true

abbrev pub IsSound : Call → Type 0
IsSound call = is_sound call ≡ true
