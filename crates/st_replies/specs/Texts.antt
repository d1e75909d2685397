-- the text of each cause
use Rattle.std.specs.Prelude.{ℕ, List, [], ◌++◌, codes, decimal, Option, Some, None}
use Rattle.st_units.specs.declared.cause.Member.{Member}
use Rattle.st_units.specs.declared.cause.Member.TheVariants.{Line, Lane, Call, Name, Devices, Id, IdType, New, Pool, Filesystems, Names, Origin, Limit, Value, Sector, Hex, Fill, Sectors, Pools}
use Rattle.st_units.specs.declared.cause.Cause.{Cause}
use Rattle.st_units.specs.declared.cause.Cause.TheVariants.{BadCall, BadName, EmptyDevices, NoSuchDevice, NameInUse, DeviceInUse, DeviceTooSmall, TooManyDevices, TooManyPools, Maintenance, PoolStopped, NotEmpty, NoSuchPool, MissingDevice, PoolVanished, CacheExists, NoCache, BadSize, TooManyFilesystems, OverProvision, NoSuchFilesystem, MappingFull, LimitBelowSize, LimitLower, OutOfRange, NoSpace, DeviceFault, OutOfMemory, Worn, NoOrigin, MergeConflict}

-- the line, or the key of the member
abbrev pub member_text : Member → List ℕ
member_text Line = codes "line"
member_text Lane = codes "lane"
member_text Call = codes "call"
member_text Name = codes "name"
member_text Devices = codes "devices"
member_text Id = codes "id"
member_text IdType = codes "id_type"
member_text New = codes "new"
member_text Pool = codes "pool"
member_text Filesystems = codes "filesystems"
member_text Names = codes "names"
member_text Origin = codes "origin"
member_text Limit = codes "limit"
member_text Value = codes "value"
member_text Sector = codes "sector"
member_text Hex = codes "hex"
member_text Fill = codes "fill"
member_text Sectors = codes "sectors"
member_text Pools = codes "pools"

-- the cause's name, and each of its values behind what the value is called
abbrev pub cause_text : Cause → List ℕ
cause_text (BadCall m) = codes "BadCall member=" ++ member_text m
cause_text (BadName m) = codes "BadName member=" ++ member_text m
cause_text EmptyDevices = codes "EmptyDevices"
cause_text (NoSuchDevice path) = codes "NoSuchDevice path=" ++ path
cause_text NameInUse = codes "NameInUse"
cause_text (DeviceInUse path pool) = codes "DeviceInUse path=" ++ path ++ codes " pool=" ++ pool
cause_text (DeviceTooSmall path) = codes "DeviceTooSmall path=" ++ path
cause_text TooManyDevices = codes "TooManyDevices"
cause_text TooManyPools = codes "TooManyPools"
cause_text (Maintenance pool) = codes "Maintenance pool=" ++ pool
cause_text PoolStopped = codes "PoolStopped"
cause_text (NotEmpty filesystems) = codes "NotEmpty filesystems=" ++ decimal filesystems
cause_text NoSuchPool = codes "NoSuchPool"
cause_text (MissingDevice path) = codes "MissingDevice path=" ++ path
cause_text PoolVanished = codes "PoolVanished"
cause_text CacheExists = codes "CacheExists"
cause_text NoCache = codes "NoCache"
cause_text (BadSize name) = codes "BadSize name=" ++ name
cause_text TooManyFilesystems = codes "TooManyFilesystems"
cause_text (OverProvision sum room) = codes "OverProvision sum=" ++ decimal sum ++ codes " room=" ++ decimal room
cause_text NoSuchFilesystem = codes "NoSuchFilesystem"
cause_text (MappingFull mappings more) = codes "MappingFull mappings=" ++ decimal mappings ++ codes " more=" ++ decimal more
cause_text (LimitBelowSize name) = codes "LimitBelowSize name=" ++ name
cause_text LimitLower = codes "LimitLower"
cause_text OutOfRange = codes "OutOfRange"
cause_text (NoSpace free needed) = codes "NoSpace free=" ++ decimal free ++ codes " needed=" ++ decimal needed
cause_text DeviceFault = codes "DeviceFault"
cause_text OutOfMemory = codes "OutOfMemory"
cause_text Worn = codes "Worn"
cause_text NoOrigin = codes "NoOrigin"
cause_text (MergeConflict name) = codes "MergeConflict name=" ++ name

-- an acceptance has no text
unfoldable pub text_of : Option Cause → List ℕ
text_of None = []
text_of (Some cause) = cause_text cause
