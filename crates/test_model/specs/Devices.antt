-- pools and their devices
use Rattle.std.specs.Prelude.{◌≡◌, ℕ, List, [], ◌∷◌, true, false, map, Option, Some, None}
use Rattle.st_units.specs.declared.cause.Cause.TheVariants.{CacheExists, DeviceInUse, DeviceTooSmall, NameInUse, NoCache}
use Rattle.st_model.specs.declared.call.Call.{Call}
use Rattle.st_model.specs.declared.call.Call.TheVariants.{AddCacheDevs, AddDataDevs, CreatePool, InitCache}
use Rattle.st_model.specs.declared.reply.Given.TheVariants.{Added, Created}
use Rattle.st_model.specs.declared.state.CacheState.{CacheState}
use Rattle.st_model.specs.declared.state.PoolState.{PoolState}
use Rattle.st_model.specs.Answer.{accepted, refused}
use Rattle.st_model.specs.Look.{Text}
use Rattle.st_model.specs.Sums.{room}
use Rattle.test_model.specs.Scripts.{after, device, on_rack, replies, sim}

-- pools p and q
abbrev p : Text
p = 112 ∷ []

abbrev q : Text
q = 113 ∷ []

abbrev held_calls : List Call
held_calls = CreatePool p (sim 0 ∷ []) ∷ CreatePool p (sim 0 ∷ []) ∷ CreatePool p (sim 0 ∷ sim 1 ∷ []) ∷ []

abbrev pub HeldOnce : Type 0
HeldOnce = replies (on_rack (device 0 65536 ∷ device 1 65536 ∷ [])) held_calls
    ≡ accepted (Created true (Some (1, sim 0 ∷ []))) ∷ accepted (Created false None) ∷ refused NameInUse ∷ []

abbrev pub RepeatedOnce : Type 0
RepeatedOnce = replies (on_rack (device 0 65536 ∷ [])) (CreatePool p (sim 0 ∷ sim 0 ∷ []) ∷ []) ≡ accepted (Created true (Some (1, sim 0 ∷ []))) ∷ []

abbrev small_calls : List Call
small_calls = CreatePool p (sim 0 ∷ []) ∷ CreatePool q (sim 1 ∷ []) ∷ []

-- of each pool its serial, its room and what is allocated
abbrev pub SmallRefused : Type 0
SmallRefused =
    (replies (on_rack (device 0 8191 ∷ device 1 8192 ∷ [])) small_calls ≡ refused (DeviceTooSmall (sim 0)) ∷ accepted (Created true (Some (1, sim 1 ∷ []))) ∷ [])
    × (map {B = ℕ × (ℕ × ℕ)} (λ (pool : PoolState). (pool.serial, (room pool, pool.allocated))) (after (on_rack (device 0 8191 ∷ device 1 8192 ∷ [])) small_calls).pools ≡ (1, (36, 32)) ∷ [])

abbrev added_calls : List Call
added_calls = CreatePool p (sim 0 ∷ []) ∷ AddDataDevs p (sim 1 ∷ []) ∷ AddDataDevs p (sim 1 ∷ []) ∷ []

abbrev pub AddedOnce : Type 0
AddedOnce =
    (replies (on_rack (device 0 65536 ∷ device 1 65536 ∷ [])) added_calls
    ≡ accepted (Created true (Some (1, sim 0 ∷ []))) ∷ accepted (Added true (sim 1 ∷ [])) ∷ accepted (Added false []) ∷ [])
    × (map (λ (pool : PoolState). room pool) (after (on_rack (device 0 65536 ∷ device 1 65536 ∷ [])) added_calls).pools ≡ 994 ∷ [])

-- no cache yet; made; its own device again; another device; more devices, of which one is of the data tier
abbrev cache_calls : List Call
cache_calls =
    CreatePool p (sim 0 ∷ [])
    ∷ AddCacheDevs p (sim 1 ∷ [])
    ∷ InitCache p (sim 1 ∷ [])
    ∷ InitCache p (sim 1 ∷ [])
    ∷ InitCache p (sim 2 ∷ [])
    ∷ AddCacheDevs p (sim 0 ∷ [])
    ∷ AddCacheDevs p (sim 1 ∷ sim 2 ∷ [])
    ∷ []

abbrev capacity_of : Option CacheState → Option ℕ
capacity_of None = None
capacity_of (Some cache) = Some cache.capacity

abbrev pub CacheMadeOnce : Type 0
CacheMadeOnce =
    (replies (on_rack (device 0 65536 ∷ device 1 8192 ∷ device 2 65536 ∷ [])) cache_calls
    ≡ accepted (Created true (Some (1, sim 0 ∷ [])))
    ∷ refused NoCache
    ∷ accepted (Added true (sim 1 ∷ []))
    ∷ accepted (Added false [])
    ∷ refused CacheExists
    ∷ refused (DeviceInUse (sim 0) p)
    ∷ accepted (Added true (sim 2 ∷ []))
    ∷ [])
    × (map (λ (pool : PoolState). capacity_of pool.cache) (after (on_rack (device 0 65536 ∷ device 1 8192 ∷ device 2 65536 ∷ [])) cache_calls).pools ≡ Some 572 ∷ [])
