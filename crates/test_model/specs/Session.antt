-- an ordinary session, whole, and what is read in it
use Rattle.std.specs.Prelude.{◌≡◌, ◌+◌, ◌^◌, List, [], ◌∷◌, ◌++◌, true, false, replicate, Some, None}
use Rattle.st_units.specs.declared.rows.Tier.TheVariants.{CacheTier, DataTier}
use Rattle.st_model.specs.declared.call.Call.{Call}
use Rattle.st_model.specs.declared.call.Call.TheVariants.{CreateFilesystems, CreatePool, DestroyFilesystems, FsRead, FsWrite, InitCache, PoolReport, SnapshotFilesystem, StartPool, StopPool}
use Rattle.st_model.specs.declared.call.Payload.TheVariants.{Fill}
use Rattle.st_model.specs.declared.call.PoolId.TheVariants.{ByUuid}
use Rattle.st_model.specs.declared.info.PoolInfo.{PoolInfo}
use Rattle.st_model.specs.declared.info.ShownMode.TheVariants.{Up}
use Rattle.st_model.specs.declared.reply.Given.TheVariants.{Added, Changed, Created, CreatedFilesystems, DestroyedFilesystems, Read, Written}
use Rattle.st_model.specs.declared.reply.Given.TheVariants as given
use Rattle.st_model.specs.declared.reply.Identity.TheVariants.{Filesystem, Pool}
use Rattle.st_model.specs.Answer.{accepted}
use Rattle.st_model.specs.Look.{Text}
use Rattle.test_model.specs.Filesystems.{a, created, p, s, start}
use Rattle.test_model.specs.Scripts.{after, device, on_rack, replies, sim}
use Rattle.test_model.specs.Writing.{is_with_a, lines_and_use, with_a}

-- tank, home and home-2024
abbrev tank : Text
tank = 116 ∷ 97 ∷ 110 ∷ 107 ∷ []

abbrev home : Text
home = 104 ∷ 111 ∷ 109 ∷ 101 ∷ []

abbrev home-2024 : Text
home-2024 = home ++ 45 ∷ 50 ∷ 48 ∷ 50 ∷ 52 ∷ []

abbrev ordinary_calls : List Call
ordinary_calls =
    CreatePool tank (sim 0 ∷ sim 1 ∷ [])
    ∷ InitCache tank (sim 2 ∷ [])
    ∷ CreateFilesystems tank (record { name = home; size = Some 65536; limit = None } ∷ [])
    ∷ FsWrite tank home 0 (Fill 65 16)
    ∷ SnapshotFilesystem tank home home-2024
    ∷ FsWrite tank home 0 (Fill 66 16)
    ∷ FsRead tank home-2024 0 1
    ∷ StopPool tank
    ∷ StartPool (ByUuid (2 ^ 64 + 2 ^ 56))
    ∷ PoolReport tank
    ∷ []

abbrev tank_info : PoolInfo
tank_info = record {
  serial = 1;
  name = tank;
  mode = Up;
  devs = record { path = sim 0; tier = DataTier; sectors = 65536 } ∷ record { path = sim 1; tier = DataTier; sectors = 65536 } ∷ record { path = sim 2; tier = CacheTier; sectors = 65536 } ∷ [];
  filesystems = record { row = record { serial = 1; name = home; size = 65536; limit = None; origin = None; merge = false }; mapped = 1 }
      ∷ record { row = record { serial = 2; name = home-2024; size = 65536; limit = None; origin = Some 1; merge = false }; mapped = 1 }
      ∷ [];
  fs_limit = 100;
  overprovisioning = true;
  room = 994;
  allocated = 32;
  used = 2;
  cache = Some (record { blocks = 510; hits = 0; misses = 0; used = 0 });
}

abbrev pub OrdinarySession : Type 0
OrdinarySession = replies (on_rack (device 0 65536 ∷ device 1 65536 ∷ device 2 65536 ∷ [])) ordinary_calls
    ≡ accepted (Created true (Some (1, sim 0 ∷ sim 1 ∷ [])))
    ∷ accepted (Added true (sim 2 ∷ []))
    ∷ accepted (CreatedFilesystems true (created home 1 ∷ []))
    ∷ accepted (Written 16)
    ∷ accepted (Changed true (Some (Filesystem 1 2)))
    ∷ accepted (Written 16)
    ∷ accepted (Read (replicate 512 65))
    ∷ accepted (Changed true (Some (Pool 1)))
    ∷ accepted (Changed true (Some (Pool 1)))
    ∷ accepted (given.Pool tank_info)
    ∷ []

-- what isn't written reads as zeros
abbrev pub UnwrittenIsZero : Type 0
UnwrittenIsZero = replies start (with_a ++ FsRead p a 5 1 ∷ FsRead p a 32767 1 ∷ []) ≡ is_with_a ++ accepted (Read (replicate 512 0)) ∷ accepted (Read (replicate 512 0)) ∷ []

-- a snapshot goes its own way, and outlives its origin
abbrev apart_calls : List Call
apart_calls =
    with_a
    ++ FsWrite p a 0 (Fill 1 1)
    ∷ SnapshotFilesystem p a s
    ∷ FsWrite p a 0 (Fill 2 1)
    ∷ FsRead p a 0 1
    ∷ FsRead p s 0 1
    ∷ DestroyFilesystems p (a ∷ [])
    ∷ FsRead p s 0 1
    ∷ []

abbrev pub SnapshotOutlives : Type 0
SnapshotOutlives =
    (replies start apart_calls
    ≡ is_with_a
    ++ accepted (Written 1)
    ∷ accepted (Changed true (Some (Filesystem 1 2)))
    ∷ accepted (Written 1)
    ∷ accepted (Read (replicate 512 2))
    ∷ accepted (Read (replicate 512 1))
    ∷ accepted (DestroyedFilesystems true (Filesystem 1 1 ∷ []))
    ∷ accepted (Read (replicate 512 1))
    ∷ [])
    × (lines_and_use (after start apart_calls) ≡ (((s, None) ∷ []), 1) ∷ [])
