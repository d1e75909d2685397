-- the filesystems of a pool
use Rattle.std.specs.Prelude.{◌≡◌, ℕ, List, [], ◌∷◌, Bool, true, false, map, Option, Some, None}
use Rattle.st_units.specs.declared.cause.Cause.TheVariants.{BadSize, MergeConflict, NameInUse, NoOrigin, OverProvision}
use Rattle.st_units.specs.declared.rows.FsSpec.{FsSpec}
use Rattle.st_model.specs.declared.call.Call.{Call}
use Rattle.st_model.specs.declared.call.Call.TheVariants.{CreateFilesystems, CreatePool, DestroyFilesystems, SetMerge, SetOverprovisioning, SnapshotFilesystem}
use Rattle.st_model.specs.declared.reply.Given.TheVariants.{Changed, Created, CreatedFilesystems, DestroyedFilesystems, Done}
use Rattle.st_model.specs.declared.reply.Identity.TheVariants.{Filesystem}
use Rattle.st_model.specs.declared.reply.NewFs.{NewFs}
use Rattle.st_model.specs.declared.reply.Reply.{Reply}
use Rattle.st_model.specs.declared.state.EngineState.{EngineState}
use Rattle.st_model.specs.declared.state.FsState.{FsState}
use Rattle.st_model.specs.declared.state.PoolState.{PoolState}
use Rattle.st_model.specs.Answer.{accepted, refused}
use Rattle.st_model.specs.Look.{Text}
use Rattle.test_model.specs.Scripts.{after, device, on_rack, replies, sim}

-- the pool p on one device of 65,536 sectors, and names of filesystems
abbrev pub p : Text
p = 112 ∷ []

abbrev pub a : Text
a = 97 ∷ []

abbrev pub b : Text
b = 98 ∷ []

abbrev pub s : Text
s = 115 ∷ []

abbrev t : Text
t = 116 ∷ []

abbrev u : Text
u = 117 ∷ []

abbrev pub start : EngineState
start = on_rack (device 0 65536 ∷ [])

abbrev pub made : Call
made = CreatePool p (sim 0 ∷ [])

abbrev pub is_made : Reply
is_made = accepted (Created true (Some (1, sim 0 ∷ [])))

abbrev pub of_default : Text → FsSpec
of_default name = record { name = name; size = None; limit = None }

abbrev of_size : Text → ℕ → FsSpec
of_size name size = record { name = name; size = Some size; limit = None }

abbrev pub created : Text → ℕ → NewFs
created name serial = record { name = name; identity = Filesystem 1 serial }

-- of each filesystem its name and its origin
abbrev pub lines : EngineState → List (List (Text × Option ℕ))
lines s = map (λ (pool : PoolState). map (λ (fs : FsState). (fs.row.name, fs.row.origin)) pool.filesystems) s.pools

abbrev created_calls : List Call
created_calls =
    made
    ∷ CreateFilesystems p (of_default b ∷ [])
    ∷ CreateFilesystems p (of_default a ∷ of_default a ∷ of_default b ∷ [])
    ∷ CreateFilesystems p (of_default a ∷ of_default a ∷ of_default b ∷ [])
    ∷ CreateFilesystems p (of_size s 128 ∷ of_size t 100 ∷ [])
    ∷ []

abbrev pub CreatedOnce : Type 0
CreatedOnce =
    (replies start created_calls
    ≡ is_made
    ∷ accepted (CreatedFilesystems true (created b 1 ∷ []))
    ∷ accepted (CreatedFilesystems true (created a 2 ∷ []))
    ∷ accepted (CreatedFilesystems false [])
    ∷ refused (BadSize t)
    ∷ [])
    × (lines (after start created_calls) ≡ ((b, None) ∷ (a, None) ∷ []) ∷ [])

abbrev room_calls : List Call
room_calls = made ∷ SetOverprovisioning p false ∷ CreateFilesystems p (of_size a 61952 ∷ []) ∷ CreateFilesystems p (of_size b 128 ∷ []) ∷ []

abbrev pub WithinRoom : Type 0
WithinRoom = replies start room_calls ≡ is_made ∷ accepted (Done true) ∷ accepted (CreatedFilesystems true (created a 1 ∷ [])) ∷ refused (OverProvision 485 484) ∷ []

-- a snapshot of a, one of that, and another of a; the first goes, and then a, which clears a mark
abbrev origin_calls : List Call
origin_calls =
    made
    ∷ CreateFilesystems p (of_default a ∷ [])
    ∷ SnapshotFilesystem p a s
    ∷ SnapshotFilesystem p a s
    ∷ SnapshotFilesystem p s t
    ∷ SnapshotFilesystem p a t
    ∷ DestroyFilesystems p (s ∷ s ∷ b ∷ [])
    ∷ []

abbrev pub HandedOn : Type 0
HandedOn =
    (replies start origin_calls
    ≡ is_made
    ∷ accepted (CreatedFilesystems true (created a 1 ∷ []))
    ∷ accepted (Changed true (Some (Filesystem 1 2)))
    ∷ accepted (Changed false None)
    ∷ accepted (Changed true (Some (Filesystem 1 3)))
    ∷ refused NameInUse
    ∷ accepted (DestroyedFilesystems true (Filesystem 1 2 ∷ []))
    ∷ [])
    × ((lines (after start origin_calls) ≡ ((a, None) ∷ (t, Some 1) ∷ []) ∷ [])
    × (lines (after (after start origin_calls) (DestroyFilesystems p (a ∷ []) ∷ [])) ≡ ((t, None) ∷ []) ∷ []))

-- marks: no origin; marked; a second of the same origin; one that has the marked one as its origin; the origin goes
abbrev mark_calls : List Call
mark_calls =
    made
    ∷ CreateFilesystems p (of_default a ∷ [])
    ∷ SnapshotFilesystem p a s
    ∷ SnapshotFilesystem p a t
    ∷ SnapshotFilesystem p s u
    ∷ SetMerge p a true
    ∷ SetMerge p s true
    ∷ SetMerge p t true
    ∷ SetMerge p u true
    ∷ DestroyFilesystems p (a ∷ [])
    ∷ []

abbrev marks : EngineState → List (List (Text × (Option ℕ × Bool)))
marks s = map (λ (pool : PoolState). map (λ (fs : FsState). (fs.row.name, (fs.row.origin, fs.row.merge))) pool.filesystems) s.pools

abbrev pub MarksCleared : Type 0
MarksCleared =
    (replies start mark_calls
    ≡ is_made
    ∷ accepted (CreatedFilesystems true (created a 1 ∷ []))
    ∷ accepted (Changed true (Some (Filesystem 1 2)))
    ∷ accepted (Changed true (Some (Filesystem 1 3)))
    ∷ accepted (Changed true (Some (Filesystem 1 4)))
    ∷ refused NoOrigin
    ∷ accepted (Done true)
    ∷ refused (MergeConflict s)
    ∷ refused (MergeConflict s)
    ∷ accepted (DestroyedFilesystems true (Filesystem 1 1 ∷ []))
    ∷ [])
    × (marks (after start mark_calls) ≡ ((s, (None, false)) ∷ (t, (None, false)) ∷ (u, (Some 2, false)) ∷ []) ∷ [])
