-- What each call of a rack in memory with faults does, whole: the meaning of a rack is its list of devices, its pick, its counts and
-- its record.
use Rattle.std.specs.Prelude.{◌≡◌, true, false, ℕ, ◌+◌, ◌-◌, ◌/◌, ◌^◌, min, not, List, [], filter, length, Result, OnOk, IfErr, is_err}
use Rattle.std.specs.List.{AllZip}
use Rattle.st_rack.specs.Device.{Path}
use Rattle.st_rack.specs.Calls.{names}
use Rattle.st_shelf.specs.Shelf.{join_in}
use Rattle.st_sparse.specs.Sparse.{sparse_path}
use Rattle.st_sparse.specs.declared.arms.Arm.{Arm}
use Rattle.st_sparse.specs.declared.kinds.Kind.TheVariants.{Read, Write, Sync}
use Rattle.st_sparse.specs.declared.sparse.WriteFault.{WriteFault}
use Rattle.st_memrack.specs.declared.memrack.MemRack.{MemRack}
use Rattle.st_memrack.specs.MemRack.{mem_list, raised}
use Rattle.st_memrack.specs.One.{OneStep}
use Rattle.st_memrack.specs.Ends.{ArmEnds, ReadEnds, WriteEnds, SyncEnds, CycleEnds}
use Rattle.st_memrack.specs.Record.{Noted}

-- counts and pick are as they were
pub record SameRest (old new : MemRack) : Type 0 where
  pub picks : new.pick ≡ old.pick
  pub fault_count : new.faults ≡ old.faults
  pub short_count : new.short ≡ old.short
  pub recorded : new.calls ≡ old.calls

-- an arm for one device
pub record ArmsOn {T E : Type 0} (dev : Path) (arm : Arm) (result : Result T E) (old new : MemRack) : Type 0 where
  pub device : OneStep sparse_path (ArmEnds arm result) dev (mem_list old) (mem_list new)
  pub rest : SameRest old new

pub record ReadsOn {T E : Type 0} (dev : Path) (sector : ℕ) (before after : List ℕ) (result : Result T E) (old new : MemRack) : Type 0 where
  pub device : OneStep sparse_path (ReadEnds sector before after result) dev (mem_list old) (mem_list new)
  pub fault_count : new.faults ≡ raised (is_err result) old.faults
  pub short_count : new.short ≡ old.short
  pub picks : new.pick ≡ old.pick
  pub recorded : Noted dev Read sector (length before / 512) (is_err result) old.calls new.calls

-- A write fails by an arm, or since memory is short, and the latter is counted apart.
pub record WritesOn {T E : Type 0} (dev : Path) (sector : ℕ) (bytes : List ℕ) (result : Result T E) (old new : MemRack) : Type 0 where
  pub cause : Result (Unit {0}) WriteFault
  pub device : OneStep sparse_path (WriteEnds sector bytes old.pick cause) dev (mem_list old) (mem_list new)
  pub failed : is_err result ≡ is_err cause
  pub fault_count : new.faults ≡ raised (is_err result) old.faults
  pub short_same : OnOk cause (new.short ≡ old.short)
  pub short_count : IfErr cause (λ e. new.short ≡ raised e.short old.short)
  pub picks : new.pick ≡ old.pick
  pub recorded : Noted dev Write sector (length bytes / 512) (is_err result) old.calls new.calls

pub record SyncsOn {T E : Type 0} (dev : Path) (result : Result T E) (old new : MemRack) : Type 0 where
  pub device : OneStep sparse_path (SyncEnds result) dev (mem_list old) (mem_list new)
  pub fault_count : new.faults ≡ raised (is_err result) old.faults
  pub short_count : new.short ≡ old.short
  pub picks : new.pick ≡ old.pick
  pub recorded : Noted dev Sync 0 0 (is_err result) old.calls new.calls

-- Each device goes with its arms, its writes since the last sync and its count of reads.
pub record SplitsOff (list : List Path) (old rest part : MemRack) : Type 0 where
  pub stay : mem_list rest ≡ filter (λ d. not (names list (sparse_path d))) (mem_list old)
  pub go : mem_list part ≡ filter (λ d. names list (sparse_path d)) (mem_list old)
  pub same : SameRest old rest
  pub picks : part.pick ≡ old.pick
  pub short_count : part.short ≡ 0
  pub recording : part.calls.on ≡ old.calls.on
  pub recorded : part.calls.calls.items ≡ []
  pub missed : part.calls.missed ≡ 0

pub record Absorbs (old other new : MemRack) : Type 0 where
  pub devices : mem_list new ≡ join_in sparse_path (mem_list old) (mem_list other)
  pub picks : new.pick ≡ old.pick
  pub short_count : new.short ≡ min (old.short + other.short) (2 ^ 64 - 1)
  pub recorded : new.calls.calls.items ≡ old.calls.calls.items
  pub recording : new.calls.on ≡ old.calls.on
  pub none_missed : old.calls.on ≡ false → new.calls.missed ≡ old.calls.missed
  pub missed : old.calls.on ≡ true → new.calls.missed ≡ min (old.calls.missed + min (length other.calls.calls.items + other.calls.missed) (2 ^ 64 - 1)) (2 ^ 64 - 1)

pub record Cycles (old new : MemRack) : Type 0 where
  pub devices : AllZip (CycleEnds old.pick) (mem_list old) (mem_list new)
  pub rest : SameRest old new
