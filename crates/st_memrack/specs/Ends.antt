-- How a call of a sparse device ends.
use Rattle.std.specs.Prelude.{◌≡◌, ℕ, ◌+◌, ◌*◌, ◌/◌, ◌^◌, ◌-◌, min, true, false, List, [], ◌∷◌, ◌++◌, length, Result, is_err, OnOk, OnErr, IfErr, Some}
use Rattle.st_rack.specs.Device.{cells, Touched, Written, Synced, Cut}
use Rattle.st_sparse.specs.Arms.{fails, Met}
use Rattle.st_sparse.specs.Since.{content, Adds}
use Rattle.st_sparse.specs.Sparse.{sparse_path, sparse_size, sparse_state, sparse_reads, settled}
use Rattle.st_sparse.specs.declared.arms.Arm.{Arm}
use Rattle.st_sparse.specs.declared.kinds.Kind.TheVariants.{Read, Write, Sync}
use Rattle.st_sparse.specs.declared.kinds.Pick.{Pick}
use Rattle.st_sparse.specs.declared.kinds.Pick.TheVariants.{New}
use Rattle.st_sparse.specs.declared.sparse.Sparse.{Sparse}
use Rattle.st_sparse.specs.declared.sparse.WriteFault.{WriteFault}

-- A read fails just where it is to fail. It is counted, and changes nothing that is held.
pub record ReadEnds {T E : Type 0} (sector : ℕ) (before after : List ℕ) (result : Result T E) (old new : Sparse) : Type 0 where
  pub fault : is_err result ≡ fails Read sector (length before / 512) old.arms
  pub arms : Met Read sector (length before / 512) old.arms new.arms
  pub given : OnOk result (after ≡ cells (sparse_state old).holds (512 * sector) (length before))
  pub counted : sparse_reads new ≡ min (sparse_reads old + 1) (2 ^ 64 - 1)
  pub state : sparse_state new ≡ sparse_state old
  pub writes : new.since.items ≡ old.since.items
  pub base : settled new ≡ settled old
  pub path : sparse_path new ≡ sparse_path old
  pub size : sparse_size new ≡ sparse_size old

-- A write fails where it is to fail, and is then taken as it was picked; besides where memory is short, and then it isn't taken.
pub record WriteEnds {T : Type 0} (sector : ℕ) (bytes : List ℕ) (pick : Pick) (result : Result T WriteFault) (old new : Sparse) : Type 0 where
  pub done : OnOk result ((fails Write sector (length bytes / 512) old.arms ≡ false) × Adds sector bytes New old.since.items new.since.items)
  pub failed : IfErr result (λ e. e.short ≡ false → (fails Write sector (length bytes / 512) old.arms ≡ true) × Adds sector bytes pick old.since.items new.since.items)
  pub short : IfErr result (λ e. e.short ≡ true → new.since.items ≡ old.since.items)
  pub arms : Met Write sector (length bytes / 512) old.arms new.arms
  pub base : settled new ≡ settled old
  pub given : OnOk result (Written (512 * sector) bytes (sparse_state new))
  pub touched : Touched (512 * sector) bytes (sparse_state old) (sparse_state new)
  pub reads : sparse_reads new ≡ sparse_reads old
  pub path : sparse_path new ≡ sparse_path old
  pub size : sparse_size new ≡ sparse_size old

-- A sync fails just where it is to fail, and then changes nothing; otherwise what is held is settled.
pub record SyncEnds {T E : Type 0} (result : Result T E) (old new : Sparse) : Type 0 where
  pub fault : is_err result ≡ fails Sync 0 (sparse_size old) old.arms
  pub arms : Met Sync 0 (sparse_size old) old.arms new.arms
  pub synced : OnOk result (Synced (sparse_state old) (sparse_state new))
  pub unsynced : OnErr result (sparse_state new ≡ sparse_state old)
  pub none_left : OnOk result (new.since.items ≡ [])
  pub base : OnOk result (settled new ≡ (sparse_state old).holds)
  pub same_writes : OnErr result (new.since.items ≡ old.since.items)
  pub same_base : OnErr result (settled new ≡ settled old)
  pub reads : sparse_reads new ≡ sparse_reads old
  pub path : sparse_path new ≡ sparse_path old
  pub size : sparse_size new ≡ sparse_size old

-- The device has one more arm, or memory was short; nothing else changes.
pub record ArmEnds {T E : Type 0} (arm : Arm) (result : Result T E) (old new : Sparse) : Type 0 where
  pub armed : OnOk result (new.arms.list.items ≡ old.arms.list.items ++ arm ∷ [])
  pub refused : OnErr result (new.arms.list.items ≡ old.arms.list.items)
  pub works : new.arms.stopped ≡ old.arms.stopped
  pub state : sparse_state new ≡ sparse_state old
  pub writes : new.since.items ≡ old.since.items
  pub base : settled new ≡ settled old
  pub reads : sparse_reads new ≡ sparse_reads old
  pub path : sparse_path new ≡ sparse_path old
  pub size : sparse_size new ≡ sparse_size old

-- A power cut leaves what is picked of each write since the last sync, and the device works.
pub record CycleEnds (pick : Pick) (old new : Sparse) : Type 0 where
  pub picked : (sparse_state new).holds ≡ content (Some pick) old.since.items (settled old)
  pub cut : Cut (sparse_state old) (sparse_state new)
  pub none_left : new.since.items ≡ []
  pub base : settled new ≡ (sparse_state new).holds
  pub works : new.arms.stopped ≡ false
  pub arms : new.arms.list.items ≡ old.arms.list.items
  pub reads : sparse_reads new ≡ sparse_reads old
  pub path : sparse_path new ≡ sparse_path old
  pub size : sparse_size new ≡ sparse_size old
