-- The rack in memory with faults, as its past and its list, and what its calls do to the states.
use Rattle.std.proofs.Common.{inl, inr, List, Result, Ok, Err}
use Rattle.st_rack.specs.Device.{Settling}
use Rattle.st_shelf.specs.declared.past.Past.{Past}
use Rattle.st_sparse.specs.Sparse.{sparse_state}
use Rattle.st_sparse.specs.declared.sparse.Sparse.{Sparse}
use Rattle.st_memrack.specs.Ends.{SyncEnds}
use Rattle.st_memrack.specs.declared.memrack.MemRack.{MemRack}

abbrev pub past_of : MemRack → Past Sparse
past_of r = r.past.value

abbrev pub list_of : MemRack → List Sparse
list_of r = r.devices.items

-- a sync settles a device or leaves it as it is
pub sync_settles : {T E : Type 0} (result : Result T E) (a b : Sparse) → SyncEnds result a b → Settling (sparse_state a) (sparse_state b)
sync_settles (Ok x) a b ends = record { same = ends.synced.same; told = inr ends.synced.told }
sync_settles (Err e) a b ends = record { same = λ i. (ends.unsynced i).holds; told = inl (λ i. (ends.unsynced i).story) }
