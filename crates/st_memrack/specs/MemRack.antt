-- What a rack in memory with faults stands for.
use Rattle.std.specs.Prelude.{ℕ, ◌+◌, ◌-◌, ◌^◌, min, Bool, List, vec_capacity, vec_len, if◌then◌else◌}
use Rattle.st_rack.specs.Device.{Path, State}
use Rattle.st_rack.specs.Calls.{Devices}
use Rattle.st_shelf.specs.Shelf.{look, rows_of, state_in}
use Rattle.st_shelf.specs.Past.{depth, was}
use Rattle.st_sparse.specs.Sparse.{sparse_path, sparse_size, sparse_state, sparse_reads}
use Rattle.st_sparse.specs.declared.sparse.Sparse.{Sparse}
use Rattle.st_memrack.specs.declared.memrack.MemRack.{MemRack}

abbrev pub mem_list : MemRack → List Sparse
mem_list r = r.devices.items

abbrev pub mem_devs : MemRack → Devices
mem_devs r = rows_of sparse_path sparse_size r.devices.items

abbrev pub mem_moment : MemRack → ℕ
mem_moment r = depth r.past.value

abbrev pub mem_state_at : MemRack → ℕ → State
mem_state_at r = was sparse_path sparse_state r.past.value (state_in sparse_path sparse_state r.devices.items)

abbrev pub mem_faults : MemRack → ℕ
mem_faults r = r.faults

abbrev pub mem_reads : MemRack → Path → ℕ
mem_reads r = look sparse_path sparse_reads 0 r.devices.items

abbrev pub mem_spare : MemRack → ℕ
mem_spare r = vec_capacity r.devices - vec_len r.devices

-- a count that rises by a failure, and stops at its last value
abbrev pub raised : Bool → ℕ → ℕ
raised failed n = if failed then min (n + 1) (2 ^ 64 - 1) else n
