-- A rack on which nothing was done yet.
use Rattle.std.specs.Prelude.{◌≡◌, ℕ, ◌+◌, false, List, [], map, length, drop}
use Rattle.std.specs.List.{IsDistinct}
use Rattle.std.specs.Str.{bytes_eq}
use Rattle.st_rack.specs.Device.{Path, DevState, State, Synced}
use Rattle.st_rack.specs.Calls.{Devices, Rises, sectors_of, path_in}
use Rattle.st_shelf.specs.Shelf.{look, rows_of, state_in, no_device}
use Rattle.st_sparse.specs.declared.sparse.Sparse.{Sparse}
use Rattle.st_memrack.specs.Slab.{slab_path, slab_size, slab_state, slab_reads}
use Rattle.st_memrack.specs.declared.slab.Slab.{Slab}

-- no two devices have one path
abbrev pub AreDistinct : Devices → Type 0
AreDistinct devs = IsDistinct bytes_eq (map path_in devs)

-- It has these devices, all blank and never read.
pub record IsBlank {D : Type 0} (devs : D → Devices) (moment : D → ℕ) (state_at : D → ℕ → State) (reads : D → Path → ℕ) (given : Devices) (rack : D) : Type 0 where
  pub devices : (p : Path) → sectors_of (devs rack) p ≡ sectors_of given p
  pub clock : moment rack ≡ 0
  pub zeros : (p : Path) → state_at rack 0 p ≡ no_device
  pub count : length (devs rack) ≡ length given
  pub unread : (p : Path) → reads rack p ≡ 0

-- these are the given devices from the k-th on, blank and in order
pub record Filled {D : Type 0} (path : D → Path) (size : D → ℕ) (state : D → DevState) (reads_of : D → ℕ) (given : Devices) (k : ℕ) (list : List D) : Type 0 where
  pub devices : (p : Path) → sectors_of (rows_of path size list) p ≡ sectors_of (drop k given) p
  pub rises : Rises (rows_of path size list)
  pub zeros : (p : Path) → state_in path state list p ≡ no_device
  pub count : length list + k ≡ length given
  pub unread : (p : Path) → look path reads_of 0 list p ≡ 0

-- a device on which nothing is armed, stopped or written
pub record IsUnarmed (d : Sparse) : Type 0 where
  pub no_arms : d.arms.list.items ≡ []
  pub works : d.arms.stopped ≡ false
  pub unwritten : d.since.items ≡ []

-- a slab and what a sync leaves of it
pub record IsSettled (old new : Slab) : Type 0 where
  pub synced : Synced (slab_state old) (slab_state new)
  pub path : slab_path new ≡ slab_path old
  pub size : slab_size new ≡ slab_size old
  pub reads : slab_reads new ≡ slab_reads old
