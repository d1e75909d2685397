-- What making a pool takes before its first device call.
use Rattle.std.specs.Prelude.{◌≡◌, ℕ, false, true, List, [], map, None}
use Rattle.st_units.specs.declared.rows.DevRow.{DevRow}
use Rattle.st_units.specs.declared.rows.Tier.TheVariants.{DataTier}
use Rattle.st_model.specs.declared.call.Call.TheVariants.{CreatePool}
use Rattle.st_model.specs.declared.info.PoolInfo.{PoolInfo}
use Rattle.st_model.specs.declared.info.ShownMode.TheVariants as shows
use Rattle.st_model.specs.Shown.{pool_info}
use Rattle.st_model.specs.steps.CreatePool.{new_pool}
use Rattle.st_rack.specs.Device.{Path}
use Rattle.st_rack.specs.Calls.{Devices, size_in}
use Rattle.st_books.specs.declared.books.Books.{Books}
use Rattle.st_making.specs.First.{AreNew, first_books, first_flex, IsFirst}
use Rattle.st_pool.specs.declared.beginning.Begun.{Begun}
use Rattle.st_pool.specs.declared.beginning.Broken.{Broken}
use Rattle.st_pool.specs.declared.beginning.Making.{Making}
use Rattle.st_pool.specs.Flights.{broken_record}
use Rattle.st_pool.specs.inner.Plans.{AreTwins}

-- the rows of a new pool on these devices
abbrev pub new_rows : Devices → List Path → List DevRow
new_rows devs paths = map (λ path. record { path = path; tier = DataTier; sectors = size_in devs path }) paths

abbrev pub broken_books : ℕ → List ℕ → Books
broken_books serial name = record { rec = broken_record serial name; flex = first_flex serial; generation = 0; tail = record { slot = 0; next = 0 }; has_committed = false }

-- what an info shows of it
abbrev pub broken_info : ℕ → List ℕ → PoolInfo
broken_info serial name = record {
  serial = serial;
  name = name;
  mode = shows.Down;
  devs = [];
  filesystems = [];
  fs_limit = 0;
  overprovisioning = false;
  room = 0;
  allocated = 0;
  used = 0;
  cache = None;
}

-- the pool where a device fails
pub record IsBroken (serial : ℕ) (name : List ℕ) (paths : List Path) (b : Broken) : Type 0 where
  pub books : b.books ≡ broken_books serial name
  pub call : b.call ≡ CreatePool name paths
  pub infos : AreTwins (broken_info serial name) b.infos

-- a new pool on devices with these rows
pub record IsBegun (serial : ℕ) (name : List ℕ) (rows : List DevRow) (b : Begun) : Type 0 where
  pub new : AreNew b.books
  pub books : b.books ≡ first_books serial name rows
  pub first : IsFirst b.books b.first
  pub infos : AreTwins (pool_info (new_pool serial name rows)) b.infos

pub record IsMaking (serial : ℕ) (name : List ℕ) (paths : List Path) (devs : Devices) (m : Making) : Type 0 where
  pub begun : IsBegun serial name (new_rows devs paths) m.begun
  pub broken : IsBroken serial name paths m.broken
