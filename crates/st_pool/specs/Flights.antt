-- The calls that a pool may be down with, and its books then.
use Rattle.std.specs.Prelude.{◌≡◌, ℕ, true, false, List, [], Option, Some, None}
use Rattle.st_poolrec.specs.declared.record.PoolRec.{PoolRec}
use Rattle.st_model.specs.declared.call.Call.{Call}
use Rattle.st_model.specs.declared.call.Call.TheVariants.{CreatePool, DestroyPool, RenamePool}
use Rattle.st_rack.specs.Device.{Path}
use Rattle.st_making.specs.First.{first_flex}
use Rattle.st_books.specs.declared.books.Books.{Books}

-- a pool of which no commit was made: its serial, its name, and nothing else
abbrev pub broken_record : ℕ → List ℕ → PoolRec
broken_record serial name = record {
  serial = serial;
  gone = false;
  overprovisioning = false;
  version2 = true;
  fs_limit = 0;
  name = name;
  devs = [];
  segments = [];
}

-- The call takes down the pool of these books, on these devices.
abbrev pub IsPoolCall : Books → List Path → Call → Type 0
IsPoolCall b list (CreatePool name devices) = (b.rec ≡ broken_record b.rec.serial name) × (b.flex ≡ first_flex b.rec.serial) × (b.generation ≡ 0) × (devices ≡ list)
IsPoolCall b list (RenamePool name new) = name ≡ b.rec.name
IsPoolCall b list (DestroyPool name) = name ≡ b.rec.name
IsPoolCall b list _ = ⊥

abbrev pub Flies : Books → List Path → Option Call → Type 0
Flies b list None = Unit {0}
Flies b list (Some call) = IsPoolCall b list call
