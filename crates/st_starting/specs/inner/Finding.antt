-- What a start reads before it writes.
use Rattle.std.specs.Prelude.{◌≡◌, ℕ, ◌+◌, ◌%◌, Bool, true, false, ◌&&◌, nat_eq, List, Option, Some, None, length, slice_get, if◌then◌else◌}
use Rattle.st_fields.specs.Slot.{Found, padded}
use Rattle.st_poolrec.specs.declared.record.PoolRec.{PoolRec}
use Rattle.st_poolrec.specs.Record as pools
use Rattle.st_flexat.specs.FlexAt.{FlexFound}
use Rattle.st_rack.specs.Device.{Path, Image}
use Rattle.st_rack.specs.Calls.{Devices}
use Rattle.st_deltalog.specs.Log.{serial_in}
use Rattle.st_looks.specs.declared.look.DevLook.{DevLook}
use Rattle.st_image.specs.Looks.{flex_area, has_header, is_serial}
use Rattle.st_image.specs.Bears.{Bears, first_of}
use Rattle.st_books.specs.declared.books.Books.{Books}
use Rattle.st_books.specs.Ready.{rows_of}
use Rattle.st_starting.specs.declared.finding.Finding.{Finding}
use Rattle.st_starting.specs.declared.finding.Newest.{Newest}
use Rattle.st_starting.specs.declared.outcome.Start.{Start}
use Rattle.st_starting.specs.declared.outcome.Start.TheVariants.{Ready, Nothing, Gone, Broken}
use Rattle.st_starting.specs.Found.{IsStart, sized}

-- The newest record on the rack is this one, its rows are just these devices, and each bears its header.
pub record NewestOn (p : ℕ) (rack : Devices) (list : List Path) (c : Image) (g : ℕ) (rec : PoolRec) : Type 0 where
  pub bears : Bears p rack g rec c
  pub on : rows_of rec ≡ sized rack list
  pub headed : (k : ℕ) (d : Path × ℕ) → slice_get (sized rack list) k ≡ Some d → has_header p d.1 (c d.0) ≡ true

-- its text, with a buffer of the length that writing it takes
pub record IsNewest (p : ℕ) (rack : Devices) (list : List Path) (c : Image) (n : Newest) : Type 0 where
  pub rec : PoolRec
  pub on : NewestOn p rack list c n.generation rec
  pub text : n.text ≡ pools.record_text rec
  pub work : length n.work.items ≡ padded (64 + length n.text)

-- a text is written where a record was found
abbrev pub Writes : Start → Option Newest → Type 0
Writes (Ready b) None = ⊥
Writes (Ready b) (Some n) = n.generation ≡ b.generation
Writes Nothing None = Unit {0}
Writes Nothing (Some n) = ⊥
Writes (Gone g) None = ⊥
Writes (Gone g) (Some n) = n.generation ≡ g
Writes Broken None = Unit {0}
Writes Broken (Some n) = ⊥

abbrev pub IsNewestOr : ℕ → Devices → List Path → Image → Option Newest → Type 0
IsNewestOr p rack list c None = Unit {0}
IsNewestOr p rack list c (Some n) = IsNewest p rack list c n

-- books to go on from: the place of the next delta is behind the log
pub record IsFirst (p : ℕ) (c : Image) (b : Books) : Type 0 where
  pub tail : FlexFound flex_area p b.generation (c (first_of b.rec)) (b.flex, b.tail)
  pub committed : b.has_committed ≡ false

pub record IsFinding (p : ℕ) (rack : Devices) (list : List Path) (c : Image) (f : Finding) : Type 0 where
  pub start : IsStart p rack list c f.start
  pub books : (b : Books) → f.start ≡ Ready b → IsFirst p c b
  pub writes : Writes f.start f.newest
  pub newest : IsNewestOr p rack list c f.newest

-- the slot holds no record of another pool
abbrev pub is_own : ℕ → Found → Bool
is_own p None = true
is_own p (Some x) = nat_eq (serial_in x.1) p

-- the device bears the pool's header, and its slot beside that of a generation holds no other pool's record
abbrev pub is_of : ℕ → ℕ → DevLook → Bool
is_of p g look = is_serial p look.header && is_own p (if nat_eq (g % 2) 0 then look.odd else look.even)
