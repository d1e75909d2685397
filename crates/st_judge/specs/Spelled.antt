-- Whether candidates are records.
use Rattle.std.specs.Prelude.{◌≡◌, ℕ, List, Option, Some, None, slice_get}
use Rattle.st_fields.specs.Slot.{Found}
use Rattle.st_poolrec.specs.declared.record.PoolRec.{PoolRec}
use Rattle.st_image.specs.Bears.{SpellsPool}
use Rattle.st_looks.specs.declared.look.DevLook.{DevLook}
use Rattle.st_judge.specs.Candidates.{even_of, odd_of}

abbrev pub HasRecord : List ℕ → Type 0
HasRecord body = (rec : PoolRec) × SpellsPool body rec

-- the record that the bytes spell, or that they spell none
abbrev pub IsReadAs : List ℕ → Option PoolRec → Type 0
IsReadAs body None = (rec : PoolRec) → SpellsPool body rec → ⊥
IsReadAs body (Some rec) = SpellsPool body rec

-- nothing, or the spelling of a record
abbrev pub IsSpelled : Found → Type 0
IsSpelled None = Unit {0}
IsSpelled (Some x) = HasRecord x.1

abbrev pub HasSpelled : ℕ → DevLook → Type 0
HasSpelled p look = IsSpelled (even_of p look) × IsSpelled (odd_of p look)

abbrev pub AreSpelled : ℕ → List DevLook → Type 0
AreSpelled p looks = (k : ℕ) (look : DevLook) → slice_get looks k ≡ Some look → HasSpelled p look
