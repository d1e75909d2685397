-- Looking a device up.
use Rattle.std.proofs.Common.{◌≡◌, ◌≢◌, ◌⊎◌, inl, inr, ℕ, true, false, Option, Some, None, is_some, refl, ap, IsNone}
use Rattle.std.specs.Str.{bytes_eq}
use Rattle.std.proofs.lemmas.Slice.Eq.{bytes_eq-Decides}
use Rattle.std.proofs.lemmas.Bool.{cases_Bool}
use Rattle.st_rack.specs.Device.{Path}
use Rattle.st_rack.specs.Calls.{Devices, Has, sectors_of}

some_or_none : (o : Option ℕ) → ((n : ℕ) × (o ≡ Some n)) ⊎ (is_some o ≡ false)
some_or_none (Some n) = inl (n, refl)
some_or_none None = inr refl

-- a device is there or it isn't
pub has_or_not : (devs : Devices) (p : Path) → ((n : ℕ) × Has devs p n) ⊎ IsNone (sectors_of devs p)
has_or_not devs p = some_or_none (sectors_of devs p)

pub has_is_some : (devs : Devices) (p : Path) (n : ℕ) → Has devs p n → is_some (sectors_of devs p) ≡ true
has_is_some devs p n has = ap is_some has

-- a path is the device's, or another
pub same_or_other : (p dev : Path) → (p ≡ dev) ⊎ (p ≢ dev)
same_or_other p dev = elim (cases_Bool (bytes_eq p dev)) [
  | inl here ↦ inl ((bytes_eq-Decides p dev).0 here)
  | inr there ↦ inr (λ e. cc ((bytes_eq-Decides p dev).1 e))
]

pub on_path : (p dev : Path) → p ≡ dev → bytes_eq p dev ≡ true
on_path p dev same = (bytes_eq-Decides p dev).1 same

pub off_path : (p dev : Path) → p ≢ dev → bytes_eq p dev ≡ false
off_path p dev ne = elim (cases_Bool (bytes_eq p dev)) [ inl here ↦ absurd (ne ((bytes_eq-Decides p dev).0 here)) | inr there ↦ there ]
