-- The writes since the last sync, the oldest first, and what of them a device holds.
use Rattle.std.specs.Prelude.{◌≡◌, ℕ, ◌+◌, ◌*◌, ◌/◌, Bool, false, ◌||◌, List, [], ◌∷◌, ◌++◌, length, take, Option, Some, None}
use Rattle.st_rack.specs.Story.{Content, put_in, within}
use Rattle.st_sparse.specs.declared.kinds.Pick.{Pick}
use Rattle.st_sparse.specs.declared.kinds.Pick.TheVariants.{Old, New, Half}
use Rattle.st_sparse.specs.declared.torn.Torn.{Torn}

-- what of a write reaches the device: nothing, all, or the first half of its sectors, rounded up
abbrev pub reached : Pick → List ℕ → List ℕ
reached Old bytes = []
reached New bytes = bytes
reached Half bytes = take (512 * ((length bytes / 512 + 1) / 2)) bytes

-- as it was picked when it was written, or as it is picked now
abbrev pub taken : Option Pick → Torn → List ℕ
taken None w = reached w.took w.bytes.items
taken (Some pick) w = reached pick w.bytes.items

-- what was settled last, with what of each write reached the device
abbrev pub content : Option Pick → List Torn → Content → Content
content pick [] f = f
content pick (w ∷ since) f = content pick since (put_in (512 * w.sector) (taken pick w) f)

-- one of the writes was meant to touch the byte
abbrev pub is_torn : List Torn → ℕ → Bool
is_torn [] i = false
is_torn (w ∷ since) i = within (512 * w.sector) (length w.bytes.items) i || is_torn since i

-- one more write, of which so much was taken
pub record Adds (sector : ℕ) (bytes : List ℕ) (took : Pick) (old new : List Torn) : Type 0 where
  pub write : Torn
  pub last : new ≡ old ++ write ∷ []
  pub place : write.sector ≡ sector
  pub text : write.bytes.items ≡ bytes
  pub part : write.took ≡ took
