-- the JSON of a line, by whether the line is text
use Rattle.std.proofs.Common.{◌≡◌, ℕ, List, Bool, true, false, Err, refl}
use Rattle.std.specs.Str.{is_utf8, IsUtf8}
use Rattle.std.proofs.lemmas.Str.{IsUtf8-from_is_utf8, is_utf8-from_IsUtf8}
use Rattle.serde_json.specs.Read.{read}
use Rattle.st_units.specs.declared.cause.Member.TheVariants.{Line}
use Rattle.st_calls.specs.declared.fault.LineFault.TheVariants.{BadCall}
use Rattle.st_calls.specs.Form.{json_of}
use Rattle.st_calls.specs.Members.{or_bad}

pub json_of-text : (bytes : List ℕ) → IsUtf8 bytes → json_of bytes ≡ or_bad Line (read bytes)
unfolding json_of
json_of-text bytes text = rw (is_utf8-from_IsUtf8 bytes text) refl

not_true : (b : Bool) → (b ≡ true → ⊥) → b ≡ false
not_true true differs = absurd (differs refl)
not_true false differs = refl

pub json_of-not_text : (bytes : List ℕ) → (IsUtf8 bytes → ⊥) → json_of bytes ≡ Err (BadCall Line)
unfolding json_of
json_of-not_text bytes none = rw (not_true (is_utf8 bytes) (λ e. none (IsUtf8-from_is_utf8 bytes e))) refl
