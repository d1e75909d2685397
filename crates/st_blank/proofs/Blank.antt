-- Nothing is found on devices that hold zeros.
use Rattle.std.proofs.Common.{◌≡◌, ℕ, zero, suc, ◌+◌, ◌<◌, Bool, true, false, cond, nat_eq, nat_lt, max, List, [], ◌∷◌, length, replicate, Some, None, unwrap_or, refl, sym, ◌∙◌, ap, arith}
use Rattle.std.proofs.lemmas.Bool.Decides.{nat_tests}
use Rattle.st_limits.specs.declared.TheConstants.{MIN_DEVICE_SECTORS}
use Rattle.st_fields.specs.Slot.{Found}
use Rattle.st_header.specs.Header.{header_of}
use Rattle.st_model.specs.declared.state.EngineState.{EngineState}
use Rattle.st_rack.specs.Story.{Content}
use Rattle.st_rack.specs.Device.{Image, cells}
use Rattle.st_rack.specs.Calls.{Devices}
use Rattle.st_slots.specs.Reading.{read_slot, newer}
use Rattle.st_deltalog.specs.Log.{serial_in}
use Rattle.st_commit.specs.Standing.{keep}
use Rattle.st_image.specs.Looks.{pool_area, slot_on}
use Rattle.st_image.specs.Bears.{newest_on, newest_over}
use Rattle.st_image.specs.Stands.{Nothing}
use Rattle.st_image.specs.Rack.{RackStands, IsForeign, greatest_on, greatest_over, slot_serial}
use Rattle.st_image.proofs.Engine.{rack_once, not_foreign}
use Rattle.st_clearing.specs.Clearing.{zeros}
use Rattle.st_clearing.proofs.Emptied.{copy_given, long, no_header, none_newest}
use Rattle.st_making.proofs.Blank.{blank_free}
use Rattle.st_blank.specs.Blank.{AreBlank, unused}

-- nothing but zeros
abbrev empty : Content
empty i = 0

is_empty : (f : Content) → ((i : ℕ) → f i ≡ 0) → f ≡ empty
is_empty f zero_at = λ j i. zero_at i j

cells_empty : (at n : ℕ) → cells empty at n ≡ replicate n 0
cells_empty at zero = refl
cells_empty at (suc n) = ap (λ (l : List ℕ). 0 ∷ l) (cells_empty (at + 1) n)

given : (at : ℕ) → cells empty at (length zeros) ≡ zeros
given at = ap (cells empty at) long ∙ cells_empty at 512

empty_header : (n : ℕ) → header_of n (cells empty 0 8192) ≡ None
empty_header n = no_header n empty (copy_given n 512 empty (given 512)) (copy_given n 4608 empty (given 4608))

same_serial : (n : ℕ) → nat_eq n n ≡ true
same_serial n = grind (arith, nat_tests)

-- what no serial keeps isn't there
kept_by_none : (x : Found) → ((p : ℕ) → keep p x ≡ None) → x ≡ None
kept_by_none None none = refl
kept_by_none (Some x) none = sym (ap (λ (b : Bool). cond b (Some x) None) (same_serial (serial_in x.1))) ∙ none (serial_in x.1)

empty_slot : (r : ℕ) → r < 2 → read_slot pool_area r empty ≡ None
empty_slot r lt = kept_by_none (read_slot pool_area r empty) (λ p. (blank_free p 0).no_slot r lt)

either : (b : Bool) → cond {A = Found} b None None ≡ None
either true = refl
either false = refl

empty_serial : (n r : ℕ) → r < 2 → slot_serial (slot_on n r empty) ≡ 0
empty_serial n r lt = ap slot_serial (ap (λ (x : Found). cond (nat_lt n MIN_DEVICE_SECTORS) None x) (empty_slot r lt) ∙ either (nat_lt n MIN_DEVICE_SECTORS))

empty_greatest : (n : ℕ) → greatest_on n empty ≡ 0
empty_greatest n = λ i. max (unwrap_or (empty_header n i) 0) (max (empty_serial n 0 (omega arith) i) (empty_serial n 1 (omega arith) i))

pub none_greatest : (devs : Devices) (c : Image) → AreBlank devs c → greatest_over devs c ≡ 0
none_greatest [] c blank = refl
none_greatest (d ∷ ds) c blank =
    let own = ap (greatest_on d.1) (is_empty (c d.0) blank.0) ∙ empty_greatest d.1 in
    λ i. max (own i) (none_greatest ds c blank.1 i)

pub none_found : (p : ℕ) (devs : Devices) (c : Image) → AreBlank devs c → newest_over p devs c ≡ None
none_found p [] c blank = refl
none_found p (d ∷ ds) c blank =
    let own = ap (newest_on p d.1) (is_empty (c d.0) blank.0) ∙ none_newest p d.1 empty (empty_header d.1) in
    λ i. newer (own i) (none_found p ds c blank.1 i)

pub blank_stands : (devs : Devices) (c : Image) → AreBlank devs c → RackStands devs c (unused devs)
blank_stands devs c blank = record {
  each = λ p is. Nothing (none_found p devs c blank);
  serials = tt;
  names = tt;
  few = omega arith;
  devices = refl;
  next = ap (λ (n : ℕ). n + 1) (sym (none_greatest devs c blank));
}

pub blank_stands_once : (devs : Devices) (c : Image) (s : EngineState) → AreBlank devs c → RackStands devs c s → s ≡ unused devs
blank_stands_once devs c s blank stands = rack_once devs c s (unused devs) stands (blank_stands devs c blank)

pub blank_not_foreign : (devs : Devices) (c : Image) (p : ℕ) → AreBlank devs c → IsForeign devs c p → ⊥
blank_not_foreign devs c p blank foreign = not_foreign devs c (unused devs) (blank_stands devs c blank) p foreign
