-- What is read of a device is what it shows.
use Rattle.std.proofs.Common.{◌≡◌, ℕ, zero, suc, ◌+◌, ◌<◌, ◌≤◌, Bool, true, false, cond, nat_lt, List, [], ◌∷◌, ◌++◌, take, map, Option, Some, None, refl, sym, ◌∙◌, ap, subst, arith}
use Rattle.std.specs.List.{slice_get}
use Rattle.std.proofs.lemmas.Bool.Decides.{nat_tests}
use Rattle.st_fields.specs.Slot.{Found}
use Rattle.st_header.specs.Header.{header_of}
use Rattle.st_rack.specs.Story.{Content}
use Rattle.st_rack.specs.Device.{Path, Image, cells}
use Rattle.st_rack.specs.Calls.{Devices, Has}
use Rattle.st_slots.specs.Places.{Lies}
use Rattle.st_slots.specs.Reading.{read_slot}
use Rattle.st_image.specs.Looks.{pool_area, slot_on}
use Rattle.st_looks.specs.declared.look.DevLook.{DevLook}
use Rattle.st_looks.specs.Looked.{looked}

-- the slots for records lie on a device that is large enough
pub area_lies : (devs : Devices) (dev : Path) (n : ℕ) → Has devs dev n → 8192 ≤ n → Lies devs dev pool_area
area_lies devs dev n has large = record { sectors = n; has = has; some = omega arith; on_it = omega (arith, large); small = omega arith }

not_small : (n : ℕ) → 8192 ≤ n → nat_lt n 8192 ≡ false
not_small n large = grind (arith, nat_tests)

slot_of_large : (n place : ℕ) (f : Content) → 8192 ≤ n → read_slot pool_area place f ≡ slot_on n place f
slot_of_large n place f large = sym (ap (λ (b : Bool). cond b None (read_slot pool_area place f)) (not_small n large))

pub is_looked : (c : Image) (dev path : Path) (n : ℕ) (header : Option ℕ) (even odd : Found) → 8192 ≤ n → path ≡ dev → header ≡ header_of n (cells (c dev) 0 8192) → even ≡ read_slot pool_area 0 (c dev) → odd ≡ read_slot pool_area 1 (c dev)
    → record { path = path; sectors = n; header = header; even = even; odd = odd } ≡ looked c (dev, n)
is_looked c dev path n header even odd large own head first second = λ i. record {
  path = own i;
  sectors = n;
  header = head i;
  even = (first ∙ slot_of_large n 0 (c dev) large) i;
  odd = (second ∙ slot_of_large n 1 (c dev) large) i;
}

-- one look more
pub one_look : {X Y : Type 0} (f : X → Y) (xs : List X) (i : ℕ) (x : X) → slice_get xs i ≡ Some x → map f (take i xs) ++ f x ∷ [] ≡ map f (take (suc i) xs)
one_look f [] i x at = absurd (cc)
one_look f (y ∷ ys) zero x at = let same : y ≡ x = cc in ap (λ z. f z ∷ []) (sym same)
one_look f (y ∷ ys) (suc i) x at = ap (λ l. f y ∷ l) (one_look f ys i x at)
