-- The newest candidate of looks is that of the devices.
use Rattle.std.proofs.Common.{◌≡◌, ◌⊎◌, inl, inr, ℕ, zero, suc, ◌+◌, ◌^◌, ◌<◌, ◌≤◌, Bool, true, false, ◌&&◌, cond, leb, eqb, nat_eq, nat_lt, List, [], ◌∷◌, ◌++◌, length, take, map, Option, Some, None, refl, sym, ◌∙◌, ap, subst, arith}
use Rattle.std.specs.List.{slice_get}
use Rattle.std.proofs.lemmas.Bool.{cases_Bool}
use Rattle.std.proofs.lemmas.Bool.Decides.{nat_tests}
use Rattle.std.proofs.lemmas.List.{length-append}
use Rattle.st_fields.specs.Slot.{Found}
use Rattle.st_fields.specs.Fields.{spelling, number}
use Rattle.st_fields.proofs.Spellings.{number-spelling}
use Rattle.st_header.specs.Header.{copy_of, sector_of, first_of}
use Rattle.st_slots.specs.Reading.{newer, read_slot}
use Rattle.st_commit.specs.Standing.{keep}
use Rattle.st_commit.proofs.Folding.{newer_none, newer_assoc}
use Rattle.st_deltalog.specs.Log.{serial_in}
use Rattle.st_poolrec.specs.declared.record.PoolRec.{PoolRec}
use Rattle.st_poolrec.specs.Record as pools
use Rattle.st_rack.specs.Device.{Path, Image, cells}
use Rattle.st_rack.specs.Calls.{Devices}
use Rattle.st_image.specs.Looks.{is_serial, pool_area}
use Rattle.st_image.specs.Bears.{candidate, newest_on, newest_over}
use Rattle.st_looks.specs.declared.look.DevLook.{DevLook}
use Rattle.st_looks.specs.Looked.{looked}
use Rattle.st_judge.specs.Candidates.{even_of, odd_of, newest_in, newest_among}

-- a device that is too small has neither header nor slots
slot_same : (p : ℕ) (small : Bool) (h : Option ℕ) (x : Found) → cond (is_serial p (cond small None h)) (keep p (cond small None x)) None ≡ cond (is_serial p (cond small None h)) (keep p x) None
slot_same p true h x = refl
slot_same p false h x = refl

pub even_looked : (p : ℕ) (c : Image) (d : Path × ℕ) → even_of p (looked c d) ≡ candidate p d.1 0 (c d.0)
even_looked p c d = slot_same p (nat_lt d.1 8192) (first_of (copy_of d.1 (sector_of 1 (cells (c d.0) 0 8192))) (copy_of d.1 (sector_of 9 (cells (c d.0) 0 8192)))) (read_slot pool_area 0 (c d.0))

pub odd_looked : (p : ℕ) (c : Image) (d : Path × ℕ) → odd_of p (looked c d) ≡ candidate p d.1 1 (c d.0)
odd_looked p c d = slot_same p (nat_lt d.1 8192) (first_of (copy_of d.1 (sector_of 1 (cells (c d.0) 0 8192))) (copy_of d.1 (sector_of 9 (cells (c d.0) 0 8192)))) (read_slot pool_area 1 (c d.0))

pub newest_looked : (p : ℕ) (c : Image) (devs : Devices) → newest_among p (map (looked c) devs) ≡ newest_over p devs c
newest_looked p c [] = refl
newest_looked p c (d ∷ ds) = λ i. newer (newer (even_looked p c d i) (odd_looked p c d i)) (newest_looked p c ds i)

-- one device more
pub one_newer : (p : ℕ) (looks : List DevLook) (i : ℕ) (look : DevLook) → slice_get looks i ≡ Some look → newer (newest_among p (take i looks)) (newest_in p look) ≡ newest_among p (take (suc i) looks)
one_newer p [] i look is = absurd (cc)
one_newer p (l ∷ ls) zero look is = let same : l ≡ look = cc in sym (newer_none (newest_in p l) ∙ ap (newest_in p) same)
one_newer p (l ∷ ls) (suc i) look is = newer_assoc (newest_in p l) (newest_among p (take i ls)) (newest_in p look) ∙ ap (newer (newest_in p l)) (one_newer p ls i look is)

-- the newer of two is one of them
one_of_two : (a b : Found) (x : ℕ × List ℕ) → newer a b ≡ Some x → (a ≡ Some x) ⊎ (b ≡ Some x)
one_of_two None b x is = inr is
one_of_two (Some a) None x is = inl is
one_of_two (Some a) (Some b) x is = by (nat_lt a.0 b.0) is
  where
    by : (t : Bool) → cond t (Some b) (Some a) ≡ Some x → (Some a ≡ Some x) ⊎ (Some b ≡ Some x)
    by true e = inr e
    by false e = inl e

same_pair : (a b : ℕ × List ℕ) → Some a ≡ Some b → a ≡ b
same_pair a b e = cc

-- what was kept begins with the serial
kept_serial : (p : ℕ) (found : Found) (x : ℕ × List ℕ) → keep p found ≡ Some x → serial_in x.1 ≡ p
kept_serial p None x is = absurd (cc)
kept_serial p (Some y) x is = by (nat_eq (serial_in y.1) p) refl is
  where
    by : (t : Bool) → nat_eq (serial_in y.1) p ≡ t → cond t (Some y) None ≡ Some x → serial_in x.1 ≡ p
    by true e at = let same : serial_in y.1 ≡ p = grind (arith, nat_tests) in ap (λ (z : ℕ × List ℕ). serial_in z.1) (sym (same_pair y x at)) ∙ same
    by false e at = absurd (cc)

candidate_serial : (p : ℕ) (b : Bool) (found : Found) (x : ℕ × List ℕ) → cond b (keep p found) None ≡ Some x → serial_in x.1 ≡ p
candidate_serial p true found x is = kept_serial p found x is
candidate_serial p false found x is = absurd (cc)

pub newest_serial : (p : ℕ) (looks : List DevLook) (x : ℕ × List ℕ) → newest_among p looks ≡ Some x → serial_in x.1 ≡ p
newest_serial p [] x is = absurd (cc)
newest_serial p (l ∷ ls) x is = elim (one_of_two (newest_in p l) (newest_among p ls) x is) [
  | inl own ↦ elim (one_of_two (even_of p l) (odd_of p l) x own) [
    | inl even ↦ candidate_serial p (is_serial p l.header) l.even x even
    | inr odd ↦ candidate_serial p (is_serial p l.header) l.odd x odd
  ]
  | inr rest ↦ newest_serial p ls x rest
]

le_true : (n m : ℕ) → n ≤ m → leb n m ≡ true
le_true n m le = grind (arith, nat_tests)

-- a text begins with the serial that it spells first
serial_spelled : (n : ℕ) (rest : List ℕ) → n < 2 ^ 64 → serial_in (spelling 8 n ++ rest) ≡ n
unfolding serial_in
serial_spelled n rest fits =
    let size = length-append (spelling 8 n) rest in
    ap (λ (b : Bool). cond b (number 8 (spelling 8 n ++ rest)) 0) (le_true 8 (length (spelling 8 n ++ rest)) (omega (arith, size))) ∙ number-spelling 8 n rest (omega (arith, fits))

pub record_serial : (rec : PoolRec) → pools.IsPoolRec rec → serial_in (pools.record_text rec) ≡ rec.serial
record_serial rec is = serial_spelled rec.serial _ is.fits.head.serial
