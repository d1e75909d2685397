-- What a device reads as whose sectors of header and slots are written over.
use Rattle.std.proofs.Common.{◌≡◌, ◌⊎◌, inl, inr, ℕ, zero, suc, ◌+◌, ◌*◌, ◌<◌, ◌≤◌, Bool, true, false, cond, nat_lt, List, ◌++◌, length, get_or, take, drop, Option, Some, None, refl, sym, ◌∙◌, ap, subst, arith}
use Rattle.std.proofs.lemmas.List.{take_at, drop_at, length-replicate}
use Rattle.st_fields.specs.Slot.{Found, slot_fields, slot_text}
use Rattle.st_fields.proofs.Slots.{sealed_of-is}
use Rattle.st_header.specs.Header.{header_of, copy_of, first_of, sector_of}
use Rattle.st_rack.specs.Story.{Content}
use Rattle.st_rack.specs.Device.{DevState, cells}
use Rattle.st_rack.specs.Steps.{Rewritten}
use Rattle.st_rack.proofs.Cells.{cells_same, cells-add, length-cells, get_or-cells}
use Rattle.st_rack.proofs.Written.{rewritten_sure}
use Rattle.st_slots.specs.Places.{place_at}
use Rattle.st_slots.specs.Reading.{read_slot, bytes_at, newer}
use Rattle.st_slots.proofs.Places.{slot_is}
use Rattle.st_commit.specs.Standing.{keep}
use Rattle.st_deltalog.proofs.Bearing.{all_held}
use Rattle.st_image.specs.Looks.{is_serial, pool_area}
use Rattle.st_image.specs.Bears.{newest_on}
use Rattle.st_clearing.specs.Clearing.{zeros}
use Rattle.st_clearing.specs.Laws.{ClearedAreEmpty, IsEmpty}

pub long : length zeros ≡ 512
long = length-replicate {A = ℕ} 512 0

pub no_copy : (n : ℕ) → copy_of n zeros ≡ None
no_copy n = refl

-- bytes in the middle of others
part : (f : Content) (at m k n : ℕ) → take k (drop m (cells f at (m + (k + n)))) ≡ cells f (at + m) k
part f at m k n =
    let one = cells-add f at m (k + n) in
    let two = cells-add f (at + m) k n in
    ap (λ (l : List ℕ). take k (drop m l)) one
    ∙ ap (take k) (drop_at (cells f at m) (cells f (at + m) (k + n)) m (length-cells f at m))
    ∙ ap (take k) two
    ∙ take_at (cells f (at + m) k) (cells f (at + m + k) n) k (length-cells f (at + m) k)

-- the copy that begins at a byte
abbrev pub copy_at : ℕ → ℕ → Content → Option ℕ
copy_at n at f = copy_of n (cells f at 512)

-- the header of two copies, on a device of so many sectors
abbrev pub header_with : ℕ → Option ℕ → Option ℕ → Option ℕ
header_with n one nine = cond (nat_lt n 8192) None (first_of one nine)

pub header_in : (n : ℕ) (f : Content) → header_of n (cells f 0 8192) ≡ header_with n (copy_at n 512 f) (copy_at n 4608 f)
header_in n f =
    ap (λ (l : List ℕ). cond (nat_lt n 8192) None (first_of (copy_of n l) (copy_of n (sector_of 9 (cells f 0 8192))))) first_sector
    ∙ ap (λ (l : List ℕ). cond (nat_lt n 8192) None (first_of (copy_at n 512 f) (copy_of n l))) ninth_sector
  where
    first_sector : sector_of 1 (cells f 0 8192) ≡ cells f 512 512
    first_sector = part f 0 512 512 7168

    ninth_sector : sector_of 9 (cells f 0 8192) ≡ cells f 4608 512
    ninth_sector = part f 0 4608 512 3072

pub no_header_with : (n : ℕ) → header_with n None None ≡ None
no_header_with n = here (nat_lt n 8192)
  where
    here : (b : Bool) → cond {A = Option ℕ} b None None ≡ None
    here true = refl
    here false = refl

pub no_header : (n : ℕ) (f : Content) → copy_at n 512 f ≡ None → copy_at n 4608 f ≡ None → header_of n (cells f 0 8192) ≡ None
no_header n f one nine = header_in n f ∙ ap (λ (o : Option ℕ). header_with n o (copy_at n 4608 f)) one ∙ ap (header_with n None) nine ∙ no_header_with n

pub none_newest : (q n : ℕ) (f : Content) → header_of n (cells f 0 8192) ≡ None → newest_on q n f ≡ None
none_newest q n f none =
    ap (λ (o : Option ℕ). newer (cond (is_serial q o) (keep q (read_slot pool_area 0 f)) None) (cond (is_serial q o) (keep q (read_slot pool_area 1 f)) None)) none

-- zeros stand where they were written
given_at : (at : ℕ) (f : Content) → cells f at (length zeros) ≡ zeros → cells f at 512 ≡ zeros
given_at at f given = ap (λ (k : ℕ). cells f at k) (sym long) ∙ given

pub copy_given : (n at : ℕ) (f : Content) → cells f at (length zeros) ≡ zeros → copy_at n at f ≡ None
copy_given n at f given = ap (copy_of n) (given_at at f given) ∙ no_copy n

-- a sector elsewhere stays
stays : (at x : ℕ) (a b : DevState) → (at + 512 ≤ x) ⊎ (x + 512 ≤ at) → Rewritten x zeros a b → cells b.holds at 512 ≡ cells a.holds at 512
stays at x a b (inl below) step = cells_same b.holds a.holds at 512 (λ i low high. step.changed.below i (omega (arith, high, below)))
stays at x a b (inr above) step = cells_same b.holds a.holds at 512 (λ i low high. step.changed.above i (omega (arith, low, above, long)))

starts : (g : ℕ) (body rest : List ℕ) → get_or (slot_text pool_area.magic g body ++ rest) 0 0 ≡ 83
unfolding slot_fields
starts g body rest = refl

not_zero : (n m : ℕ) → n ≡ 0 → m ≡ 83 → n ≡ m → ⊥
not_zero n m zero_n is same = absurd (omega (arith, zero_n, is, same))

some_bytes : 0 < 512 * 64
some_bytes = omega arith

none_or_some : (o : Found) → (o ≡ None) ⊎ ((x : ℕ × List ℕ) × (o ≡ Some x))
none_or_some None = inl refl
none_or_some (Some x) = inr (x, refl)

-- a slot that begins with a zero isn't valid
no_slot_at : (r : ℕ) (f : Content) → f (place_at pool_area r + 0) ≡ 0 → read_slot pool_area r f ≡ None
no_slot_at r f zero_there = elim (none_or_some (read_slot pool_area r f)) [
  | inl none ↦ none
  | inr found ↦
      let sealed = sealed_of-is pool_area.magic (bytes_at pool_area r f) found.0 (slot_is pool_area r f found.0 found.1).0 in
      let bytes = bytes_at pool_area r f in
      absurd (not_zero (get_or bytes 0 0) (get_or (slot_text pool_area.magic found.0.0 found.0.1 ++ sealed.rest) 0 0) (get_or-cells f (place_at pool_area r) (512 * 64) 0 some_bytes ∙ zero_there) (starts found.0.0 found.0.1 sealed.rest)
      (ap (λ (l : List ℕ). get_or l 0 0) sealed.spelled))
]

first_zero : (at : ℕ) (f : Content) → cells f at 512 ≡ zeros → f (at + 0) ≡ 0
first_zero at f e = sym (get_or-cells f at 512 0 (omega arith)) ∙ ap (λ (l : List ℕ). get_or l 0 0) e

zero_or_one : (r : ℕ) → r < 2 → (r ≡ 0) ⊎ (r ≡ 1)
zero_or_one zero lt = inl refl
zero_or_one (suc r) lt = inr (omega (arith, lt))

empty_end : (a b c d e : DevState) → Rewritten 4608 zeros a b → Rewritten 512 zeros b c → Rewritten 8192 zeros c d → Rewritten 40960 zeros d e → IsEmpty e
empty_end a b c d e one two three four = record {
  settled = record { meant = all_held 40960 zeros d e four; sure = rewritten_sure 40960 zeros d e four };
  no_header = λ p sectors. ap (is_serial p) (header sectors);
  no_slot = λ r lt. slot r (zero_or_one r lt);
  alone = λ p sectors. none_newest p sectors e.holds (header sectors);
}
  where
    ninth : cells e.holds 4608 512 ≡ zeros
    ninth =
        stays 4608 40960 d e (inl (omega arith)) four ∙ stays 4608 8192 c d (inl (omega arith)) three ∙ stays 4608 512 b c (inr (omega arith)) two
        ∙ given_at 4608 b.holds one.given

    first : cells e.holds 512 512 ≡ zeros
    first = stays 512 40960 d e (inl (omega arith)) four ∙ stays 512 8192 c d (inl (omega arith)) three ∙ given_at 512 c.holds two.given

    slot_0 : cells e.holds 8192 512 ≡ zeros
    slot_0 = stays 8192 40960 d e (inl (omega arith)) four ∙ given_at 8192 d.holds three.given

    slot_1 : cells e.holds 40960 512 ≡ zeros
    slot_1 = given_at 40960 e.holds four.given

    header : (n : ℕ) → header_of n (cells e.holds 0 8192) ≡ None
    header n = no_header n e.holds (ap (copy_of n) first ∙ no_copy n) (ap (copy_of n) ninth ∙ no_copy n)

    slot : (r : ℕ) → (r ≡ 0) ⊎ (r ≡ 1) → read_slot pool_area r e.holds ≡ None
    slot r (inl is) = subst (λ (x : ℕ). read_slot pool_area x e.holds ≡ None) (sym is) (no_slot_at 0 e.holds (first_zero 8192 e.holds slot_0))
    slot r (inr is) = subst (λ (x : ℕ). read_slot pool_area x e.holds ≡ None) (sym is) (no_slot_at 1 e.holds (first_zero 40960 e.holds slot_1))

pub cleared-empty : ClearedAreEmpty
cleared-empty a s t = subst IsEmpty (sym t.2.2.2.2) (empty_end a t.0 t.2.0 t.2.2.0 t.2.2.2.0 t.1 t.2.1 t.2.2.1 t.2.2.2.1)
