-- A sealed text in a slot is read as long as its own bytes stay.
use Rattle.std.proofs.Common.{◌≡◌, ◌⊎◌, inl, inr, ℕ, ◌+◌, ◌-◌, ◌*◌, ◌^◌, ◌<◌, ◌≤◌, List, ◌++◌, length, take, replicate, Some, None, refl, sym, ◌∙◌, ap, subst, arith, append_assoc, length-append}
use Rattle.std.proofs.lemmas.List.{take_at, length-replicate}
use Rattle.st_fields.specs.Slot.{Found, slot_text, slot_bytes, sealed_of, padded}
use Rattle.st_fields.proofs.Slots.{sealed_of-is, is-sealed_of, length-slot_text}
use Rattle.st_rack.specs.Story.{Content}
use Rattle.st_rack.specs.Device.{cells}
use Rattle.st_rack.specs.Readers.{Local}
use Rattle.st_rack.proofs.Cells.{cells_same, cells-add, length-cells}
use Rattle.st_slots.specs.declared.spot.Area.{Area}
use Rattle.st_slots.specs.Places.{place_at}
use Rattle.st_slots.specs.Reading.{bytes_at, read_any}
use Rattle.st_slots.specs.Writing.{deciding}

pub length-slot_bytes : (magic body : List ℕ) (g : ℕ) → length magic ≡ 8 → length (slot_bytes magic g body) ≡ padded (64 + length body)
length-slot_bytes magic body g eight =
    let n = 64 + length body in
    let up : n ≤ padded n = omega arith in
    let text : List ℕ = slot_text magic g body in
    omega (arith, length-append text (replicate (padded n - n) 0), length-slot_text magic body text g eight, length-replicate {A = ℕ} (padded n - n) 0)

-- A slot's reader looks at the slot alone.
pub looks_in : (area : Area) (place : ℕ) → Local (read_any area place) (place_at area place) (512 * area.slot)
looks_in area place = record { same = λ f h each. ap (λ (l : List ℕ). sealed_of area.magic l) (cells_same f h (place_at area place) (512 * area.slot) each) }

module _ (area : Area) (place : ℕ) (f h : Content) (x : ℕ × List ℕ) (eight : length area.magic ≡ 8) (small : area.slot ≤ 2 ^ 32) (is : read_any area place f ≡ Some x) where
  abbrev at : ℕ
  at = place_at area place

  abbrev n : ℕ
  n = 64 + length x.1

  abbrev text : List ℕ
  text = slot_text area.magic x.0 x.1

  pub any_fits : n ≤ 512 * area.slot
  any_fits =
      let sealed = sealed_of-is area.magic (bytes_at area place f) x is in
      omega (arith, ap length sealed.spelled, length-append text sealed.rest, length-slot_text area.magic x.1 sealed.rest x.0 eight, length-cells f at (512 * area.slot))

  parted : (k : Content) → bytes_at area place k ≡ cells k at n ++ cells k (at + n) (512 * area.slot - n)
  parted k =
      let fits = any_fits in
      let whole : 512 * area.slot ≡ n + (512 * area.slot - n) = omega arith in
      ap (cells k at) whole ∙ cells-add k at n (512 * area.slot - n)

  text_there : cells f at n ≡ text
  text_there =
      let sealed = sealed_of-is area.magic (bytes_at area place f) x is in
      sym (take_at (cells f at n) (cells f (at + n) (512 * area.slot - n)) n (length-cells f at n))
      ∙ ap (take n) (sym (parted f) ∙ sealed.spelled) ∙ take_at text sealed.rest n (length-slot_text area.magic x.1 sealed.rest x.0 eight)

  pub any_same : ((i : ℕ) → at ≤ i → i < at + n → f i ≡ h i) → read_any area place h ≡ Some x
  any_same same =
      let sealed = sealed_of-is area.magic (bytes_at area place f) x is in
      let fits = any_fits in
      let spelled = parted h ∙ ap (λ (l : List ℕ). l ++ cells h (at + n) (512 * area.slot - n)) (sym (cells_same f h at n same) ∙ text_there) in
      is-sealed_of area.magic (bytes_at area place h) x.0 x.1 eight (omega arith)
      (record { from = sealed.from; until = sealed.until; rest = cells h (at + n) (512 * area.slot - n); spelled = spelled })

none_or_some : (o : Found) → (o ≡ None) ⊎ ((x : ℕ × List ℕ) × (o ≡ Some x))
none_or_some None = inl refl
none_or_some (Some x) = inr (x, refl)

-- the bytes that decide lie in the slot
pub decided_within : (area : Area) (place : ℕ) (f : Content) → length area.magic ≡ 8 → area.slot ≤ 2 ^ 32 → deciding area (read_any area place f) ≤ 512 * area.slot
decided_within area place f eight small = elim (none_or_some (read_any area place f)) [
  | inl none ↦ subst (λ (o : Found). deciding area o ≤ 512 * area.slot) (sym none) (omega arith)
  | inr found ↦ subst (λ (o : Found). deciding area o ≤ 512 * area.slot) (sym found.1) (any_fits area place f f found.0 eight small found.1)
]

-- Where the bytes that decide stay, the slot reads as before.
pub decided : (area : Area) (place : ℕ) (f h : Content) → length area.magic ≡ 8 → area.slot ≤ 2 ^ 32
    → ((i : ℕ) → place_at area place ≤ i → i < place_at area place + deciding area (read_any area place f) → f i ≡ h i) → read_any area place h ≡ read_any area place f
decided area place f h eight small same = elim (none_or_some (read_any area place f)) [
  | inl none ↦ sym ((looks_in area place).same f h (λ i low high. same i low (subst (λ (o : Found). i < place_at area place + deciding area o) (sym none) high)))
  | inr found ↦ any_same area place f h found.0 eight small found.1 (λ i low high. same i low (subst (λ (o : Found). i < place_at area place + deciding area o) (sym found.1) high)) ∙ sym found.1
]

-- Where a slot holds what is written for a record, it reads so.
pub reads_text : (area : Area) (place g : ℕ) (body : List ℕ) (f : Content) → length area.magic ≡ 8 → 1 ≤ g → g ≤ 2 ^ 48 → area.slot ≤ 2 ^ 32 → 64 + length body ≤ 512 * area.slot
    → cells f (place_at area place) (length (slot_bytes area.magic g body)) ≡ slot_bytes area.magic g body → read_any area place f ≡ Some (g, body)
reads_text area place g body f eight from until small fits is =
    let bytes : List ℕ = slot_bytes area.magic g body in
    let text : List ℕ = slot_text area.magic g body in
    let m = length bytes in
    let k = 512 * area.slot - m in
    let size : 512 * area.slot ≡ m + k = omega (arith, length-slot_bytes area.magic body g eight) in
    let zeros : List ℕ = replicate (padded (64 + length body) - (64 + length body)) 0 in
    let more : List ℕ = cells f (place_at area place + m) k in
    let whole : bytes_at area place f ≡ text ++ (zeros ++ more) =
    ap (cells f (place_at area place)) size ∙ cells-add f (place_at area place) m k ∙ ap (λ (l : List ℕ). l ++ more) is ∙ append_assoc text zeros more in
    is-sealed_of area.magic (bytes_at area place f) g body eight (omega arith) (record { from = from; until = until; rest = zeros ++ more; spelled = whole })
