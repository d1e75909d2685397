-- Sealed texts that fill their sectors.
use Rattle.std.proofs.Common.{◌≡◌, inl, inr, ℕ, ◌+◌, ◌-◌, ◌^◌, ◌<◌, ◌≤◌, Bool, cond, List, length, replicate, Some, None, refl, sym, ◌∙◌, ap, subst}
use Rattle.std.specs.Str.{bytes_eq}
use Rattle.std.proofs.lemmas.Bool.{cases_Bool}
use Rattle.std.proofs.lemmas.Slice.Eq.{bytes_eq-Decides}
use Rattle.st_fields.specs.Slot.{Found, slot_bytes, padded, sealed_of, whole_in, sector_of}
use Rattle.st_fields.proofs.Slots.{is-sealed_of}

-- What is written for a generation and a body fills its sectors.
pub sector_of-bytes : (magic : List ℕ) (g : ℕ) (body : List ℕ) → length magic ≡ 8 → 1 ≤ g → g ≤ 2 ^ 48 → length body < 2 ^ 64 → sector_of magic (slot_bytes magic g body) ≡ Some (g, body)
unfolding sector_of
sector_of-bytes magic g body eight from until short =
    let bytes : List ℕ = slot_bytes magic g body in
    let zeros : List ℕ = replicate (padded (64 + length body) - (64 + length body)) 0 in
    let found = is-sealed_of magic bytes g body eight short (record { from = from; until = until; rest = zeros; spelled = refl }) in
    ap (whole_in magic bytes) found ∙ ap (λ (b : Bool). cond b (Some (g, body)) None) ((bytes_eq-Decides bytes bytes).1 refl)

some_same : (a b : ℕ × List ℕ) → Some a ≡ Some b → a ≡ b
some_same a b e = cc

none_is_no_some : (x : ℕ × List ℕ) → None ≡ Some x → ⊥
none_is_no_some x e = cc

-- A sealed sector is its spelling and zero bytes.
pub sector_of-is : (magic bytes : List ℕ) (x : ℕ × List ℕ) → sector_of magic bytes ≡ Some x → (sealed_of magic bytes ≡ Some x) × (bytes ≡ slot_bytes magic x.0 x.1)
unfolding sector_of
sector_of-is magic bytes x is = both (sealed_of magic bytes) is
  where
    both : (o : Found) → whole_in magic bytes o ≡ Some x → (o ≡ Some x) × (bytes ≡ slot_bytes magic x.0 x.1)
    both None is = absurd (cc)
    both (Some y) is = elim (cases_Bool (bytes_eq bytes (slot_bytes magic y.0 y.1))) [
      | inl hit ↦
          let same : y ≡ x = some_same y x (sym (ap (λ (b : Bool). cond b (Some y) None) hit) ∙ is) in
          (ap (λ (z : ℕ × List ℕ). Some z) same, subst (λ (z : ℕ × List ℕ). bytes ≡ slot_bytes magic z.0 z.1) same ((bytes_eq-Decides bytes (slot_bytes magic y.0 y.1)).0 hit))
      | inr miss ↦ absurd (none_is_no_some x (sym (ap (λ (b : Bool). cond b (Some y) None) miss) ∙ is))
    ]
