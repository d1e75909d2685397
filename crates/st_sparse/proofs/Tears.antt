-- What a device holds after one more write, and where it holds what was settled.
use Rattle.std.proofs.Common.{◌≡◌, ◌⊎◌, inl, inr, ℕ, zero, suc, ◌+◌, ◌*◌, ◌%◌, ◌<◌, ◌≤◌, Bool, true, false, cond, ◌||◌, Option, Some, None, List, [], ◌∷◌, ◌++◌, take, length, get_or, refl, sym, ◌∙◌, ap, subst, arith, length-take}
use Rattle.std.proofs.lemmas.Bool.Decides.{nat_tests}
use Rattle.st_rack.specs.Story.{Content, put_in, within}
use Rattle.st_shelf.proofs.Leave.{same_at}
use Rattle.st_rack.proofs.Readers.{put_in_outside}
use Rattle.st_sparse.specs.Since.{reached, taken, content, is_torn}
use Rattle.st_sparse.specs.declared.kinds.Pick.{Pick}
use Rattle.st_sparse.specs.declared.kinds.Pick.TheVariants.{Old, New, Half}
use Rattle.st_sparse.specs.declared.torn.Torn.{Torn}

pub reached_fewer : (pick : Pick) (bytes : List ℕ) → length (reached pick bytes) ≤ length bytes
reached_fewer Old bytes = omega arith
reached_fewer New bytes = omega arith
reached_fewer Half bytes = omega (arith, length-take {A = ℕ})

pub reached_whole : (pick : Pick) (bytes : List ℕ) → length bytes % 512 ≡ 0 → length (reached pick bytes) % 512 ≡ 0
reached_whole Old bytes whole = omega arith
reached_whole New bytes whole = whole
reached_whole Half bytes whole = omega (arith, whole, length-take {A = ℕ})

pub taken_fewer : (pick : Option Pick) (w : Torn) → length (taken pick w) ≤ length w.bytes.items
taken_fewer None w = reached_fewer w.took w.bytes.items
taken_fewer (Some pick) w = reached_fewer pick w.bytes.items

pub taken_whole : (pick : Option Pick) (w : Torn) → length w.bytes.items % 512 ≡ 0 → length (taken pick w) % 512 ≡ 0
taken_whole None w whole = reached_whole w.took w.bytes.items whole
taken_whole (Some pick) w whole = reached_whole pick w.bytes.items whole

pub within_more : (at m n i : ℕ) → m ≤ n → within at m i ≡ true → within at n i ≡ true
within_more at m n i le h = grind (arith, nat_tests)

pub within_fewer : (at m n i : ℕ) → m ≤ n → within at n i ≡ false → within at m i ≡ false
within_fewer at m n i le h = grind (arith, nat_tests)

pub or_left : (a b : Bool) → a ≡ true → (a || b) ≡ true
or_left true b h = refl
or_left false b h = absurd cc

pub or_right : (a b : Bool) → b ≡ true → (a || b) ≡ true
or_right true b h = refl
or_right false b h = h

or_one : (a b : Bool) → (a || b) ≡ true → (a ≡ true) ⊎ (b ≡ true)
or_one true b h = inl refl
or_one false b h = inr h

not_left : (a b : Bool) → (a || b) ≡ false → a ≡ false
not_left true b h = absurd cc
not_left false b h = refl

not_right : (a b : Bool) → (a || b) ≡ false → b ≡ false
not_right true b h = absurd cc
not_right false b h = h

-- the k-th write is laid over those before it
pub content_more : (pick : Option Pick) (l : List Torn) (k : ℕ) (d : Torn) (f : Content) → k < length l
    → content pick (take (suc k) l) f ≡ put_in (512 * (get_or l k d).sector) (taken pick (get_or l k d)) (content pick (take k l) f)
content_more pick [] k d f lt = absurd (omega arith)
content_more pick (w ∷ l) zero d f lt = refl
content_more pick (w ∷ l) (suc k) d f lt = content_more pick l k d (put_in (512 * w.sector) (taken pick w) f) (omega arith)

pub content_last : (pick : Option Pick) (l : List Torn) (w : Torn) (f : Content) → content pick (l ++ w ∷ []) f ≡ put_in (512 * w.sector) (taken pick w) (content pick l f)
content_last pick [] w f = refl
content_last pick (x ∷ l) w f = content_last pick l w (put_in (512 * x.sector) (taken pick x) f)

-- outside the writes there is what was settled
pub content_outside : (pick : Option Pick) (l : List Torn) (f : Content) (i : ℕ) → is_torn l i ≡ false → content pick l f i ≡ f i
content_outside pick [] f i h = refl
content_outside pick (w ∷ l) f i h =
    let out : within (512 * w.sector) (length w.bytes.items) i ≡ false = not_left (within (512 * w.sector) (length w.bytes.items) i) (is_torn l i) h in
    content_outside pick l (put_in (512 * w.sector) (taken pick w) f) i (not_right (within (512 * w.sector) (length w.bytes.items) i) (is_torn l i) h)
    ∙ put_in_outside (512 * w.sector) (taken pick w) f i (within_fewer (512 * w.sector) (length (taken pick w)) (length w.bytes.items) i (taken_fewer pick w) out)

-- where one of them was meant to go
pub torn_at : (l : List Torn) (k : ℕ) (d : Torn) (i : ℕ) → k < length l → within (512 * (get_or l k d).sector) (length (get_or l k d).bytes.items) i ≡ true → is_torn l i ≡ true
torn_at [] k d i lt h = absurd (omega arith)
torn_at (w ∷ l) zero d i lt h = or_left (within (512 * w.sector) (length w.bytes.items) i) (is_torn l i) h
torn_at (w ∷ l) (suc k) d i lt h = or_right (within (512 * w.sector) (length w.bytes.items) i) (is_torn l i) (torn_at l k d i (omega arith) h)

-- a byte that was torn before, or by the last write
pub torn_last : (l : List Torn) (w : Torn) (i : ℕ) → is_torn (l ++ w ∷ []) i ≡ true → (is_torn l i ≡ true) ⊎ (within (512 * w.sector) (length w.bytes.items) i ≡ true)
torn_last [] w i h = elim (or_one (within (512 * w.sector) (length w.bytes.items) i) false h) [ inl here ↦ inr here | inr no_more ↦ absurd cc ]
torn_last (x ∷ l) w i h = elim (or_one (within (512 * x.sector) (length x.bytes.items) i) (is_torn (l ++ w ∷ []) i) h) [
  | inl first ↦ inl (or_left (within (512 * x.sector) (length x.bytes.items) i) (is_torn l i) first)
  | inr later ↦ elim (torn_last l w i later) [
    | inl before ↦ inl (or_right (within (512 * x.sector) (length x.bytes.items) i) (is_torn l i) before)
    | inr here ↦ inr here
  ]
]

pub within_from : (at n i : ℕ) → within at n i ≡ true → at ≤ i
within_from at n i h = grind (arith, nat_tests)

pub within_until : (at n i : ℕ) → within at n i ≡ true → i < at + n
within_until at n i h = grind (arith, nat_tests)

-- what is taken of the k-th write, as it was read in two ways
pub part_at : (pick : Option Pick) (l : List Torn) (k : ℕ) (d e : Torn) (part : List ℕ) → k < length l → e ≡ get_or l k e → part ≡ taken pick e → part ≡ taken pick (get_or l k d)
part_at pick l k d e part lt is taking = taking ∙ ap (taken pick) (is ∙ same_at l k e d lt)

pub part_torn : (pick : Option Pick) (l : List Torn) (k : ℕ) (d : Torn) (part : List ℕ) (i : ℕ) → k < length l → part ≡ taken pick (get_or l k d)
    → within (512 * (get_or l k d).sector) (length part) i ≡ true → is_torn l i ≡ true
part_torn pick l k d part i lt is h =
    torn_at l k d i lt (within_more (512 * (get_or l k d).sector) (length part) (length (get_or l k d).bytes.items) i
    (subst (λ (p : List ℕ). length p ≤ length (get_or l k d).bytes.items) (sym is) (taken_fewer pick (get_or l k d))) h)

-- a fact of each torn byte, where a write was perhaps put last
pub torn_pushed : (old new : List Torn) (b : Bool) (w : Torn) (at n : ℕ) (P : ℕ → Type 0) → new ≡ cond b (old ++ w ∷ []) old → 512 * w.sector ≡ at → length w.bytes.items ≡ n
    → ((i : ℕ) → is_torn old i ≡ true → P i) → ((i : ℕ) → within at n i ≡ true → P i) → (i : ℕ) → is_torn new i ≡ true → P i
torn_pushed old new false w at n P is place size before here i h = before i (subst (λ (l : List Torn). is_torn l i ≡ true) is h)
torn_pushed old new true w at n P is place size before here i h = elim (torn_last old w i (subst (λ (l : List Torn). is_torn l i ≡ true) is h)) [
  | inl was ↦ before i was
  | inr last ↦ here i (subst (λ (m : ℕ). within m n i ≡ true) place (subst (λ (m : ℕ). within (512 * w.sector) m i ≡ true) size last))
]
