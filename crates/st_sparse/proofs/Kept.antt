-- The bytes of a sector that is kept, and of one that isn't.
use Rattle.std.proofs.Common.{◌≡◌, ◌≢◌, inl, inr, ℕ, ◌+◌, ◌*◌, ◌/◌, ◌%◌, ◌<◌, true, false, Option, Some, None, is_some, List, [], length, get_or, replicate, refl, sym, ◌∙◌, ap, subst, arith, unwrap_or}
use Rattle.std.proofs.lemmas.List.{get_or-replicate}
use Rattle.std.proofs.lemmas.Bool.{cases_eq}
use Rattle.std.specs.Ordering.{nat_cmp}
use Rattle.std.specs.BTreeMap.{BTreeMap, get}
use Rattle.st_rack.specs.Story.{within}
use Rattle.st_rack.specs.Device.{cells}
use Rattle.st_rack.proofs.Pending.{within_inside}
use Rattle.st_rack.proofs.Cells.{cells_is}
use Rattle.st_sparse.specs.Sectors.{byte_at, is_kept}

abbrev Map : Type 0
Map = BTreeMap ℕ (List ℕ)

-- what stands in a sector
pub at_kept : (m : Map) (s i : ℕ) (xs : List ℕ) → get nat_cmp m s ≡ Some xs → i / 512 ≡ s → byte_at m i ≡ get_or xs (i % 512) 0
at_kept m s i xs is sector =
    ap (λ (t : ℕ). get_or (unwrap_or (get nat_cmp m t) []) (i % 512) 0) sector
    ∙ ap (λ (o : Option (List ℕ)). get_or (unwrap_or o []) (i % 512) 0) is

pub at_blank : (m : Map) (s i : ℕ) → get nat_cmp m s ≡ None → i / 512 ≡ s → byte_at m i ≡ 0
at_blank m s i none sector =
    ap (λ (t : ℕ). get_or (unwrap_or (get nat_cmp m t) []) (i % 512) 0) sector
    ∙ ap (λ (o : Option (List ℕ)). get_or (unwrap_or o []) (i % 512) 0) none

-- where the sector has the same bytes, the byte is the same
pub at_same : (m n : Map) (i : ℕ) → get nat_cmp n (i / 512) ≡ get nat_cmp m (i / 512) → byte_at n i ≡ byte_at m i
at_same m n i same = ap (λ (o : Option (List ℕ)). get_or (unwrap_or o []) (i % 512) 0) same

pub kept : (m : Map) (s : ℕ) (xs : List ℕ) → get nat_cmp m s ≡ Some xs → length xs ≡ 512 → cells (byte_at m) (512 * s) 512 ≡ xs
kept m s xs is size = subst (λ (n : ℕ). cells (byte_at m) (512 * s) n ≡ xs) size (cells_is (byte_at m) (512 * s) xs (λ k lt.
    let sector : (512 * s + k) / 512 ≡ s = omega arith in
    let offset : (512 * s + k) % 512 ≡ k = omega arith in
    at_kept m s (512 * s + k) xs is sector ∙ ap (λ (j : ℕ). get_or xs j 0) offset))

pub blank : (m : Map) (s : ℕ) → get nat_cmp m s ≡ None → cells (byte_at m) (512 * s) 512 ≡ replicate 512 0
blank m s none = cells_is (byte_at m) (512 * s) (replicate 512 0) (λ k lt.
    let sector : (512 * s + k) / 512 ≡ s = omega arith in
    at_blank m s (512 * s + k) none sector ∙ sym (get_or-replicate 512 k 0 0 lt))

-- a new sector of zeros changes no byte
pub new_zeros : (m n : Map) (s : ℕ) (zeros : List ℕ) → get nat_cmp m s ≡ None → get nat_cmp n s ≡ Some zeros → zeros ≡ replicate 512 0
    → ((i : ℕ) → i / 512 ≢ s → byte_at n i ≡ byte_at m i) → (i : ℕ) → byte_at n i ≡ byte_at m i
new_zeros m n s zeros was is zero others i = elim (cases_eq (i / 512) s) [
  | inl here ↦
      at_kept n s i zeros is here ∙ ap (λ (l : List ℕ). get_or l (i % 512) 0) zero ∙ get_or-replicate 512 (i % 512) 0 0 (omega arith)
      ∙ sym (at_blank m s i was here)
  | inr other ↦ others i other
]

pub none_of : (o : Option (List ℕ)) → is_some o ≡ false → o ≡ None
none_of None h = refl
none_of (Some x) h = absurd cc

-- each sector of a range of bytes
pub range_kept : (m : Map) (sector n k : ℕ) → ((i : ℕ) → within (512 * sector) n i ≡ true → is_kept m (i / 512) ≡ true) → 512 * k < n → is_kept m (sector + k) ≡ true
range_kept m sector n k there lt = subst (λ (s : ℕ). is_kept m s ≡ true) place (there (512 * (sector + k)) (within_inside (512 * sector) n (512 * (sector + k)) (omega arith) (omega (arith, lt))))
  where
    place : 512 * (sector + k) / 512 ≡ sector + k
    place = omega arith
