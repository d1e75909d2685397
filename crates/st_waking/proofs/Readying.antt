-- The place of the pool that is to be started.
use Rattle.std.proofs.Common.{◌≡◌, ℕ, zero, suc, ◌<◌, Bool, true, false, cond, length, List, [], ◌∷◌, map, Option, Some, None, IfSome, IfNone, sym, ap, subst, arith}
use Rattle.std.specs.Prelude.{find, slice_get}
use Rattle.std.specs.List.{position}
use Rattle.std.proofs.lemmas.Slice.Eq.{bytes_eq-Decides}
use Rattle.st_model.specs.Look.{Text, is_name_of}
use Rattle.st_table.specs.Table.{TablePool, named}
use Rattle.st_pool.specs.Halts.{HaltedView}
use Rattle.st_ran.proofs.Places.{found_place, no_place}

name_so : (name : Text) (o : Option Text) → is_name_of name o ≡ true → o ≡ Some name
name_so name None e = absurd cc
name_so name (Some own) e = ap (λ (n : Text). Some n) ((bytes_eq-Decides own name).0 e)

name_back : (name : Text) (o : Option Text) → o ≡ Some name → is_name_of name o ≡ true
name_back name None e = absurd cc
name_back name (Some own) e = let same : own ≡ name = cc in (bytes_eq-Decides own name).1 same

abbrev is_so : Text → List TablePool → ℕ → Bool
is_so name pools n = is_name_of name (named n pools)

module _ {D : Type 0} (name : Text) (pools : List TablePool) where
  abbrev serial_of : HaltedView D → ℕ
  serial_of h = h.serial

  pub found_so : (halted : List (HaltedView D)) (o : Option ℕ) → position (λ (h : HaltedView D). is_so name pools h.serial) halted ≡ o → IfSome o (λ i. (h : HaltedView D) × (slice_get halted i ≡ Some h) × (named h.serial pools ≡ Some name))
  found_so halted None e = tt
  found_so halted (Some i) e = let one = found_place serial_of (is_so name pools) halted (Some i) e in (one.0, one.1, name_so name (named one.0.serial pools) one.2)

  none_passes : (halted : List (HaltedView D)) (i : ℕ) (h : HaltedView D) → find (is_so name pools) (map serial_of halted) ≡ None → slice_get halted i ≡ Some h → is_so name pools h.serial ≡ true → ⊥
  none_passes [] zero h none e on = cc
  none_passes [] (suc i) h none e on = cc
  none_passes (x ∷ xs) zero h none e on = let same : x ≡ h = cc in by (is_so name pools x.serial) (subst (λ (y : HaltedView D). is_so name pools y.serial ≡ true) (sym same) on) none
    where
      by : (b : Bool) → b ≡ true → cond b (Some x.serial) (find (is_so name pools) (map serial_of xs)) ≡ None → ⊥
      by true k n = cc
      by false k n = cc
  none_passes (x ∷ xs) (suc i) h none e on = by (is_so name pools x.serial) none (λ rest. none_passes xs i h rest e on)
    where
      by : (b : Bool) → cond b (Some x.serial) (find (is_so name pools) (map serial_of xs)) ≡ None → (find (is_so name pools) (map serial_of xs) ≡ None → ⊥) → ⊥
      by true n rest = cc
      by false n rest = rest n

  pub none_so : (halted : List (HaltedView D)) (o : Option ℕ) → position (λ (h : HaltedView D). is_so name pools h.serial) halted ≡ o → IfNone o ((i : ℕ) (h : HaltedView D) → slice_get halted i ≡ Some h → named h.serial pools ≡ Some name → ⊥)
  none_so halted (Some i) e = tt
  none_so halted None e = λ i h at so. none_passes halted i h (no_place serial_of (is_so name pools) halted None e) at (name_back name (named h.serial pools) so)

-- an item at a place is within
pub within : {X : Type 0} (xs : List X) (i : ℕ) (x : X) → slice_get xs i ≡ Some x → i < length xs
within [] zero x e = absurd cc
within [] (suc i) x e = absurd cc
within (y ∷ ys) zero x e = omega arith
within (y ∷ ys) (suc i) x e = let rest = within ys i x e in omega (arith, rest)

pub same_item : {X : Type 0} (a b : X) → Some a ≡ Some b → a ≡ b
same_item a b e = cc
