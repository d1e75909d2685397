-- A list of which the first k are changed.
use Rattle.std.proofs.Common.{◌≡◌, ℕ, zero, suc, ◌<◌, Bool, true, false, ◌||◌, List, [], ◌∷◌, ◌++◌, take, drop, map, length, get_or, slice_set, refl, sym, ◌∙◌, ap, arith}
use Rattle.std.specs.List.{list_any}

or_assoc : (a b c : Bool) → (a || (b || c)) ≡ ((a || b) || c)
or_assoc true b c = refl
or_assoc false b c = refl

or_none : (a : Bool) → (a || false) ≡ a
or_none true = refl
or_none false = refl

module _ {A : Type 0} (test : A → Bool) where
  pub any_more : (b : Bool) (l : List A) (k : ℕ) (d : A) → k < length l → (b || list_any test (take (suc k) l)) ≡ ((b || list_any test (take k l)) || test (get_or l k d))
  any_more b [] k d lt = absurd (omega arith)
  any_more b (x ∷ l) zero d lt = ap (λ (c : Bool). b || c) (or_none (test x)) ∙ ap (λ (c : Bool). c || test x) (sym (or_none b))
  any_more b (x ∷ l) (suc k) d lt =
      or_assoc b (test x) (list_any test (take (suc k) l)) ∙ any_more (b || test x) l k d (omega arith)
      ∙ ap (λ (c : Bool). c || test (get_or l k d)) (sym (or_assoc b (test x) (list_any test (take k l))))

module _ {A : Type 0} (f : A → A) where
  pub map_next : (l : List A) (k : ℕ) (d : A) → k < length l → get_or (map f (take k l) ++ drop k l) k d ≡ get_or l k d
  map_next [] k d lt = absurd (omega arith)
  map_next (x ∷ l) zero d lt = refl
  map_next (x ∷ l) (suc k) d lt = map_next l k d (omega arith)

  pub map_more : (l : List A) (k : ℕ) (v d : A) → k < length l → v ≡ f (get_or l k d) → slice_set (map f (take k l) ++ drop k l) k v ≡ map f (take (suc k) l) ++ drop (suc k) l
  map_more [] k v d lt is = absurd (omega arith)
  map_more (x ∷ l) zero v d lt is = ap (λ (y : A). y ∷ l) is
  map_more (x ∷ l) (suc k) v d lt is = ap (λ (t : List A). f x ∷ t) (map_more l k v d (omega arith) is)
