-- a text that is no UUID
use Rattle.std.proofs.Common.{◌≡◌, ◌↔◌, List, ℕ, Option, Some, None, Result, Err, IsOk, true, false, refl, subst}

by_parse : {E : Type 0} (r : Result (List ℕ) E) (e : E) (p o : Option (List ℕ)) → p ≡ o → r ≡ Err e → (IsOk r ↔ ((u : List ℕ) × (p ≡ Some u))) → p ≡ None
by_parse r e p None is failed h = is
by_parse {E} r e p (Some u) is failed h = let bad : false ≡ true = subst (λ (q : Result (List ℕ) E). IsOk q) failed (h.1 (u, is)) in absurd cc

pub not_parsed : {E : Type 0} (r : Result (List ℕ) E) (e : E) (p : Option (List ℕ)) → r ≡ Err e → (IsOk r ↔ ((u : List ℕ) × (p ≡ Some u))) → p ≡ None
not_parsed r e p failed h = by_parse r e p p refl failed h
