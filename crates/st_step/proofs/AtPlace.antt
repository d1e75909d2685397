-- changing the pool of a name is putting the changed pool in its place
use Rattle.std.proofs.Common.{◌≡◌, ℕ, zero, suc, ◌&&◌, ◌⊎◌, inl, inr, List, [], ◌∷◌, Bool, true, false, cond, map, Some, slice_get, slice_set, refl, sym, ap, subst}
use Rattle.std.specs.List.{AllByRecursion}
use Rattle.st_units.specs.declared.rows.DevRow.{DevRow}
use Rattle.st_model.specs.declared.state.PoolState.{PoolState}
use Rattle.st_model.specs.Lifted.{one_changed, runs_as}
use Rattle.st_model.specs.Look.{Text, holds, is_called, is_up}
use Rattle.st_model.specs.Valid.{Apart}
use Rattle.st_model.specs.ValidPool.{EachPair}
use Rattle.st_model.proofs.Among.{IsIn}

both : (a b : Bool) → (a && b) ≡ true → (a ≡ true) × (b ≡ true)
both true true h = (refl, refl)
both true false h = absurd cc
both false b h = absurd cc

or_left : (a b : Bool) → a ≡ true → Rattle.std.specs.Prelude.◌||◌ a b ≡ true
or_left true b h = refl
or_left false b h = absurd cc

runs_holds : (name : Text) (p : PoolState) → runs_as name p ≡ true → holds name p ≡ true
runs_holds name p h = or_left (is_called name p) _ (both (is_up p.mode) (is_called name p) h).1

stays : (rows : List DevRow) (name : Text) (g : PoolState → PoolState) (p q : PoolState) → holds name p ≡ true → Apart rows p q ⊎ Apart rows q p → one_changed name g q ≡ q
stays rows name g p q own a = here (runs_as name q) refl a
  where
    here : (b : Bool) → runs_as name q ≡ b → Apart rows p q ⊎ Apart rows q p → cond b (g q) q ≡ q
    here true e (inl a) = absurd (a.names name own (runs_holds name q e))
    here true e (inr a) = absurd (a.names name (runs_holds name q e) own)
    here false e a = refl

all_stay : (rows : List DevRow) (name : Text) (g : PoolState → PoolState) (p : PoolState) (qs : List PoolState) → holds name p ≡ true → AllByRecursion (Apart rows p) qs → map (one_changed name g) qs ≡ qs
all_stay rows name g p [] own a = refl
all_stay rows name g p (q ∷ qs) own a = rw (stays rows name g p q own (inl a.0), all_stay rows name g p qs own a.1) refl

got : (rows : List DevRow) (x : PoolState) (ps : List PoolState) (i : ℕ) (p : PoolState) → AllByRecursion (Apart rows x) ps → slice_get ps i ≡ Some p → Apart rows x p
got rows x [] i p a h = absurd cc
got rows x (y ∷ ps) zero p a h = let same : y ≡ p = cc in subst (λ (z : PoolState). Apart rows x z) same a.0
got rows x (y ∷ ps) (suc i) p a h = got rows x ps i p a.1 h

pub changed-place : (rows : List DevRow) (name : Text) (g : PoolState → PoolState) (ps : List PoolState) (i : ℕ) (p : PoolState) → EachPair (Apart rows) ps → slice_get ps i ≡ Some p → runs_as name p ≡ true
    → map (one_changed name g) ps ≡ slice_set ps i (g p)
changed-place rows name g [] i p a h r = absurd cc
changed-place rows name g (x ∷ ps) zero p a h r =
    let same : x ≡ p = cc in
    let first : one_changed name g x ≡ g p = rw (same, r) refl in
    rw (first, all_stay rows name g x ps (subst (λ (z : PoolState). holds name z ≡ true) (sym same) (runs_holds name p r)) a.0) refl
changed-place rows name g (x ∷ ps) (suc i) p a h r =
    rw (stays rows name g p x (runs_holds name p r) (inr (got rows x ps i p a.0 h)), changed-place rows name g ps i p a.1 h r) refl

-- the pool at the place is one of them
pub got_in : (ps : List PoolState) (i : ℕ) (p : PoolState) → slice_get ps i ≡ Some p → IsIn p ps
got_in [] i p h = absurd cc
got_in (x ∷ ps) zero p h = inl cc
got_in (x ∷ ps) (suc i) p h = inr (got_in ps i p h)

pub put_back : (ps : List PoolState) (i : ℕ) (p : PoolState) → slice_get ps i ≡ Some p → slice_set ps i p ≡ ps
put_back [] i p h = absurd cc
put_back (x ∷ ps) zero p h = let same : x ≡ p = cc in rw same refl
put_back (x ∷ ps) (suc i) p h = ap (λ t. x ∷ t) (put_back ps i p h)
