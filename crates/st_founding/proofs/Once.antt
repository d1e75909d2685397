-- Paths, each once, and rows on them.
use Rattle.std.proofs.Common.{◌≡◌, ◌≢◌, ℕ, zero, suc, ◌≤◌, arith, Bool, true, false, cond, not, ◌||◌, length, List, [], ◌∷◌, map, Option, Some, is_some, refl, sym, ap, subst, ◌∙◌}
use Rattle.std.specs.Prelude.{option_map, ◌==◌}
use Rattle.std.specs.List.{AllByRecursion, IsDistinct, slice_get}
use Rattle.std.specs.Str.{bytes_eq}
use Rattle.std.proofs.lemmas.Slice.Eq.{bytes_eq-Decides}
use Rattle.st_units.specs.declared.rows.DevRow.{DevRow}
use Rattle.st_units.specs.declared.rows.Tier.{Tier}
use Rattle.st_model.specs.declared.state.PoolState.{PoolState}
use Rattle.st_model.specs.Checks.{rows_on}
use Rattle.st_model.specs.Look.{Text, distinct, has_path, row_of, uses, without}
use Rattle.st_model.specs.ValidPool.{EachPair}
use Rattle.st_rack.specs.Device.{Path}
use Rattle.st_rack.specs.Calls.{Devices, Has, sectors_of}
use Rattle.st_commit.specs.Ready.{AreDistinct}
use Rattle.st_image.specs.Survivors.{row_of as row_for}
use Rattle.st_board.proofs.Serials.{used, uses_known}

unequal : (p q : Text) → p ≢ q → bytes_eq p q ≡ false
unequal p q ne = here (bytes_eq p q) refl
  where
    here : (b : Bool) → bytes_eq p q ≡ b → b ≡ false
    here true e = absurd (ne ((bytes_eq-Decides p q).0 e))
    here false e = refl

own_path : (p : Text) → bytes_eq p p ≡ true
own_path p = (bytes_eq-Decides p p).1 refl

all_unequal : (p : Text) (ps : List Text) → AllByRecursion (λ q. p ≢ q) ps → AllByRecursion (λ q. bytes_eq p q ≡ false) ps
all_unequal p [] h = tt
all_unequal p (q ∷ ps) h = (unequal p q h.0, all_unequal p ps h.1)

pub distinct_paths : (ps : List Text) → EachPair (λ (a b : Text). a ≢ b) ps → IsDistinct bytes_eq ps
unfolding IsDistinct
distinct_paths [] h = tt
distinct_paths (p ∷ ps) h = (all_unequal p ps h.0, distinct_paths ps h.1)

never_at : (p : Text) (ps : List Text) (i : ℕ) → AllByRecursion (λ q. p ≢ q) ps → slice_get ps i ≡ Some p → ⊥
never_at p [] i h e = cc
never_at p (q ∷ ps) zero h e = h.0 cc
never_at p (q ∷ ps) (suc i) h e = never_at p ps i h.1 e

pub places_apart : (ps : List Text) → EachPair (λ (a b : Text). a ≢ b) ps → AreDistinct ps
places_apart [] h i j d a b = absurd cc
places_apart (p ∷ ps) h zero zero d a b = refl
places_apart (p ∷ ps) h zero (suc j) d a b = absurd (let same : p ≡ d = cc in never_at p ps j h.0 (subst (λ x. slice_get ps j ≡ Some x) (sym same) b))
places_apart (p ∷ ps) h (suc i) zero d a b = absurd (let same : p ≡ d = cc in never_at p ps i h.0 (subst (λ x. slice_get ps i ≡ Some x) (sym same) a))
places_apart (p ∷ ps) h (suc i) (suc j) d a b = ap suc (places_apart ps h.1 i j d a b)

or_second : (a b : Bool) → b ≡ true → (a || b) ≡ true
or_second true b k = refl
or_second false b k = k

pub named_at : (ps : List Text) (i : ℕ) (d : Text) → slice_get ps i ≡ Some d → has_path d ps ≡ true
named_at [] i d e = absurd cc
named_at (p ∷ ps) zero d e = let same : p ≡ d = cc in ap (λ b. b || has_path d ps) (subst (λ x. bytes_eq p x ≡ true) same (own_path p))
named_at (p ∷ ps) (suc i) d e = or_second (bytes_eq p d) (has_path d ps) (named_at ps i d e)

kept_without : (p path : Text) (ps : List Text) → bytes_eq p path ≡ false → has_path path ps ≡ true → has_path path (without p ps) ≡ true
kept_without p path [] off h = h
kept_without p path (q ∷ ps) off h = by (bytes_eq p q) refl (bytes_eq q path) refl h (kept_without p path ps off)
  where
    by : (b : Bool) → bytes_eq p q ≡ b → (c : Bool) → bytes_eq q path ≡ c → (c || has_path path ps) ≡ true → (has_path path ps ≡ true → has_path path (without p ps) ≡ true) → has_path path (cond (not b) (q ∷ without p ps) (without p ps)) ≡ true
    by true e true k h ih = absurd (let same : bytes_eq p path ≡ true = subst (λ x. bytes_eq p x ≡ true) ((bytes_eq-Decides q path).0 k) e in cc)
    by true e false k h ih = ih h
    by false e true k h ih = ap (λ b. b || has_path path (without p ps)) k
    by false e false k h ih = or_second (bytes_eq q path) (has_path path (without p ps)) (ih h)

-- what is given stands among the paths, each once
pub once_has : (path : Text) (ps : List Text) → has_path path ps ≡ true → has_path path (distinct ps) ≡ true
once_has path [] h = h
once_has path (p ∷ ps) h = by (bytes_eq p path) refl h (once_has path ps)
  where
    by : (b : Bool) → bytes_eq p path ≡ b → (b || has_path path ps) ≡ true → (has_path path ps ≡ true → has_path path (distinct ps) ≡ true) → (b || has_path path (without p (distinct ps))) ≡ true
    by true e k ih = refl
    by false e k ih = kept_without p path (distinct ps) e (ih k)

pub once_some : (ps : List Text) → (length ps == 0) ≡ false → 1 ≤ length (distinct ps)
once_some [] e = absurd cc
once_some (p ∷ ps) e = omega arith

pub on_paths : (tier : Tier) (rack : List DevRow) (ps : List Text) → map (λ (row : DevRow). row.path) (rows_on tier rack ps) ≡ ps
on_paths tier rack [] = refl
on_paths tier rack (p ∷ ps) = ap (λ rest. p ∷ rest) (on_paths tier rack ps)

pub row_on : (path : Text) (tier : Tier) (rack : List DevRow) (ps : List Text) → is_some (row_of path (rows_on tier rack ps)) ≡ has_path path ps
row_on path tier rack [] = refl
row_on path tier rack (p ∷ ps) = by (bytes_eq p path) _ (row_of path (rows_on tier rack ps)) (row_on path tier rack ps)
  where
    by : (b : Bool) (r : DevRow) (o : Option DevRow) → is_some o ≡ has_path path ps → is_some (cond b (Some r) o) ≡ (b || has_path path ps)
    by true r o h = refl
    by false r o h = h

pub unused : (path : Text) (ps : List PoolState) → AllByRecursion (λ p. uses path p ≡ false) ps → used path ps ≡ false
unused path [] h = refl
unused path (p ∷ ps) h = ap (λ b. b || used path ps) (uses_known path p ∙ h.0) ∙ unused path ps h.1

-- the rows of a rack's devices have their sectors
pub rack_row : (ds : Devices) (p : Path) (n : ℕ) → Has ds p n → option_map (λ (row : DevRow). row.sectors) (row_of p (map row_for ds)) ≡ Some n
rack_row [] p n has = absurd cc
rack_row (d ∷ ds) p n has = by (bytes_eq d.0 p) has (rack_row ds p n)
  where
    by : (b : Bool) → cond b (Some d.1) (sectors_of ds p) ≡ Some n → (Has ds p n → option_map (λ (row : DevRow). row.sectors) (row_of p (map row_for ds)) ≡ Some n)
        → option_map (λ (row : DevRow). row.sectors) (cond b (Some (row_for d)) (row_of p (map row_for ds))) ≡ Some n
    by true k ih = k
    by false k ih = ih k
