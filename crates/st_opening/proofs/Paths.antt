-- The paths of a rack's devices.
use Rattle.std.proofs.Common.{◌≡◌, inl, inr, ℕ, zero, suc, ◌<◌, false, List, [], ◌∷◌, map, Some, sym, ◌∙◌, ap, subst, arith, Less}
use Rattle.std.specs.List.{slice_get, AllByRecursion}
use Rattle.std.specs.List.Sorted.{IsStrictlySortedBy}
use Rattle.std.specs.Str.{bytes_eq}
use Rattle.std.specs.Ordering.{nat_cmp, is_eq}
use Rattle.std.specs.Cmp.Lexicographic.{slice_cmp}
use Rattle.std.proofs.lemmas.Map.Text.{is_eq-slice_cmp}
use Rattle.std.proofs.lemmas.Bool.{cases_lt}
use Rattle.st_rack.specs.Device.{Path, State}
use Rattle.st_rack.specs.Calls.{Devices, Has, Rises, path_in}
use Rattle.st_deltalog.specs.Bearing.{IsSettled}
use Rattle.st_commit.specs.Ready.{AreDistinct, IsOf}
use Rattle.st_judge.proofs.Placed.{has_at}
use Rattle.st_parting.specs.Found.{AllSettled}
use Rattle.st_parting.proofs.Newest.{none_some, some_same}
use Rattle.st_parting.proofs.Rows.{all_at, at_mapped, equal, mapped_at, not_both}
use Rattle.st_parting.proofs.Finding.{place_of}

first_below : (p : Path) (ps : List Path) → IsStrictlySortedBy (slice_cmp nat_cmp) (p ∷ ps) → AllByRecursion (λ (q : Path). slice_cmp nat_cmp p q ≡ Less) ps
unfolding IsStrictlySortedBy
first_below p ps h = h.0

rest_rises : (p : Path) (ps : List Path) → IsStrictlySortedBy (slice_cmp nat_cmp) (p ∷ ps) → IsStrictlySortedBy (slice_cmp nat_cmp) ps
unfolding IsStrictlySortedBy
rest_rises p ps h = h.1

less_apart : (x y : Path) → slice_cmp nat_cmp x y ≡ Less → bytes_eq x y ≡ false
less_apart x y h = sym (is_eq-slice_cmp x y) ∙ ap is_eq h

once : (ps : List Path) (i j : ℕ) (p : Path) → IsStrictlySortedBy (slice_cmp nat_cmp) ps → slice_get ps i ≡ Some p → slice_get ps j ≡ Some p → i < j → ⊥
once [] i j p rises at_i at_j lt = none_some p at_i
once (x ∷ xs) zero zero p rises at_i at_j lt = absurd (omega arith)
once (x ∷ xs) (suc i) zero p rises at_i at_j lt = absurd (omega arith)
once (x ∷ xs) zero (suc j) p rises at_i at_j lt =
    not_both (bytes_eq x p) (equal x p (some_same x p at_i)) (less_apart x p (all_at (λ (q : Path). slice_cmp nat_cmp x q ≡ Less) xs j p (first_below x xs rises) at_j))
once (x ∷ xs) (suc i) (suc j) p rises at_i at_j lt = once xs i j p (rest_rises x xs rises) at_i at_j (omega (arith, lt))

pub paths_distinct : (devs : Devices) → Rises devs → AreDistinct (map path_in devs)
paths_distinct devs rises i j p at_i at_j = elim (cases_lt i j) [
  | inl lt ↦ absurd (once (map path_in devs) i j p rises at_i at_j lt)
  | inr ge ↦ elim (cases_lt j i) [
    | inl lt ↦ absurd (once (map path_in devs) j i p rises at_j at_i lt)
    | inr le ↦ omega (arith, ge, le)
  ]
]

pub path_has : (devs : Devices) → Rises devs → (p : Path) → IsOf (map path_in devs) p → (n : ℕ) × Has devs p n
path_has devs rises p of =
    let dev = mapped_at path_in devs of.index p of.is in
    (dev.0.1, subst (λ (q : Path). Has devs q dev.0.1) dev.2 (has_at devs of.index dev.0 rises dev.1))

pub has_path : (devs : Devices) (p : Path) (n : ℕ) → Has devs p n → IsOf (map path_in devs) p
has_path devs p n has = let place = place_of devs p n has in record { index = place.0; is = at_mapped path_in devs place.0 (p, n) place.1 }

pub all_settled : (devs : Devices) (s : State) → ((p : Path) → IsOf (map path_in devs) p → IsSettled (s p)) → AllSettled devs s
all_settled devs s each p n has = each p (has_path devs p n has)
