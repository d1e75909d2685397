-- Places are distinct where the sorted ones rise strictly.
use Rattle.std.proofs.Common.{◌≡◌, ℕ, Bool, true, false, List, map, subst, arith}
use Rattle.std.specs.Prelude.{nat_lt, nat_eq}
use Rattle.std.specs.Bool.{Decides}
use Rattle.std.specs.List.{slice_index_or, IsDistinct}
use Rattle.std.specs.List.Sorted.{IsPermutation, IsSorted}
use Rattle.std.specs.Ordering.{nat_cmp}
use Rattle.std.proofs.lemmas.Bool.Decides.{Decides-ltb, nat_tests}
use Rattle.std.proofs.lemmas.List.Sorted.{IsPermutation-sym, IsNonDecreasingBy-from_sort}
use Rattle.std.proofs.lemmas.Map.Keys.{IsDistinct-from_apart, IsDistinct-IsPermutation, IsStrictlyIncreasing-from_distinct, sorted_from_strictly_increasing, below_from_sorted}
use Rattle.st_flexrec.specs.declared.rows.CellRow.{CellRow}
use Rattle.st_flexrec.specs.Order.{Rises}
use Rattle.st_flexrec.specs.Cells.{place_of, HaveOwnPlaces}

flips : (x y : ℕ) → nat_eq x y ≡ nat_eq y x
flips x y = grind (arith, nat_tests)

apart : (x y : ℕ) → nat_lt x y ≡ true → nat_eq x y ≡ false
apart x y h = grind (arith, nat_tests)

from_rising : (places sorted : List ℕ) → IsPermutation places sorted → Rises nat_lt sorted → IsDistinct nat_eq places
from_rising places sorted moved rise =
    IsDistinct-IsPermutation nat_eq flips sorted places (IsPermutation-sym places sorted moved)
    (IsDistinct-from_apart nat_eq sorted (λ i j d lower h. apart (slice_index_or sorted i d) (slice_index_or sorted j d) (rise i j d lower h)))

to_rising : (places sorted : List ℕ) → IsPermutation places sorted → IsSorted nat_cmp sorted → IsDistinct nat_eq places → Rises nat_lt sorted
to_rising places sorted moved in_order own =
    let differ = IsDistinct-IsPermutation nat_eq flips places sorted moved own in
    let rise = sorted_from_strictly_increasing sorted (IsStrictlyIncreasing-from_distinct sorted (IsNonDecreasingBy-from_sort (λ x. x) sorted in_order) differ) in
    λ i j d lower h. (Decides-ltb (slice_index_or sorted i d) (slice_index_or sorted j d)).1 (below_from_sorted sorted i j d rise lower h)

pub own_by_sorting : (rows : List CellRow) (places sorted tested : List ℕ) (r : Bool) → places ≡ map place_of rows → tested ≡ sorted → IsPermutation places sorted → IsSorted nat_cmp sorted → Decides r (Rises nat_lt tested) → Decides r (HaveOwnPlaces rows)
own_by_sorting rows places sorted tested r is_places is_tested moved in_order rising =
    let rise : Decides r (Rises nat_lt sorted) = subst (λ (l : List ℕ). Decides r (Rises nat_lt l)) is_tested rising in
    subst (λ (l : List ℕ). Decides r (IsDistinct nat_eq l)) is_places ((λ e. from_rising places sorted moved (rise.0 e)), (λ own. rise.1 (to_rising places sorted moved in_order own)))
