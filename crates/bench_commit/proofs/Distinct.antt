-- Lists that the tests of paths let through.
use Rattle.std.proofs.Common.{◌≡◌, ℕ, zero, suc, Bool, true, false, ◌&&◌, not, List, [], ◌∷◌, map, Some, refl, sym, ◌∙◌, ap}
use Rattle.std.specs.List.{slice_get, list_all, AllByRecursion, IsDistinct}
use Rattle.std.specs.Str.{bytes_eq}
use Rattle.std.proofs.lemmas.Slice.Eq.{bytes_eq-Decides}
use Rattle.std.proofs.lemmas.Bool.{and_parts}
use Rattle.st_rack.specs.Device.{Path}
use Rattle.st_rack.specs.Calls.{Devices, path_in}
use Rattle.st_memrack.specs.Blank as blank
use Rattle.st_commit.specs.Ready as commit
use Rattle.bench_commit.specs.Paths.{differs, all_differ, all_rows_differ}

unlike : (b : Bool) → not b ≡ true → b ≡ false
unlike true e = absurd cc
unlike false e = refl

clash : (b : Bool) → b ≡ true → not b ≡ true → ⊥
clash true e f = cc
clash false e f = cc

some_inj : (a b : Path) → Some a ≡ Some b → a ≡ b
some_inj a b e = cc

apart_from : (path : Path) (rows : Devices) → list_all (λ (other : Path × ℕ). differs path other.0) rows ≡ true → AllByRecursion (λ (q : Path). bytes_eq path q ≡ false) (map path_in rows)
apart_from path [] all = tt
apart_from path (row ∷ rows) all =
    let parts = and_parts (differs path row.0) (list_all (λ (other : Path × ℕ). differs path other.0) rows) all in
    (unlike (bytes_eq path row.0) parts.0, apart_from path rows parts.1)

pub rows_distinct : (rows : Devices) → all_rows_differ rows ≡ true → blank.AreDistinct rows
unfolding IsDistinct
rows_distinct [] all = tt
rows_distinct (row ∷ rows) all =
    let parts = and_parts (list_all (λ (other : Path × ℕ). differs row.0 other.0) rows) (all_rows_differ rows) all in
    (apart_from row.0 rows parts.0, rows_distinct rows parts.1)

differs_at : (path : Path) (paths : List Path) (j : ℕ) (d : Path) → list_all (differs path) paths ≡ true → slice_get paths j ≡ Some d → path ≡ d → ⊥
differs_at path [] j d all at same = cc
differs_at path (other ∷ paths) zero d all at same =
    clash (bytes_eq path other) ((bytes_eq-Decides path other).1 (same ∙ sym (some_inj other d at))) (and_parts (differs path other) (list_all (differs path) paths) all).0
differs_at path (other ∷ paths) (suc j) d all at same = differs_at path paths j d (and_parts (differs path other) (list_all (differs path) paths) all).1 at same

pub paths_distinct : (paths : List Path) → all_differ paths ≡ true → commit.AreDistinct paths
paths_distinct [] all i j d a b = absurd cc
paths_distinct (path ∷ paths) all zero zero d a b = refl
paths_distinct (path ∷ paths) all zero (suc j) d a b =
    absurd (differs_at path paths j d (and_parts (list_all (differs path) paths) (all_differ paths) all).0 b (some_inj path d a))
paths_distinct (path ∷ paths) all (suc i) zero d a b =
    absurd (differs_at path paths i d (and_parts (list_all (differs path) paths) (all_differ paths) all).0 a (some_inj path d b))
paths_distinct (path ∷ paths) all (suc i) (suc j) d a b =
    ap suc (paths_distinct paths (and_parts (list_all (differs path) paths) (all_differ paths) all).1 i j d a b)
