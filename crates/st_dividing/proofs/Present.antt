-- The paths of rows that a rack has.
use Rattle.std.proofs.Common.{◌≡◌, ℕ, zero, suc, ◌+◌, Bool, true, false, cond, List, [], ◌∷◌, ◌++◌, take, map, Option, Some, None, refl, sym, ◌∙◌, ap, subst, arith}
use Rattle.std.specs.Prelude.{filter, is_some}
use Rattle.std.specs.List.{slice_get, AllByRecursion, IsDistinct}
use Rattle.std.specs.Str.{bytes_eq}
use Rattle.st_units.specs.declared.rows.DevRow.{DevRow}
use Rattle.st_rack.specs.Device.{Path}
use Rattle.st_rack.specs.Calls.{Devices, Has, names, sectors_of}
use Rattle.st_parting.proofs.Newest.{none_some, some_same}
use Rattle.st_parting.proofs.Rows.{at_named, named_at}
use Rattle.st_dividing.specs.Divided.{path_of_row, present_of}

abbrev pub is_here : Devices → Path → Bool
is_here devs p = is_some (sectors_of devs p)

filtered_at : (P : Path → Bool) (ps : List Path) (k : ℕ) (p : Path) → slice_get (filter P ps) k ≡ Some p → (j : ℕ) × (slice_get ps j ≡ Some p) × (P p ≡ true)
filtered_at P [] k p at = absurd (none_some p at)
filtered_at P (x ∷ xs) k p at = by (P x) refl k at (λ k at. filtered_at P xs k p at)
  where
    by : (b : Bool) → P x ≡ b → (k : ℕ) → slice_get (cond b (x ∷ filter P xs) (filter P xs)) k ≡ Some p → ((k : ℕ) → slice_get (filter P xs) k ≡ Some p → (j : ℕ) × (slice_get xs j ≡ Some p) × (P p ≡ true)) → (j : ℕ) × (slice_get (x ∷ xs) j ≡ Some p) × (P p ≡ true)
    by true e zero at later = (0, at, ap P (sym (some_same x p at)) ∙ e)
    by true e (suc k) at later = let rest = later k at in (suc rest.0, rest.1, rest.2)
    by false e k at later = let rest = later k at in (suc rest.0, rest.1, rest.2)

at_filtered : (P : Path → Bool) (ps : List Path) (j : ℕ) (p : Path) → slice_get ps j ≡ Some p → P p ≡ true → (k : ℕ) × (slice_get (filter P ps) k ≡ Some p)
at_filtered P [] j p at is = absurd (none_some p at)
at_filtered P (x ∷ xs) zero p at is = (0, subst (λ (b : Bool). slice_get (cond b (x ∷ filter P xs) (filter P xs)) 0 ≡ Some p) (sym (ap P (some_same x p at) ∙ is)) at)
at_filtered P (x ∷ xs) (suc j) p at is = by (P x) (at_filtered P xs j p at is)
  where
    by : (b : Bool) → (k : ℕ) × (slice_get (filter P xs) k ≡ Some p) → (k : ℕ) × (slice_get (cond b (x ∷ filter P xs) (filter P xs)) k ≡ Some p)
    by true rest = (suc rest.0, rest.1)
    by false rest = rest

-- a path is named just where a row has it and the rack too
pub named_present : (devs : Devices) (rows : List DevRow) (p : Path) → names (present_of devs rows) p ≡ true → (names (map path_of_row rows) p ≡ true) × (is_here devs p ≡ true)
named_present devs rows p named =
    let place = named_at (present_of devs rows) p named in
    let at = filtered_at (is_here devs) (map path_of_row rows) place.0 p place.1 in
    (at_named (map path_of_row rows) at.0 p at.1, at.2)

pub present_named : (devs : Devices) (rows : List DevRow) (p : Path) → names (map path_of_row rows) p ≡ true → is_here devs p ≡ true → names (present_of devs rows) p ≡ true
present_named devs rows p named here =
    let place = named_at (map path_of_row rows) p named in
    let at = at_filtered (is_here devs) (map path_of_row rows) place.0 p place.1 here in
    at_named (present_of devs rows) at.0 p at.1

some_there : (o : Option ℕ) → is_some o ≡ true → (n : ℕ) × (o ≡ Some n)
some_there None e = absurd (cc)
some_there (Some n) e = (n, refl)

pub present_there : (devs : Devices) (rows : List DevRow) (p : Path) → names (present_of devs rows) p ≡ true → (n : ℕ) × Has devs p n
present_there devs rows p named = some_there (sectors_of devs p) (named_present devs rows p named).1

-- fewer of distinct paths are distinct
fewer_apart : (P : Path → Bool) (Q : Path → Type 0) (ps : List Path) → AllByRecursion Q ps → AllByRecursion Q (filter P ps)
fewer_apart P Q [] all = tt
fewer_apart P Q (x ∷ xs) all = by (P x) (fewer_apart P Q xs all.1)
  where
    by : (b : Bool) → AllByRecursion Q (filter P xs) → AllByRecursion Q (cond b (x ∷ filter P xs) (filter P xs))
    by true rest = (all.0, rest)
    by false rest = rest

pub fewer_distinct : (P : Path → Bool) (ps : List Path) → IsDistinct bytes_eq ps → IsDistinct bytes_eq (filter P ps)
unfolding IsDistinct
fewer_distinct P [] all = tt
fewer_distinct P (x ∷ xs) all = by (P x) (fewer_distinct P xs all.1)
  where
    by : (b : Bool) → IsDistinct bytes_eq (filter P xs) → IsDistinct bytes_eq (cond b (x ∷ filter P xs) (filter P xs))
    by true rest = (fewer_apart P (λ (q : Path). bytes_eq x q ≡ false) xs all.0, rest)
    by false rest = rest

-- two racks that have the same of these rows
pub present_same : (a b : Devices) (rows : List DevRow) → ((p : Path) → names (map path_of_row rows) p ≡ true → is_here a p ≡ is_here b p) → present_of a rows ≡ present_of b rows
present_same a b [] same = refl
present_same a b (row ∷ rows) same =
    let rest = present_same a b rows (λ p named. same p (later p named)) in
    let here = same row.path (at_named (map path_of_row (row ∷ rows)) 0 row.path refl) in
    λ i. cond (here i) (row.path ∷ rest i) (rest i)
  where
    later : (p : Path) → names (map path_of_row rows) p ≡ true → names (map path_of_row (row ∷ rows)) p ≡ true
    later p named = let place = named_at (map path_of_row rows) p named in at_named (map path_of_row (row ∷ rows)) (suc place.0) p place.1

-- one row more
pub one_present : (devs : Devices) (rows : List DevRow) (i : ℕ) (row : DevRow) → slice_get rows i ≡ Some row → present_of devs (take i rows) ++ cond (is_here devs row.path) (row.path ∷ []) [] ≡ present_of devs (take (i + 1) rows)
one_present devs rows i row at = by rows i at ∙ ap (λ (k : ℕ). present_of devs (take k rows)) (next i)
  where
    next : (k : ℕ) → suc k ≡ k + 1
    next k = omega arith

    first : (x : DevRow) → cond (is_here devs x.path) (x.path ∷ []) [] ≡ present_of devs (x ∷ [])
    first x = refl

    push : (b : Bool) (x : Path) (xs ys : List Path) → cond b (x ∷ xs) xs ++ ys ≡ cond b (x ∷ (xs ++ ys)) (xs ++ ys)
    push true x xs ys = refl
    push false x xs ys = refl

    by : (rs : List DevRow) (k : ℕ) → slice_get rs k ≡ Some row → present_of devs (take k rs) ++ cond (is_here devs row.path) (row.path ∷ []) [] ≡ present_of devs (take (suc k) rs)
    by [] k at = absurd (none_some row at)
    by (x ∷ xs) zero at = let same = some_same x row at in ap (λ (r : DevRow). cond (is_here devs r.path) (r.path ∷ []) []) (sym same)
    by (x ∷ xs) (suc k) at = push (is_here devs x.path) x.path (present_of devs (take k xs)) (cond (is_here devs row.path) (row.path ∷ []) []) ∙ ap (λ (l : List Path). cond (is_here devs x.path) (x.path ∷ l) l) (by xs k at)
