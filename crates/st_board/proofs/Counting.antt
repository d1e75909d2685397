-- Racks without a common device have no more devices together than the engine.
use Rattle.std.proofs.Common.{◌≡◌, ℕ, ◌+◌, ◌≤◌, Bool, true, false, ◌||◌, cond, length, List, [], ◌∷◌, ◌++◌, map, Some, is_some, Less, refl, sym, ◌∙◌, ap, arith}
use Rattle.std.specs.List.{AllByRecursion, IsDistinct, list_any}
use Rattle.std.specs.List.Sorted.{IsStrictlySortedBy}
use Rattle.std.specs.Ordering.{nat_cmp, is_eq}
use Rattle.std.specs.Cmp.Lexicographic.{slice_cmp}
use Rattle.std.specs.Str.{bytes_eq}
use Rattle.std.proofs.lemmas.Cmp.{nat_list_eq_equiv}
use Rattle.std.proofs.lemmas.Map.Made.{length-le_from_is_member}
use Rattle.std.proofs.lemmas.Map.Text.{is_eq-slice_cmp}
use Rattle.std.proofs.lemmas.Slice.Eq.{bytes_eq-Decides}
use Rattle.st_units.specs.declared.rows.DevRow.{DevRow}
use Rattle.st_model.specs.Look.{row_of}
use Rattle.st_rack.specs.Device.{Path}
use Rattle.st_rack.specs.Calls.{Devices, Has, Rises, path_in, sectors_of}

abbrev is_in : List Path → Path → Bool
is_in ps q = list_any (bytes_eq q) ps

less_apart : (a b : Path) → slice_cmp nat_cmp a b ≡ Less → bytes_eq a b ≡ false
less_apart a b h = sym (is_eq-slice_cmp a b) ∙ ap is_eq h

all_apart : (a : Path) (ps : List Path) → AllByRecursion (λ (q : Path). slice_cmp nat_cmp a q ≡ Less) ps → AllByRecursion (λ (q : Path). bytes_eq a q ≡ false) ps
all_apart a [] h = tt
all_apart a (p ∷ ps) h = (less_apart a p h.0, all_apart a ps h.1)

rising : (ds : Devices) → Rises ds → IsDistinct bytes_eq (map path_in ds)
unfolding IsStrictlySortedBy IsDistinct
rising [] h = tt
rising (d ∷ ds) h = (all_apart d.0 (map path_in ds) h.0, rising ds h.1)

turned : (a b : Path) → bytes_eq a b ≡ true → bytes_eq b a ≡ true
turned a b e = (bytes_eq-Decides b a).1 (sym ((bytes_eq-Decides a b).0 e))

has_in : (q : Path) (ds : Devices) → is_in (map path_in ds) q ≡ true → (n : ℕ) × Has ds q n
has_in q [] e = absurd cc
has_in q (d ∷ ds) e = by (bytes_eq d.0 q) refl (bytes_eq q d.0) refl e (has_in q ds)
  where
    by : (b : Bool) → bytes_eq d.0 q ≡ b → (c : Bool) → bytes_eq q d.0 ≡ c → (c || is_in (map path_in ds) q) ≡ true → (is_in (map path_in ds) q ≡ true → (n : ℕ) × Has ds q n)
        → (n : ℕ) × (cond b (Some d.1) (sectors_of ds q) ≡ Some n)
    by true h c k e rest = (d.1, refl)
    by false h true k e rest = absurd (let t = turned q d.0 k in cc)
    by false h false k e rest = rest e

in_rows : (q : Path) (rows : List DevRow) → is_some (row_of q rows) ≡ true → is_in (map (λ (row : DevRow). row.path) rows) q ≡ true
in_rows q [] e = absurd cc
in_rows q (r ∷ rs) e = by (bytes_eq r.path q) refl e (in_rows q rs)
  where
    or_second : (a b : Bool) → b ≡ true → (a || b) ≡ true
    or_second true b e = refl
    or_second false b e = e

    by : (b : Bool) → bytes_eq r.path q ≡ b → is_some (cond b (Some r) (row_of q rs)) ≡ true → (is_some (row_of q rs) ≡ true → is_in (map (λ (row : DevRow). row.path) rs) q ≡ true)
        → (bytes_eq q r.path || is_in (map (λ (row : DevRow). row.path) rs) q) ≡ true
    by true h e rest = ap (λ c. c || is_in (map (λ (row : DevRow). row.path) rs) q) (turned r.path q h)
    by false h e rest = or_second (bytes_eq q r.path) _ (rest e)

none_in : (a : Path) (ps : List Path) → is_in ps a ≡ false → AllByRecursion (λ (q : Path). bytes_eq a q ≡ false) ps
none_in a [] h = tt
none_in a (p ∷ ps) h = by (bytes_eq a p) refl h (none_in a ps)
  where
    by : (b : Bool) → bytes_eq a p ≡ b → (b || is_in ps a) ≡ false → (is_in ps a ≡ false → AllByRecursion (λ (q : Path). bytes_eq a q ≡ false) ps) → (bytes_eq a p ≡ false) × AllByRecursion (λ (q : Path). bytes_eq a q ≡ false) ps
    by true e k rest = absurd cc
    by false e k rest = (e, rest k)

all_both : (P : Path → Type 0) (xs ys : List Path) → AllByRecursion P xs → AllByRecursion P ys → AllByRecursion P (xs ++ ys)
all_both P [] ys h g = g
all_both P (x ∷ xs) ys h g = (h.0, all_both P xs ys h.1 g)

distinct_both : (xs ys : List Path) → IsDistinct bytes_eq xs → IsDistinct bytes_eq ys → AllByRecursion (λ (q : Path). is_in ys q ≡ false) xs → IsDistinct bytes_eq (xs ++ ys)
unfolding IsDistinct
distinct_both [] ys h g other = g
distinct_both (x ∷ xs) ys h g other = (all_both (λ (q : Path). bytes_eq x q ≡ false) xs ys h.0 (none_in x ys other.0), distinct_both xs ys h.1 g other.1)

in_both : (q : Path) (xs ys : List Path) → is_in (xs ++ ys) q ≡ (is_in xs q || is_in ys q)
in_both q [] ys = refl
in_both q (x ∷ xs) ys = by (bytes_eq q x) (in_both q xs ys)
  where
    by : (b : Bool) → is_in (xs ++ ys) q ≡ (is_in xs q || is_in ys q) → (b || is_in (xs ++ ys) q) ≡ ((b || is_in xs q) || is_in ys q)
    by true h = refl
    by false h = h

length_both : (xs ys : List Path) → length (xs ++ ys) ≡ length xs + length ys
length_both [] ys = omega arith
length_both (x ∷ xs) ys = let rest = length_both xs ys in omega (arith, rest)

length_paths : (ds : Devices) → length (map path_in ds) ≡ length ds
length_paths [] = refl
length_paths (d ∷ ds) = let rest = length_paths ds in omega (arith, rest)

length_rows : (rows : List DevRow) → length (map (λ (row : DevRow). row.path) rows) ≡ length rows
length_rows [] = refl
length_rows (r ∷ rs) = let rest = length_rows rs in omega (arith, rest)

each_off : (xs ys : Devices) → ((p : Path) (n : ℕ) → Has xs p n → is_some (sectors_of ys p) ≡ false) → (ds : Devices) → ((q : Path) → is_in (map path_in ds) q ≡ true → is_in (map path_in xs) q ≡ true)
    → AllByRecursion (λ (q : Path). is_in (map path_in ys) q ≡ false) (map path_in ds)
each_off xs ys apart [] within = tt
each_off xs ys apart (d ∷ ds) within = (here (is_in (map path_in ys) d.0) refl, each_off xs ys apart ds (λ q e. within q (or_second (bytes_eq q d.0) (is_in (map path_in ds) q) e)))
  where
    or_second : (a b : Bool) → b ≡ true → (a || b) ≡ true
    or_second true b e = refl
    or_second false b e = e

    own : is_in (map path_in (d ∷ ds)) d.0 ≡ true
    own = ap (λ b. b || is_in (map path_in ds) d.0) ((bytes_eq-Decides d.0 d.0).1 refl)

    here : (b : Bool) → is_in (map path_in ys) d.0 ≡ b → is_in (map path_in ys) d.0 ≡ false
    here true e =
        let mine = has_in d.0 xs (within d.0 own) in
        let other = has_in d.0 ys e in
        let off = apart d.0 mine.0 mine.1 in
        let on : is_some (sectors_of ys d.0) ≡ true = ap is_some other.1 in
        absurd cc
    here false e = e

pub no_more : (rows : List DevRow) (xs ys : Devices) → Rises xs → Rises ys → ((p : Path) (n : ℕ) → Has xs p n → is_some (row_of p rows) ≡ true) → ((p : Path) (n : ℕ) → Has ys p n → is_some (row_of p rows) ≡ true)
    → ((p : Path) (n : ℕ) → Has xs p n → is_some (sectors_of ys p) ≡ false) → length xs + length ys ≤ length rows
no_more rows xs ys rx ry tx ty apart =
    let ps = map path_in xs in let qs = map path_in ys in
    let both = distinct_both ps qs (rising xs rx) (rising ys ry) (each_off xs ys apart xs (λ q e. e)) in
    let few : length (ps ++ qs) ≤ length (map (λ (row : DevRow). row.path) rows) = length-le_from_is_member nat_list_eq_equiv (ps ++ qs) (map (λ (row : DevRow). row.path) rows) both (λ q e. within q (is_in ps q) refl (sym (in_both q ps qs) ∙ e)) in
    let a = length_both ps qs in let b = length_paths xs in let c = length_paths ys in let d = length_rows rows in
    omega (arith, few, a, b, c, d)
  where
    within : (q : Path) (b : Bool) → is_in (map path_in xs) q ≡ b → (b || is_in (map path_in ys) q) ≡ true → is_in (map (λ (row : DevRow). row.path) rows) q ≡ true
    within q true e k = let has = has_in q xs e in in_rows q rows (tx q has.0 has.1)
    within q false e k = let has = has_in q ys k in in_rows q rows (ty q has.0 has.1)
