-- rows whose serials rise: found by serial, changed, taken out, and one more behind
use Rattle.std.proofs.Common.{◌≡◌, ◌≢◌, ℕ, ◌<◌, arith, get_or, set, remove, List, [], ◌∷◌, ◌++◌, Bool, true, false, cond, not, ◌||◌, ◌&&◌, eqb, ltb, lt-ltb, bytes_eq, map, Option, Some, Ordering, Less, Equal, Greater, Result, Ok, Err, IfOk, IfErr, refl, sym, ap, subst, ◌∙◌}
use Rattle.std.specs.Prelude.{filter}
use Rattle.std.specs.List.{AllByRecursion}
use Rattle.std.specs.Ordering.{nat_cmp, ordering_then}
use Rattle.std.specs.Cmp.Lexicographic.{slice_cmp}
use Rattle.std.proofs.lemmas.Bool.Decides.{Decides-eqb}
use Rattle.st_units.specs.declared.rows.FsRow.{FsRow}
use Rattle.st_order.specs.Sorted.{Text, IsRising}
use Rattle.st_order.proofs.Order.{text_cmp, eq_same, eq_self, rising_more, rising_none, filter_none, all_filtered, Searched, found, others, absent, changed as changed_there}
use Rattle.st_order.proofs.Lists.{find_same, filter_same, any_same, map_same, or_first, or_second}
use Rattle.st_fstable.specs.Rows.{AreApart, AreRows, has_serial, has_name, row_at, is_there, is_called, without, changed}

-- ---- a serial as a text of one number

abbrev pub serial_text : FsRow → Text
serial_text row = row.serial ∷ []

then_equal : (o : Ordering) → ordering_then o Equal ≡ o
then_equal Less = refl
then_equal Equal = refl
then_equal Greater = refl

pub one_cmp : (a b : ℕ) → slice_cmp nat_cmp (a ∷ []) (b ∷ []) ≡ nat_cmp a b
one_cmp a b = then_equal (nat_cmp a b)

and_true : (b : Bool) → (b && true) ≡ b
and_true true = refl
and_true false = refl

pub one_eq : (a b : ℕ) → bytes_eq (a ∷ []) (b ∷ []) ≡ eqb a b
one_eq a b = and_true (eqb a b)

less_than : (a b : ℕ) → a < b → nat_cmp a b ≡ Less
less_than a b h = let e : ltb a b ≡ true = lt-ltb a b h in rw e refl

pub unequal : (a b : ℕ) → a < b → eqb b a ≡ false
unequal a b h = here (eqb b a) refl
  where
    here : (e : Bool) → eqb b a ≡ e → e ≡ false
    here true k = absurd (let same : b ≡ a = (Decides-eqb b a).0 k in omega (arith, h, same))
    here false k = refl

pub unequal_back : (a b : ℕ) → a < b → eqb a b ≡ false
unequal_back a b h = here (eqb a b) refl
  where
    here : (e : Bool) → eqb a b ≡ e → e ≡ false
    here true k = absurd (let same : a ≡ b = (Decides-eqb a b).0 k in omega (arith, h, same))
    here false k = refl

pub itself : (n : ℕ) → eqb n n ≡ true
itself n = (Decides-eqb n n).1 refl

above_all : (x : FsRow) (xs : List FsRow) → AllByRecursion (AreApart x) xs → AllByRecursion (λ t. text_cmp (serial_text x) t ≡ Less) (map serial_text xs)
above_all x [] h = tt
above_all x (y ∷ ys) h = (one_cmp x.serial y.serial ∙ less_than x.serial y.serial h.0.serials, above_all x ys h.1)

pub serials_rise : (rows : List FsRow) → AreRows rows → IsRising (map serial_text rows)
serials_rise [] h = rising_none serial_text
serials_rise (x ∷ xs) h = rising_more serial_text x xs (above_all x xs h.0) (serials_rise xs h.1)

-- ---- what a search by serial finds

abbrev at_serial : ℕ → FsRow → Bool
at_serial serial row = bytes_eq (serial_text row) (serial ∷ [])

as_serial : (serial : ℕ) (row : FsRow) → at_serial serial row ≡ has_serial serial row
as_serial serial row = one_eq row.serial serial

module _ (serial : ℕ) (rows : List FsRow) (r : Result ℕ ℕ) (apart : AreRows rows) (says : Searched serial_text (serial ∷ []) rows r) where
  pub found_row : IfOk r (λ i. (d : FsRow) → row_at serial rows ≡ Some (get_or rows i d))
  found_row = subst (λ (o : Option FsRow). IfOk r (λ i. (d : FsRow) → o ≡ Some (get_or rows i d))) (find_same (at_serial serial) (has_serial serial) (as_serial serial) rows) (found serial_text (serial ∷ []) rows r (serials_rise rows apart) says)

  pub other_rows : IfOk r (λ i. remove rows i ≡ without serial rows)
  other_rows = subst (λ (ys : List FsRow). IfOk r (λ i. remove rows i ≡ ys)) (filter_same (λ row. not (at_serial serial row)) (λ row. not (has_serial serial row)) (λ row. ap not (as_serial serial row)) rows) (others serial_text (serial ∷ []) rows r (serials_rise rows apart) says)

  pub no_row : IfErr r (λ i. is_there serial rows ≡ false)
  no_row = subst (λ (b : Bool). IfErr r (λ i. b ≡ false)) (any_same (at_serial serial) (has_serial serial) (as_serial serial) rows) (absent serial_text (serial ∷ []) rows r says)

  same_change : (change : FsRow → FsRow) → map (λ row. cond (at_serial serial row) (change row) row) rows ≡ changed change serial rows
  same_change change = map_same (λ row. cond (at_serial serial row) (change row) row) (λ row. cond (has_serial serial row) (change row) row) (λ row. ap (λ b. cond b (change row) row) (as_serial serial row)) rows

  pub changed_row : IfOk r (λ i. (change : FsRow → FsRow) (d : FsRow) → set rows i (change (get_or rows i d)) ≡ changed change serial rows)
  changed_row = here r (changed_there serial_text (serial ∷ []) rows r (serials_rise rows apart) says)
    where
      here : (q : Result ℕ ℕ) → IfOk q (λ i. (change : FsRow → FsRow) (d : FsRow) → set rows i (change (get_or rows i d)) ≡ map (λ row. cond (at_serial serial row) (change row) row) rows) → IfOk q (λ i. (change : FsRow → FsRow) (d : FsRow) → set rows i (change (get_or rows i d)) ≡ changed change serial rows)
      here (Ok i) h = λ change d. h change d ∙ same_change change
      here (Err i) h = tt

-- ---- rows that stay apart

each_less : (x : FsRow) (p : FsRow → Bool) (xs : List FsRow) → AllByRecursion (AreApart x) xs → AllByRecursion (AreApart x) (filter p xs)
each_less x = all_filtered serial_text (AreApart x)

pub apart_filtered : (p : FsRow → Bool) (rows : List FsRow) → AreRows rows → AreRows (filter p rows)
apart_filtered p [] h = tt
apart_filtered p (x ∷ xs) h =
    let cases : (b : Bool) → AreRows (cond b (x ∷ filter p xs) (filter p xs)) = elim [ true ↦ ((each_less x p xs h.0, apart_filtered p xs h.1)) | false ↦ (apart_filtered p xs h.1) ] in
    cases (p x)

pub unnamed : (a b : Text) → a ≢ b → bytes_eq b a ≡ false
unnamed a b h = here (bytes_eq b a) refl
  where
    here : (e : Bool) → bytes_eq b a ≡ e → e ≡ false
    here true k = absurd (h (sym (eq_same b a k)))
    here false k = refl

pub differ : (a b : Text) → bytes_eq b a ≡ false → a ≢ b
differ a b h same = absurd (let e : bytes_eq b a ≡ true = ap (λ t. bytes_eq b t) same ∙ eq_self b in cc)

-- the first has a serial and a name of its own
pub no_serial_after : (x : FsRow) (xs : List FsRow) → AllByRecursion (AreApart x) xs → is_there x.serial xs ≡ false
no_serial_after x [] h = refl
no_serial_after x (y ∷ ys) h = let e : eqb y.serial x.serial ≡ false = unequal x.serial y.serial h.0.serials in rw e (no_serial_after x ys h.1)

pub no_name_after : (x : FsRow) (xs : List FsRow) → AllByRecursion (AreApart x) xs → is_called x.name xs ≡ false
no_name_after x [] h = refl
no_name_after x (y ∷ ys) h = let e : bytes_eq y.name x.name ≡ false = unnamed x.name y.name h.0.names in rw e (no_name_after x ys h.1)

-- a row behind all others
all_last : (P : FsRow → Type 0) (y : FsRow) (xs : List FsRow) → AllByRecursion P xs → P y → AllByRecursion P (xs ++ y ∷ [])
all_last P y [] h one = (one, tt)
all_last P y (x ∷ xs) h one = (h.0, all_last P y xs h.1 one)

pub apart_last : (y : FsRow) (rows : List FsRow) → AreRows rows → AllByRecursion (λ (x : FsRow). x.serial < y.serial) rows → is_called y.name rows ≡ false → AreRows (rows ++ y ∷ [])
apart_last y [] h above new = (tt, tt)
apart_last y (x ∷ xs) h above new =
    let name : y.name ≢ x.name = differ y.name x.name (or_first (has_name y.name x) (is_called y.name xs) new) in
    let one : AreApart x y = record { serials = above.0; names = λ same. name (sym same) } in
    (all_last (AreApart x) y xs h.0 one, apart_last y xs h.1 above.1 (or_second (has_name y.name x) (is_called y.name xs) new))

pub without_last : (y : FsRow) (rows : List FsRow) → AllByRecursion (λ (x : FsRow). x.serial < y.serial) rows → without y.serial (rows ++ y ∷ []) ≡ rows
without_last y [] above = let e : eqb y.serial y.serial ≡ true = itself y.serial in rw e refl
without_last y (x ∷ xs) above = let e : eqb x.serial y.serial ≡ false = unequal_back x.serial y.serial above.0 in rw e (ap (λ ys. x ∷ ys) (without_last y xs above.1))

or_last : (a : Bool) → (a || true) ≡ true
or_last true = refl
or_last false = refl

pub there_last : (y : FsRow) (rows : List FsRow) → is_there y.serial (rows ++ y ∷ []) ≡ true
there_last y [] = let e : eqb y.serial y.serial ≡ true = itself y.serial in rw e refl
there_last y (x ∷ xs) = ap (λ b. has_serial y.serial x || b) (there_last y xs) ∙ or_last (has_serial y.serial x)

-- ---- changes of one row

module _ (change : FsRow → FsRow) (same : (row : FsRow) → (change row).serial ≡ row.serial) (serial : ℕ) where
  abbrev one : FsRow → FsRow
  one row = cond (has_serial serial row) (change row) row

  one_serial : (row : FsRow) → (one row).serial ≡ row.serial
  one_serial row =
      let cases : (b : Bool) → (cond b (change row) row).serial ≡ row.serial = elim [ true ↦ same row | false ↦ refl ] in
      cases (has_serial serial row)

  pub there_changed : (rows : List FsRow) → is_there serial (changed change serial rows) ≡ is_there serial rows
  there_changed [] = refl
  there_changed (x ∷ xs) = ap (λ n. eqb n serial || is_there serial (changed change serial xs)) (one_serial x) ∙ ap (λ b. has_serial serial x || b) (there_changed xs)

  pub without_changed : (rows : List FsRow) → without serial (changed change serial rows) ≡ without serial rows
  without_changed [] = refl
  without_changed (x ∷ xs) = here (has_serial serial x) refl (without_changed xs)
    where
      here : (b : Bool) → has_serial serial x ≡ b → without serial (changed change serial xs) ≡ without serial xs → without serial (cond b (change x) x ∷ changed change serial xs) ≡ cond (not b) (x ∷ without serial xs) (without serial xs)
      here true e rest = let k : has_serial serial (change x) ≡ true = ap (λ n. eqb n serial) (same x) ∙ e in rw k rest
      here false e rest = rw e (ap (λ ys. x ∷ ys) rest)

-- a filesystem is named anew; no other one has the name
module _ (name : Text) (serial : ℕ) where
  abbrev pub renamed : FsRow → FsRow
  renamed row = record row { name = name }

  none_changed_after : (xs : List FsRow) → is_there serial xs ≡ false → changed renamed serial xs ≡ xs
  none_changed_after [] h = refl
  none_changed_after (x ∷ xs) h = let e : has_serial serial x ≡ false = or_first (has_serial serial x) (is_there serial xs) h in rw e (ap (λ ys. x ∷ ys) (none_changed_after xs (or_second (has_serial serial x) (is_there serial xs) h)))

  all_without : (x : FsRow) (xs : List FsRow) → is_there serial xs ≡ false → is_called name (without serial xs) ≡ false → is_called name xs ≡ false
  all_without x xs none new = subst (λ ys. is_called name ys ≡ false) (filter_none (λ (t : FsRow). t.name) (has_serial serial) xs none) new

  apart_named : (x : FsRow) (xs : List FsRow) → AllByRecursion (AreApart x) xs → is_called name xs ≡ false → AllByRecursion (AreApart (renamed x)) xs
  apart_named x [] h new = tt
  apart_named x (y ∷ ys) h new =
      (record { serials = h.0.serials; names = differ name y.name (or_first (has_name name y) (is_called name ys) new) }, apart_named x ys h.1 (or_second (has_name name y) (is_called name ys) new))

  apart_others : (x : FsRow) (xs : List FsRow) → AllByRecursion (AreApart x) xs → bytes_eq x.name name ≡ false → AllByRecursion (AreApart x) (changed renamed serial xs)
  apart_others x [] h new = tt
  apart_others x (y ∷ ys) h new =
      let other : name ≢ x.name = differ name x.name new in
      let cases : (b : Bool) → AreApart x (cond b (renamed y) y) = elim [ true ↦ record { serials = h.0.serials; names = λ same. other (sym same) } | false ↦ h.0 ] in
      (cases (has_serial serial y), apart_others x ys h.1 new)

  pub apart_renamed : (rows : List FsRow) → AreRows rows → is_called name (without serial rows) ≡ false → AreRows (changed renamed serial rows)
  apart_renamed [] h new = tt
  apart_renamed (x ∷ xs) h new = here (has_serial serial x) refl new (apart_renamed xs h.1)
    where
      here : (b : Bool) → has_serial serial x ≡ b → is_called name (cond (not b) (x ∷ without serial xs) (without serial xs)) ≡ false → (is_called name (without serial xs) ≡ false → AreRows (changed renamed serial xs)) → AreRows (cond b (renamed x) x ∷ changed renamed serial xs)
      here true e k rest =
          let s : x.serial ≡ serial = (Decides-eqb x.serial serial).0 e in
          let none : is_there serial xs ≡ false = subst (λ n. is_there n xs ≡ false) s (no_serial_after x xs h.0) in
          let still : changed renamed serial xs ≡ xs = none_changed_after xs none in
          subst (λ ys. AreRows (renamed x ∷ ys)) (sym still) (apart_named x xs h.0 (all_without x xs none k), h.1)
      here false e k rest =
          let one : bytes_eq x.name name ≡ false = or_first (has_name name x) (is_called name (without serial xs)) k in
          (apart_others x xs h.0 one, rest (or_second (has_name name x) (is_called name (without serial xs)) k))
