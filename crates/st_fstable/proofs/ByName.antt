-- rows in byte order of their names, and the serials that stand for them
use Rattle.std.proofs.Common.{◌≡◌, ℕ, ◌<◌, insert, remove, get_or, set, List, [], ◌∷◌, Bool, true, false, cond, not, ◌||◌, eqb, bytes_eq, map, Some, None, is_some, refl, sym, ap, subst, ◌∙◌}
use Rattle.std.specs.Prelude.{find, filter, option_map}
use Rattle.std.specs.List.{AllByRecursion, list_any}
use Rattle.std.proofs.lemmas.Bool.Decides.{Decides-eqb}
use Rattle.st_units.specs.declared.rows.FsRow.{FsRow}
use Rattle.st_order.specs.Sorted.{Text, is_below, IsRising, entered, ordered}
use Rattle.st_order.proofs.Order.{text_cmp, eq_same, eq_self, eq_turned, less_of, other_way, rising_none, rising_entered, filter_none, any_entered, all_entered, all_filtered, find_none}
use Rattle.st_order.proofs.Ordered.{any_ordered, all_ordered, find_entered, either_first}
use Rattle.st_order.proofs.Lists.{any_found, any_less, found_passes, or_first, or_second, weaker}
use Rattle.st_model.specs.Merged.{is_origin}
use Rattle.st_fstable.specs.Rows.{AreApart, AreRows, has_serial, has_name, row_at, serial_of, is_there, is_called, without, changed, passed_on, passed_by}
use Rattle.st_fstable.specs.inner.ByName.{name_of, serial_in, name_at, name_or_none, IsIndexed}
use Rattle.st_fstable.proofs.Serials.{apart_filtered, no_serial_after, no_name_after, unequal_back, unnamed, itself}

-- ---- the rows by name

pub names_rise : (rows : List FsRow) → AreRows rows → IsRising (map name_of (ordered name_of rows))
names_rise [] h = rising_none name_of
names_rise (x ∷ xs) h = rising_entered name_of x (ordered name_of xs) (names_rise xs h.1) (any_ordered name_of (has_name x.name) xs ∙ no_name_after x xs h.0)

pub found_by_name : (name : Text) (rows : List FsRow) → AreRows rows → find (has_name name) (ordered name_of rows) ≡ find (has_name name) rows
found_by_name name [] h = refl
found_by_name name (x ∷ xs) h =
    find_entered name_of (has_name name) x (ordered name_of xs) (λ e. any_ordered name_of (has_name name) xs ∙ subst (λ n. is_called n xs ≡ false) (eq_same x.name name e) (no_name_after x xs h.0))
    ∙ ap (λ o. cond (has_name name x) (Some x) o) (found_by_name name xs h.1)

-- the row of a serial stands where its name belongs among the others
pub one_more : (serial : ℕ) (row : FsRow) (rows : List FsRow) → AreRows rows → row_at serial rows ≡ Some row → ordered name_of rows ≡ entered name_of row (ordered name_of (without serial rows))
one_more serial row [] h found = absurd cc
one_more serial row (x ∷ xs) h found = here (has_serial serial x) refl found (one_more serial row xs h.1)
  where
    here : (b : Bool) → has_serial serial x ≡ b → cond b (Some x) (row_at serial xs) ≡ Some row → (row_at serial xs ≡ Some row → ordered name_of xs ≡ entered name_of row (ordered name_of (without serial xs))) → entered name_of x (ordered name_of xs) ≡ entered name_of row (ordered name_of (cond (not b) (x ∷ without serial xs) (without serial xs)))
    here true e k rest =
        let same : x ≡ row = cc in
        let s : x.serial ≡ serial = (Decides-eqb x.serial serial).0 e in
        let none : is_there serial xs ≡ false = subst (λ n. is_there n xs ≡ false) s (no_serial_after x xs h.0) in
        ap (λ (y : FsRow). entered name_of y (ordered name_of xs)) same ∙ ap (λ ys. entered name_of row (ordered name_of ys)) (sym (filter_none name_of (has_serial serial) xs none))
    here false e k rest =
        let after : AreApart x row = (found_passes (has_serial serial) (AreApart x) xs row h.0 k).1 in
        let apart : bytes_eq x.name row.name ≡ false = eq_turned x.name row.name ∙ unnamed x.name row.name after.names in
        ap (entered name_of x) (rest k) ∙ either_first name_of x row apart (ordered name_of (without serial xs))

-- and no other has its name
pub name_alone : (serial : ℕ) (row : FsRow) (rows : List FsRow) → AreRows rows → row_at serial rows ≡ Some row → is_called row.name (without serial rows) ≡ false
name_alone serial row [] h found = absurd cc
name_alone serial row (x ∷ xs) h found = here (has_serial serial x) refl found (name_alone serial row xs h.1)
  where
    here : (b : Bool) → has_serial serial x ≡ b → cond b (Some x) (row_at serial xs) ≡ Some row → (row_at serial xs ≡ Some row → is_called row.name (without serial xs) ≡ false) → is_called row.name (cond (not b) (x ∷ without serial xs) (without serial xs)) ≡ false
    here true e k rest =
        let same : x ≡ row = cc in
        any_less (has_name row.name) (λ (y : FsRow). not (has_serial serial y)) xs (subst (λ (y : FsRow). is_called y.name xs ≡ false) same (no_name_after x xs h.0))
    here false e k rest =
        let after : AreApart x row = (found_passes (has_serial serial) (AreApart x) xs row h.0 k).1 in
        let apart : bytes_eq x.name row.name ≡ false = eq_turned x.name row.name ∙ unnamed x.name row.name after.names in
        rw apart (rest k)

left_out : (p : FsRow → Bool) (y : FsRow) (xs : List FsRow) → p y ≡ true → list_any p xs ≡ false → filter (λ z. not (p z)) (entered name_of y xs) ≡ xs
left_out p y [] e out = rw e refl
left_out p y (x ∷ xs) e out =
    let first : p x ≡ false = or_first (p x) (list_any p xs) out in
    let more : list_any p xs ≡ false = or_second (p x) (list_any p xs) out in
    let cases : (c : Bool) → filter (λ z. not (p z)) (cond c (x ∷ entered name_of y xs) (y ∷ x ∷ xs)) ≡ x ∷ xs =
    elim [ true ↦ rw first (ap (λ ys. x ∷ ys) (left_out p y xs e more)) | false ↦ rw (e, first) (ap (λ ys. x ∷ ys) (filter_none name_of p xs more)) ] in
    cases (is_below x.name y.name)

-- ---- the serials in their place

-- each of the rows is found by its serial
each_above : (x : FsRow) (xs ys : List FsRow) → AllByRecursion (AreApart x) ys → AllByRecursion (λ (y : FsRow). row_at y.serial xs ≡ Some y) ys → AllByRecursion (λ (y : FsRow). row_at y.serial (x ∷ xs) ≡ Some y) ys
each_above x xs [] h k = tt
each_above x xs (y ∷ ys) h k =
    let e : eqb x.serial y.serial ≡ false = unequal_back x.serial y.serial h.0.serials in
    let first : row_at y.serial (x ∷ xs) ≡ Some y = rw e k.0 in
    (first, each_above x xs ys h.1 k.1)

pub each_found : (rows : List FsRow) → AreRows rows → AllByRecursion (λ (y : FsRow). row_at y.serial rows ≡ Some y) rows
each_found [] h = tt
each_found (x ∷ xs) h =
    let e : eqb x.serial x.serial ≡ true = itself x.serial in
    let first : row_at x.serial (x ∷ xs) ≡ Some x = rw e refl in
    (first, each_above x xs xs h.0 (each_found xs h.1))

-- the rows of a list go by the names that their serials have
abbrev pub Stand : List FsRow → List FsRow → Type 0
Stand rows = AllByRecursion (λ (y : FsRow). name_at rows y.serial ≡ y.name)

pub all_stand : (rows : List FsRow) → AreRows rows → Stand rows rows
all_stand rows h = weaker (λ (y : FsRow). row_at y.serial rows ≡ Some y) (λ (y : FsRow). name_at rows y.serial ≡ y.name) (λ y e. ap name_or_none e) rows (each_found rows h)

pub by_name_stand : (rows : List FsRow) → AreRows rows → Stand rows (ordered name_of rows)
by_name_stand rows h = all_ordered name_of (λ (y : FsRow). name_at rows y.serial ≡ y.name) rows (all_stand rows h)

pub others_stand : (serial : ℕ) (rows : List FsRow) → AreRows rows → Stand rows (ordered name_of (without serial rows))
others_stand serial rows h = all_ordered name_of (λ (y : FsRow). name_at rows y.serial ≡ y.name) (without serial rows) (all_filtered name_of (λ (y : FsRow). name_at rows y.serial ≡ y.name) (λ (y : FsRow). not (has_serial serial y)) rows (all_stand rows h))

module _ (rows : List FsRow) where
  abbrev key : ℕ → Text
  key = name_at rows

  names_stand : (ys : List FsRow) → Stand rows ys → map key (map serial_in ys) ≡ map name_of ys
  names_stand [] h = refl
  names_stand (y ∷ ys) h = ap (λ t. t ∷ map key (map serial_in ys)) h.0 ∙ ap (λ ts. y.name ∷ ts) (names_stand ys h.1)

  pub rising_stand : (ys : List FsRow) (names : List ℕ) → names ≡ map serial_in ys → Stand rows ys → IsRising (map name_of ys) → IsRising (map key names)
  rising_stand ys names is h rises = rw is (subst IsRising (sym (names_stand ys h)) rises)

  find_stands : (name : Text) (ys : List FsRow) → Stand rows ys → find (λ s. bytes_eq (key s) name) (map serial_in ys) ≡ option_map serial_in (find (has_name name) ys)
  find_stands name [] h = refl
  find_stands name (y ∷ ys) h =
      let cases : (b : Bool) → cond b (Some y.serial) (find (λ s. bytes_eq (key s) name) (map serial_in ys)) ≡ option_map serial_in (cond b (Some y) (find (has_name name) ys)) = elim [ true ↦ refl | false ↦ find_stands name ys h.1 ] in
      ap (λ t. cond (bytes_eq t name) (Some y.serial) (find (λ s. bytes_eq (key s) name) (map serial_in ys))) h.0 ∙ cases (has_name name y)

  filter_stands : (name : Text) (ys : List FsRow) → Stand rows ys → filter (λ s. not (bytes_eq (key s) name)) (map serial_in ys) ≡ map serial_in (filter (λ y. not (has_name name y)) ys)
  filter_stands name [] h = refl
  filter_stands name (y ∷ ys) h =
      let cases : (b : Bool) → cond (not b) (y.serial ∷ filter (λ s. not (bytes_eq (key s) name)) (map serial_in ys)) (filter (λ s. not (bytes_eq (key s) name)) (map serial_in ys)) ≡ map serial_in (cond (not b) (y ∷ filter (λ z. not (has_name name z)) ys) (filter (λ z. not (has_name name z)) ys)) =
      elim [ true ↦ filter_stands name ys h.1 | false ↦ ap (λ ss. y.serial ∷ ss) (filter_stands name ys h.1) ] in
      ap (λ t. cond (not (bytes_eq t name)) (y.serial ∷ filter (λ s. not (bytes_eq (key s) name)) (map serial_in ys)) (filter (λ s. not (bytes_eq (key s) name)) (map serial_in ys))) h.0 ∙ cases (has_name name y)

  any_stands : (name : Text) (ys : List FsRow) → Stand rows ys → list_any (λ s. bytes_eq (key s) name) (map serial_in ys) ≡ is_called name ys
  any_stands name [] h = refl
  any_stands name (y ∷ ys) h = ap (λ t. bytes_eq t name || list_any (λ s. bytes_eq (key s) name) (map serial_in ys)) h.0 ∙ ap (λ b. has_name name y || b) (any_stands name ys h.1)

  entered_stands : (row : FsRow) → key row.serial ≡ row.name → (ys : List FsRow) → Stand rows ys → entered key row.serial (map serial_in ys) ≡ map serial_in (entered name_of row ys)
  entered_stands row is [] h = refl
  entered_stands row is (y ∷ ys) h =
      let cases : (b : Bool) → cond b (y.serial ∷ entered key row.serial (map serial_in ys)) (row.serial ∷ y.serial ∷ map serial_in ys) ≡ map serial_in (cond b (y ∷ entered name_of row ys) (row ∷ y ∷ ys)) =
      elim [ true ↦ ap (λ ss. y.serial ∷ ss) (entered_stands row is ys h.1) | false ↦ refl ] in
      ap (λ t. cond (is_below t (key row.serial)) (y.serial ∷ entered key row.serial (map serial_in ys)) (row.serial ∷ y.serial ∷ map serial_in ys)) h.0
      ∙ (ap (λ t. cond (is_below y.name t) (y.serial ∷ entered key row.serial (map serial_in ys)) (row.serial ∷ y.serial ∷ map serial_in ys)) is ∙ cases (is_below y.name row.name))

-- what a search by name finds
pub told : (rows : List FsRow) (names : List ℕ) (name : Text) (i d : ℕ) → IsIndexed rows names → find (λ s. bytes_eq (name_at rows s) name) names ≡ Some (get_or names i d) → serial_of name rows ≡ Some (get_or names i d)
told rows names name i d indexed h =
    sym (ap (option_map serial_in) (found_by_name name rows indexed.apart)) ∙ (sym (find_stands rows name (ordered name_of rows) (by_name_stand rows indexed.apart)) ∙ (ap (find (λ s. bytes_eq (name_at rows s) name)) (sym indexed.order) ∙ h))

pub told_new : (rows : List FsRow) (names : List ℕ) (name : Text) → IsIndexed rows names → list_any (λ s. bytes_eq (name_at rows s) name) names ≡ false → is_called name rows ≡ false
told_new rows names name indexed h = sym (any_ordered name_of (has_name name) rows) ∙ (sym (any_stands rows name (ordered name_of rows) (by_name_stand rows indexed.apart)) ∙ (ap (list_any (λ s. bytes_eq (name_at rows s) name)) (sym indexed.order) ∙ h))

pub told_none : (rows : List FsRow) (names : List ℕ) (name : Text) → IsIndexed rows names → list_any (λ s. bytes_eq (name_at rows s) name) names ≡ false → serial_of name rows ≡ None
told_none rows names name indexed h = ap (option_map serial_in) (find_none name_of (has_name name) rows (told_new rows names name indexed h))

-- the serial goes from its place
pub gone_from : (rows : List FsRow) (names : List ℕ) (serial : ℕ) (row : FsRow) → IsIndexed rows names → row_at serial rows ≡ Some row → filter (λ s. not (bytes_eq (name_at rows s) row.name)) names ≡ map serial_in (ordered name_of (without serial rows))
gone_from rows names serial row indexed found =
    ap (filter (λ s. not (bytes_eq (name_at rows s) row.name))) indexed.order
    ∙ (filter_stands rows row.name (ordered name_of rows) (by_name_stand rows indexed.apart)
    ∙ ap (map serial_in) (ap (filter (λ y. not (has_name row.name y))) (one_more serial row rows indexed.apart found)
    ∙ left_out (has_name row.name) row (ordered name_of (without serial rows)) (eq_self row.name) (any_ordered name_of (has_name row.name) (without serial rows) ∙ name_alone serial row rows indexed.apart found)))

-- it isn't there, and comes to its place
pub new_among : (rows : List FsRow) (names : List ℕ) (serial : ℕ) (row : FsRow) → AreRows rows → names ≡ map serial_in (ordered name_of (without serial rows)) → row_at serial rows ≡ Some row → list_any (λ s. bytes_eq (name_at rows s) row.name) names ≡ false
new_among rows names serial row apart is found =
    ap (list_any (λ s. bytes_eq (name_at rows s) row.name)) is
    ∙ (any_stands rows row.name (ordered name_of (without serial rows)) (others_stand serial rows apart)
    ∙ (any_ordered name_of (has_name row.name) (without serial rows) ∙ name_alone serial row rows apart found))

pub come_to : (rows : List FsRow) (names : List ℕ) (serial : ℕ) (row : FsRow) → AreRows rows → names ≡ map serial_in (ordered name_of (without serial rows)) → row_at serial rows ≡ Some row → entered (name_at rows) serial names ≡ map serial_in (ordered name_of rows)
come_to rows names serial row apart is found =
    let same : row.serial ≡ serial = (Decides-eqb row.serial serial).0 (found_passes (has_serial serial) (λ (y : FsRow). name_at rows y.serial ≡ y.name) rows row (all_stand rows apart) found).0 in
    let stands : name_at rows row.serial ≡ row.name = (found_passes (has_serial serial) (λ (y : FsRow). name_at rows y.serial ≡ y.name) rows row (all_stand rows apart) found).1 in
    ap (entered (name_at rows) serial) is
    ∙ (ap (λ s. entered (name_at rows) s (map serial_in (ordered name_of (without serial rows)))) (sym same)
    ∙ (entered_stands rows row stands (ordered name_of (without serial rows)) (others_stand serial rows apart)
    ∙ ap (map serial_in) (sym (one_more serial row rows apart found))))

-- ---- rows that keep serial and name

module _ (g : FsRow → FsRow) (serials : (row : FsRow) → (g row).serial ≡ row.serial) (names : (row : FsRow) → (g row).name ≡ row.name) where
  entered_map : (y : FsRow) (xs : List FsRow) → map g (entered name_of y xs) ≡ entered name_of (g y) (map g xs)
  entered_map y [] = refl
  entered_map y (x ∷ xs) =
      let cases : (b : Bool) → map g (cond b (x ∷ entered name_of y xs) (y ∷ x ∷ xs)) ≡ cond b (g x ∷ entered name_of (g y) (map g xs)) (g y ∷ g x ∷ map g xs) = elim [ true ↦ ap (λ ys. g x ∷ ys) (entered_map y xs) | false ↦ refl ] in
      cases (is_below x.name y.name)
      ∙ (ap (λ t. cond (is_below t y.name) (g x ∷ entered name_of (g y) (map g xs)) (g y ∷ g x ∷ map g xs)) (sym (names x))
      ∙ ap (λ t. cond (is_below (g x).name t) (g x ∷ entered name_of (g y) (map g xs)) (g y ∷ g x ∷ map g xs)) (sym (names y)))

  by_name_map : (rows : List FsRow) → ordered name_of (map g rows) ≡ map g (ordered name_of rows)
  by_name_map [] = refl
  by_name_map (x ∷ xs) = ap (entered name_of (g x)) (by_name_map xs) ∙ sym (entered_map x (ordered name_of xs))

  serials_map : (rows : List FsRow) → map serial_in (map g rows) ≡ map serial_in rows
  serials_map [] = refl
  serials_map (x ∷ xs) = ap (λ s. s ∷ map serial_in (map g xs)) (serials x) ∙ ap (λ ss. x.serial ∷ ss) (serials_map xs)

  pair_kept : (x y : FsRow) → AreApart x y → AreApart (g x) (g y)
  pair_kept x y h = record {
    serials = subst (λ n. (g x).serial < n) (sym (serials y)) (subst (λ n. n < y.serial) (sym (serials x)) h.serials);
    names = λ same. h.names (sym (names x) ∙ (same ∙ names y));
  }

  pairs_kept : (x : FsRow) (ys : List FsRow) → AllByRecursion (AreApart x) ys → AllByRecursion (AreApart (g x)) (map g ys)
  pairs_kept x [] h = tt
  pairs_kept x (y ∷ ys) h = (pair_kept x y h.0, pairs_kept x ys h.1)

  pub rows_kept : (rows : List FsRow) → AreRows rows → AreRows (map g rows)
  rows_kept [] h = tt
  rows_kept (x ∷ xs) h = (pairs_kept x xs h.0, rows_kept xs h.1)

  pub indexed_kept : (rows : List FsRow) (index : List ℕ) → IsIndexed rows index → IsIndexed (map g rows) index
  indexed_kept rows index h = record {
    apart = rows_kept rows h.apart;
    order = h.order ∙ sym (ap (map serial_in) (by_name_map rows) ∙ serials_map (ordered name_of rows));
  }

-- one row is changed, but neither its serial nor its name
pub indexed_changed : (change : FsRow → FsRow) → ((row : FsRow) → (change row).serial ≡ row.serial) → ((row : FsRow) → (change row).name ≡ row.name) → (serial : ℕ) (rows : List FsRow) (index : List ℕ) → IsIndexed rows index → IsIndexed (changed change serial rows) index
indexed_changed change serials names serial rows index h = indexed_kept g serial_kept name_kept rows index h
  where
    g : FsRow → FsRow
    g row = cond (has_serial serial row) (change row) row

    serial_kept : (row : FsRow) → (g row).serial ≡ row.serial
    serial_kept row =
        let cases : (b : Bool) → (cond b (change row) row).serial ≡ row.serial = elim [ true ↦ serials row | false ↦ refl ] in
        cases (has_serial serial row)

    name_kept : (row : FsRow) → (g row).name ≡ row.name
    name_kept row =
        let cases : (b : Bool) → (cond b (change row) row).name ≡ row.name = elim [ true ↦ names row | false ↦ refl ] in
        cases (has_serial serial row)

-- ---- as the calls have it: `there` and `n` are what they read

pub never : (rows : List FsRow) (names : List ℕ) (serial : ℕ) (row : FsRow) (n : Text) (i : ℕ) → AreRows rows → names ≡ map serial_in (ordered name_of (without serial rows)) → row_at serial rows ≡ Some row → n ≡ row.name
    → find (λ s. bytes_eq (name_at rows s) n) names ≡ Some i → ⊥
never rows names serial row n i apart is found same h =
    let none : find (λ s. bytes_eq (name_at rows s) row.name) names ≡ None = find_none (name_at rows) (λ s. bytes_eq (name_at rows s) row.name) names (new_among rows names serial row apart is found) in
    let some : find (λ s. bytes_eq (name_at rows s) row.name) names ≡ Some i = subst (λ t. find (λ s. bytes_eq (name_at rows s) t) names ≡ Some i) same h in
    cc

or_so : (a b : Bool) → b ≡ true → (a || b) ≡ true
or_so true b h = refl
or_so false b h = h

any_there : (p q : FsRow → Bool) (xs : List FsRow) (x : FsRow) → find q xs ≡ Some x → p x ≡ true → list_any p xs ≡ true
any_there p q [] x h e = absurd cc
any_there p q (y ∷ ys) x h e =
    let cases : (b : Bool) → cond b (Some y) (find q ys) ≡ Some x → (p y || list_any p ys) ≡ true =
    elim [ true ↦ (λ k. let same : y ≡ x = cc in let first : p y ≡ true = ap p same ∙ e in rw first refl) | false ↦ (λ k. or_so (p y) (list_any p ys) (any_there p q ys x k e)) ] in
    cases (q y) h

pub always : (rows : List FsRow) (names : List ℕ) (serial : ℕ) (row : FsRow) (n : Text) → IsIndexed rows names → row_at serial rows ≡ Some row → n ≡ row.name → list_any (λ s. bytes_eq (name_at rows s) n) names ≡ false → ⊥
always rows names serial row n indexed found same h =
    let none : is_called row.name rows ≡ false = told_new rows names row.name indexed (subst (λ t. list_any (λ s. bytes_eq (name_at rows s) t) names ≡ false) same h) in
    let some : is_called row.name rows ≡ true = any_there (has_name row.name) (has_serial serial) rows row found (eq_self row.name) in
    cc

pub come : (rows : List FsRow) (names there new : List ℕ) (serial : ℕ) (row : FsRow) (n : Text) (i : ℕ) → AreRows rows → there ≡ names → names ≡ map serial_in (ordered name_of (without serial rows)) → row_at serial rows ≡ Some row → n ≡ row.name
    → new ≡ insert names i serial → ((s : ℕ) → name_at rows s ≡ n → insert there i s ≡ entered (name_at rows) s there) → IsIndexed rows new
come rows names there new serial row n i apart read is found same put place = record {
  apart = apart;
  order = put ∙ (subst (λ ns. insert ns i serial ≡ entered (name_at rows) serial ns) read (place serial (ap name_or_none found ∙ sym same)) ∙ come_to rows names serial row apart is found);
}

pub left : (rows : List FsRow) (names there new : List ℕ) (serial : ℕ) (row : FsRow) (n : Text) (i : ℕ) → IsIndexed rows names → there ≡ names → row_at serial rows ≡ Some row → n ≡ row.name
    → new ≡ remove names i → remove there i ≡ filter (λ s. not (bytes_eq (name_at rows s) n)) there → new ≡ map serial_in (ordered name_of (without serial rows))
left rows names there new serial row n i indexed read found same taken rest =
    taken ∙ (subst (λ ns. remove ns i ≡ filter (λ s. not (bytes_eq (name_at rows s) row.name)) ns) read (subst (λ t. remove there i ≡ filter (λ s. not (bytes_eq (name_at rows s) t)) there) same rest)
    ∙ gone_from rows names serial row indexed found)

blank : FsRow
blank = record { serial = 0; name = []; size = 0; limit = None; origin = None; merge = false }

pub there_of : (rows : List FsRow) (serial i : ℕ) → ((d : FsRow) → row_at serial rows ≡ Some (get_or rows i d)) → is_there serial rows ≡ true
there_of rows serial i h = sym (any_found (has_serial serial) rows) ∙ ap is_some (h blank)

pub taken_out : (rows a b new : List FsRow) (names : List ℕ) (serial i : ℕ) → AreRows rows → a ≡ rows → b ≡ rows → new ≡ remove rows i → remove a i ≡ without serial a → names ≡ map serial_in (ordered name_of (without serial b)) → IsIndexed new names
taken_out rows a b new names serial i apart first second taken rest is =
    let others : new ≡ without serial rows = taken ∙ subst (λ ys. remove ys i ≡ without serial ys) first rest in
    subst (λ ys. IsIndexed ys names) (sym others) (record {
      apart = apart_filtered (λ (y : FsRow). not (has_serial serial y)) rows apart;
      order = subst (λ ys. names ≡ map serial_in (ordered name_of (without serial ys))) second is;
    })

-- ---- origins

pub passed_serial : (gone row : FsRow) → (passed_on gone row).serial ≡ row.serial
passed_serial gone row =
    let cases : (b : Bool) → (cond b (record row { origin = gone.origin; merge = false }) row).serial ≡ row.serial = elim [ true ↦ refl | false ↦ refl ] in
    cases (is_origin gone.serial row.origin)

pub passed_name : (gone row : FsRow) → (passed_on gone row).name ≡ row.name
passed_name gone row =
    let cases : (b : Bool) → (cond b (record row { origin = gone.origin; merge = false }) row).name ≡ row.name = elim [ true ↦ refl | false ↦ refl ] in
    cases (is_origin gone.serial row.origin)

pub none_passed : (rows : List FsRow) → map (passed_by None) rows ≡ rows
none_passed [] = refl
none_passed (x ∷ xs) = ap (λ ys. x ∷ ys) (none_passed xs)

-- ---- one row is set in place

pub set_so : (rows a : List FsRow) (i serial : ℕ) (f : FsRow → FsRow) (row : FsRow) → a ≡ rows → row ≡ get_or rows i row → ((change : FsRow → FsRow) (d : FsRow) → set a i (change (get_or a i d)) ≡ changed change serial a) → set rows i (f row) ≡ changed f serial rows
set_so rows a i serial f row read is h = ap (λ (r : FsRow). set rows i (f r)) is ∙ subst (λ ys. set ys i (f (get_or ys i row)) ≡ changed f serial ys) read (h f row)

pub set_indexed : (rows a : List FsRow) (names : List ℕ) (i serial : ℕ) (f : FsRow → FsRow) (row : FsRow) → ((r : FsRow) → (f r).serial ≡ r.serial) → ((r : FsRow) → (f r).name ≡ r.name) → a ≡ rows → row ≡ get_or rows i row
    → ((change : FsRow → FsRow) (d : FsRow) → set a i (change (get_or a i d)) ≡ changed change serial a) → IsIndexed rows names → IsIndexed (set rows i (f row)) names
set_indexed rows a names i serial f row serials kept read is h indexed =
    subst (λ ys. IsIndexed ys names) (sym (set_so rows a i serial f row read is h)) (indexed_changed f serials kept serial rows names indexed)
