-- Where a pool's records stand, and which of its devices are there, by looks and by the devices.
use Rattle.std.proofs.Common.{◌≡◌, ◌≢◌, ◌⊎◌, inl, inr, ℕ, zero, suc, ◌+◌, ◌%◌, ◌<◌, Bool, true, false, ◌&&◌, ◌||◌, cond, nat_eq, List, [], ◌∷◌, map, Option, Some, None, refl, sym, ◌∙◌, ap, subst, arith}
use Rattle.std.specs.Prelude.{not, is_none, find, filter}
use Rattle.std.specs.List.{slice_get, list_all, list_any, AllByRecursion}
use Rattle.std.specs.List.Sorted.{IsStrictlySortedBy}
use Rattle.std.specs.Option.{option_map}
use Rattle.std.specs.Str.{bytes_eq}
use Rattle.std.proofs.lemmas.Slice.Eq.{bytes_eq-Decides}
use Rattle.std.proofs.lemmas.Map.Text.{is_eq-slice_cmp}
use Rattle.std.proofs.lemmas.Bool.{and_parts, and_from, cases_Bool}
use Rattle.std.proofs.lemmas.Bool.Decides.{nat_tests}
use Rattle.std.specs.Ordering.{nat_cmp, is_eq}
use Rattle.std.proofs.Common.{Ordering, Less}
use Rattle.std.specs.Cmp.Lexicographic.{slice_cmp}
use Rattle.st_fields.specs.Slot.{Found}
use Rattle.st_units.specs.declared.rows.DevRow.{DevRow}
use Rattle.st_poolrec.specs.declared.record.PoolRec.{PoolRec}
use Rattle.st_poolrec.specs.Record as pools
use Rattle.st_rack.specs.Device.{Path, Image}
use Rattle.st_rack.specs.Calls.{Devices, Has, Rises, sectors_of, path_in}
use Rattle.st_commit.specs.Standing.{keep}
use Rattle.st_image.specs.Looks.{slot_on, is_serial, has_header}
use Rattle.st_image.specs.Bears.{HasRow, OnRowsAlone, path_of}
use Rattle.st_image.specs.Stands.{is_on, missing}
use Rattle.st_looks.specs.declared.look.DevLook.{DevLook}
use Rattle.st_looks.specs.Looked.{looked}
use Rattle.st_judge.specs.Placing as placing
use Rattle.st_judge.specs.Placing.{has_row, is_silent, on_rows_alone, look_at, look_fits, row_fits, rows_fit, missing_of, holds, lacks, lacking}
use Rattle.st_judge.specs.Verdicts.{lacks_record}
use Rattle.st_judge.proofs.Lists.{all_at, all_from, any_at, none_any, mapped_at, at_mapped}

some_same : {X : Type 0} (x y : X) → Some x ≡ Some y → x ≡ y
some_same x y e = cc

none_some : {X : Type 0} (x : X) → None ≡ Some x → ⊥
none_some x e = cc

equal : (a b : Path) → a ≡ b → bytes_eq a b ≡ true
equal a b e = (bytes_eq-Decides a b).1 e

differ : (a b : Path) → (a ≡ b → ⊥) → bytes_eq a b ≡ false
differ a b ne = elim (cases_Bool (bytes_eq a b)) [ inl hit ↦ absurd (ne ((bytes_eq-Decides a b).0 hit)) | inr miss ↦ miss ]

not_both : (b : Bool) → b ≡ true → b ≡ false → ⊥
not_both b t f = cc

is_nothing : (found : Found) → is_none found ≡ true → found ≡ None
is_nothing None e = refl
is_nothing (Some x) e = absurd (cc)

or_true : (a b : Bool) → (a || b) ≡ true → a ≡ false → b ≡ true
or_true true b e f = absurd (cc)
or_true false b e f = e

or_from : (a b : Bool) → (a ≡ false → b ≡ true) → (a || b) ≡ true
or_from true b f = refl
or_from false b f = f refl

module _ (p : ℕ) (devs : Devices) (c : Image) (rows : List DevRow) where
  in_no_row : (path : Path) → has_row rows path ≡ false → (r : DevRow) (j : ℕ) → slice_get rows j ≡ Some r → r.path ≢ path
  in_no_row path none r j at same = not_both (has_row rows path) (any_at (λ (row : DevRow). bytes_eq row.path path) rows j r at (equal r.path path same)) none

  pub alone_of_looks : on_rows_alone p rows (map (looked c) devs) ≡ true → OnRowsAlone p devs rows c
  alone_of_looks all = λ k d at none place lt. (
      let here = all_at (λ l. has_row rows l.path || is_silent p l) (map (looked c) devs) k (looked c d) all (at_mapped (looked c) devs k d at) in
      let no_row : has_row rows d.0 ≡ false = none_any (λ (row : DevRow). bytes_eq row.path d.0) rows (λ j r rt. differ r.path d.0 (none r j rt)) in
      let silent = or_true (has_row rows d.0) (is_silent p (looked c d)) here no_row in
      let both = and_parts (is_none (keep p (slot_on d.1 0 (c d.0)))) (is_none (keep p (slot_on d.1 1 (c d.0)))) silent in
      in_place d place lt both.0 both.1)
    where
      in_place : (d : Path × ℕ) (place : ℕ) → place < 2 → is_none (keep p (slot_on d.1 0 (c d.0))) ≡ true → is_none (keep p (slot_on d.1 1 (c d.0))) ≡ true → keep p (slot_on d.1 place (c d.0)) ≡ None
      in_place d zero lt even odd = is_nothing _ even
      in_place d (suc zero) lt even odd = is_nothing _ odd
      in_place d (suc (suc n)) lt even odd = absurd (omega arith)

  pub looks_alone : OnRowsAlone p devs rows c → on_rows_alone p rows (map (looked c) devs) ≡ true
  looks_alone alone = all_from (λ l. has_row rows l.path || is_silent p l) (map (looked c) devs) (λ k l at. (
      let dev = mapped_at (looked c) devs k l at in
      subst (λ (m : DevLook). (has_row rows m.path || is_silent p m) ≡ true) dev.2 (or_from (has_row rows dev.0.0) (is_silent p (looked c dev.0)) (λ none. silent dev.0 (alone k dev.0 dev.1 (in_no_row dev.0.0 none))))))
    where
      silent : (d : Path × ℕ) → ((place : ℕ) → place < 2 → keep p (slot_on d.1 place (c d.0)) ≡ None) → is_silent p (looked c d) ≡ true
      silent d none = and_from (is_none (keep p (slot_on d.1 0 (c d.0)))) _ (ap is_none (none 0 (omega arith))) (ap is_none (none 1 (omega arith)))

-- the order of paths
first_below : (d : Path × ℕ) (ds : Devices) → Rises (d ∷ ds) → AllByRecursion (λ (q : Path). slice_cmp nat_cmp d.0 q ≡ Less) (map path_in ds)
unfolding IsStrictlySortedBy
first_below d ds h = h.0

rest_rises : (d : Path × ℕ) (ds : Devices) → Rises (d ∷ ds) → Rises ds
unfolding IsStrictlySortedBy
rest_rises d ds h = h.1

less_apart : (a b : Path) → slice_cmp nat_cmp a b ≡ Less → bytes_eq a b ≡ false
less_apart a b h = sym (is_eq-slice_cmp a b) ∙ ap is_eq h

below_at : (a : Path) (ds : Devices) (k : ℕ) (d : Path × ℕ) → AllByRecursion (λ (q : Path). slice_cmp nat_cmp a q ≡ Less) (map path_in ds) → slice_get ds k ≡ Some d → bytes_eq a d.0 ≡ false
below_at a [] k d all at = absurd (none_some d at)
below_at a (e ∷ ds) zero d all at = subst (λ (q : Path × ℕ). bytes_eq a q.0 ≡ false) (some_same e d at) (less_apart a e.0 all.0)
below_at a (e ∷ ds) (suc k) d all at = below_at a ds k d all.1 at

pub has_at : (ds : Devices) (k : ℕ) (d : Path × ℕ) → Rises ds → slice_get ds k ≡ Some d → Has ds d.0 d.1
has_at [] k d rises at = absurd (none_some d at)
has_at (e ∷ ds) zero d rises at =
    let same : e ≡ d = some_same e d at in
    ap (λ (b : Bool). cond b (Some e.1) (sectors_of ds d.0)) (equal e.0 d.0 (ap (λ (q : Path × ℕ). q.0) same)) ∙ ap (λ (q : Path × ℕ). Some q.1) same
has_at (e ∷ ds) (suc k) d rises at =
    ap (λ (b : Bool). cond b (Some e.1) (sectors_of ds d.0)) (below_at e.0 ds k d (first_below e ds rises) at) ∙ has_at ds k d (rest_rises e ds rises) at

module _ (c : Image) where
  -- the look of a path is that of a device with this path
  pub look_of_path : (ds : Devices) (path : Path) (l : DevLook) → look_at (map (looked c) ds) path ≡ Some l → (k : ℕ) × (d : Path × ℕ) × (slice_get ds k ≡ Some d) × (d.0 ≡ path) × (looked c d ≡ l)
  look_of_path [] path l is = absurd (none_some l is)
  look_of_path (d ∷ ds) path l is = by (bytes_eq d.0 path) refl is (look_of_path ds path l)
    where
      by : (b : Bool) → bytes_eq d.0 path ≡ b → cond b (Some (looked c d)) (look_at (map (looked c) ds) path) ≡ Some l
          → (look_at (map (looked c) ds) path ≡ Some l → (k : ℕ) × (e : Path × ℕ) × (slice_get ds k ≡ Some e) × (e.0 ≡ path) × (looked c e ≡ l))
          → (k : ℕ) × (e : Path × ℕ) × (slice_get (d ∷ ds) k ≡ Some e) × (e.0 ≡ path) × (looked c e ≡ l)
      by true e at later = (0, d, refl, (bytes_eq-Decides d.0 path).0 e, some_same (looked c d) l at)
      by false e at later = let rest = later at in (suc rest.0, rest.1, rest.2, rest.3, rest.4)

  pub on_looks : (ds : Devices) (path : Path) → is_on path ds ≡ not (is_none (look_at (map (looked c) ds) path))
  on_looks [] path = refl
  on_looks (d ∷ ds) path = by (bytes_eq d.0 path) (on_looks ds path)
    where
      by : (b : Bool) → is_on path ds ≡ not (is_none (look_at (map (looked c) ds) path)) → (b || is_on path ds) ≡ not (is_none (cond b (Some (looked c d)) (look_at (map (looked c) ds) path)))
      by true e = refl
      by false e = e

  abbrev pub path_of_row : Option DevRow → Option Path
  path_of_row found = option_map (λ (row : DevRow). row.path) found

  pub missing_looks : (ds : Devices) (rows : List DevRow) → missing rows ds ≡ path_of_row (missing_of (map (looked c) ds) rows)
  missing_looks ds [] = refl
  missing_looks ds (row ∷ rows) = ap (λ (b : Bool). cond b (missing rows ds) (Some row.path)) (on_looks ds row.path) ∙ by (is_none (look_at (map (looked c) ds) row.path)) (missing_looks ds rows)
    where
      by : (b : Bool) → missing rows ds ≡ path_of_row (missing_of (map (looked c) ds) rows) → cond (not b) (missing rows ds) (Some row.path) ≡ path_of_row (cond b (Some row) (missing_of (map (looked c) ds) rows))
      by true e = refl
      by false e = e

module _ (p : ℕ) (devs : Devices) (c : Image) where
  -- a row whose device is there
  row_of_look : (row : DevRow) (found : Option DevLook) → look_at (map (looked c) devs) row.path ≡ found → look_fits p row found ≡ true → not (is_none found) ≡ true → HasRow p devs c row
  row_of_look row None at fits there = absurd (cc)
  row_of_look row (Some l) at fits there =
      let dev = look_of_path c devs row.path l at in
      let both = and_parts (nat_eq l.sectors row.sectors) (is_serial p l.header) fits in
      let own : looked c dev.1 ≡ l = dev.4 in
      let size : dev.1.1 ≡ row.sectors = ap (λ (m : DevLook). m.sectors) own ∙ number_same l.sectors row.sectors both.0 in
      let head : has_header p dev.1.1 (c dev.1.0) ≡ true = ap (λ (m : DevLook). is_serial p m.header) own ∙ both.1 in
      record {
        index = dev.0;
        of = dev.2 ∙ (λ i. Some (dev.3 i, size i));
        header = subst (λ (q : Path). has_header p row.sectors (c q) ≡ true) dev.3 (subst (λ (n : ℕ). has_header p n (c dev.1.0) ≡ true) size head);
      }
    where
      number_same : (a b : ℕ) → nat_eq a b ≡ true → a ≡ b
      number_same a b e = grind (arith, nat_tests)

  pub rows_of_looks : (rows : List DevRow) → rows_fit p (map (looked c) devs) rows ≡ true → AllByRecursion (λ (row : DevRow). is_on row.path devs ≡ true → HasRow p devs c row) rows
  rows_of_looks [] fit = tt
  rows_of_looks (row ∷ rows) fit =
      let both = and_parts (row_fits p (map (looked c) devs) row) (list_all (row_fits p (map (looked c) devs)) rows) fit in
      ((λ there. row_of_look row (look_at (map (looked c) devs) row.path) refl both.0 (sym (on_looks c devs row.path) ∙ there)), rows_of_looks rows both.1)

  module _ (rises : Rises devs) where
    fits_of_row : (row : DevRow) (found : Option DevLook) → look_at (map (looked c) devs) row.path ≡ found → (not (is_none found) ≡ true → HasRow p devs c row) → look_fits p row found ≡ true
    fits_of_row row None at has = refl
    fits_of_row row (Some l) at has =
        let dev = look_of_path c devs row.path l at in
        let one = has refl in
        let own_size : Has devs row.path dev.1.1 = subst (λ (q : Path). Has devs q dev.1.1) dev.3 (has_at devs dev.0 dev.1 rises dev.2) in
        let row_size : Has devs row.path row.sectors = has_at devs one.index (row.path, row.sectors) rises one.of in
        let size : dev.1.1 ≡ row.sectors = some_same dev.1.1 row.sectors (sym own_size ∙ row_size) in
        let head : has_header p dev.1.1 (c dev.1.0) ≡ true = subst (λ (n : ℕ). has_header p n (c dev.1.0) ≡ true) (sym size) (subst (λ (q : Path). has_header p row.sectors (c q) ≡ true) (sym dev.3) one.header) in
        subst (λ (m : DevLook). look_fits p row (Some m) ≡ true) dev.4 (and_from (nat_eq dev.1.1 row.sectors) _ (numbers_eq dev.1.1 row.sectors size) head)
      where
        numbers_eq : (a b : ℕ) → a ≡ b → nat_eq a b ≡ true
        numbers_eq a b e = grind (arith, nat_tests)

    pub looks_fit : (rows : List DevRow) → AllByRecursion (λ (row : DevRow). is_on row.path devs ≡ true → HasRow p devs c row) rows → rows_fit p (map (looked c) devs) rows ≡ true
    looks_fit [] all = refl
    looks_fit (row ∷ rows) all = and_from (row_fits p (map (looked c) devs) row) _ (fits_of_row row (look_at (map (looked c) devs) row.path) refl (λ there. all.0 (on_looks c devs row.path ∙ there))) (looks_fit rows all.1)

  -- the devices that lack the record of a pool that is gone
  two_places : (n : ℕ) → n < 2 → (n ≡ 0) ⊎ (n ≡ 1)
  two_places zero lt = inl refl
  two_places (suc zero) lt = inr refl
  two_places (suc (suc n)) lt = absurd (omega arith)

  below_two : (g : ℕ) → g % 2 < 2
  below_two g = omega arith

  in_its_place : (d : Path × ℕ) (n : ℕ) → n < 2 → cond (nat_eq n 0) (slot_on d.1 0 (c d.0)) (slot_on d.1 1 (c d.0)) ≡ slot_on d.1 n (c d.0)
  in_its_place d zero lt = refl
  in_its_place d (suc zero) lt = refl
  in_its_place d (suc (suc n)) lt = absurd (omega arith)

  lacks_same : (g : ℕ) (rec : PoolRec) (d : Path × ℕ) → lacks p rec.devs (g, pools.record_text rec) (looked c d) ≡ lacks_record p g rec c d
  lacks_same g rec d = ap (λ (found : Found). has_header p d.1 (c d.0) && (has_row rec.devs d.0 && not (holds (g, pools.record_text rec) found))) (in_its_place d (g % 2) (below_two g))

  pub lacking_same : (ds : Devices) (g : ℕ) (rec : PoolRec) → lacking p rec.devs (g, pools.record_text rec) (map (looked c) ds) ≡ map path_of (filter (lacks_record p g rec c) ds)
  lacking_same [] g rec = refl
  lacking_same (d ∷ ds) g rec = ap (λ (b : Bool). map placing.path_of (cond b (looked c d ∷ filter (lacks p rec.devs (g, pools.record_text rec)) (map (looked c) ds)) (filter (lacks p rec.devs (g, pools.record_text rec)) (map (looked c) ds)))) (lacks_same g rec d)
      ∙ by (lacks_record p g rec c d) (lacking_same ds g rec)
    where
      by : (b : Bool) → lacking p rec.devs (g, pools.record_text rec) (map (looked c) ds) ≡ map path_of (filter (lacks_record p g rec c) ds)
          → map placing.path_of (cond b (looked c d ∷ filter (lacks p rec.devs (g, pools.record_text rec)) (map (looked c) ds)) (filter (lacks p rec.devs (g, pools.record_text rec)) (map (looked c) ds))) ≡ map path_of (cond b (d ∷ filter (lacks_record p g rec c) ds) (filter (lacks_record p g rec c) ds))
      by true e = ap (λ (l : List Path). d.0 ∷ l) e
      by false e = e
