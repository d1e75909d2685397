-- What is known of the devices that a pool uses that lacks a device.
use Rattle.std.proofs.Common.{◌≡◌, inl, inr, ℕ, zero, suc, Bool, true, false, cond, List, [], ◌∷◌, map, Option, Some, None, unwrap_or, refl, sym, ◌∙◌, ap, subst}
use Rattle.std.specs.Prelude.{filter, is_some}
use Rattle.std.specs.List.{slice_get, AllByRecursion, IsDistinct}
use Rattle.std.specs.Str.{bytes_eq}
use Rattle.std.proofs.lemmas.Bool.{cases_Bool}
use Rattle.std.proofs.lemmas.List.{append-nil}
use Rattle.st_units.specs.declared.rows.DevRow.{DevRow}
use Rattle.st_poolrec.specs.declared.record.PoolRec.{PoolRec}
use Rattle.st_model.specs.declared.state.PoolState.{PoolState}
use Rattle.st_rack.specs.Device.{Path, Image}
use Rattle.st_rack.specs.Calls.{Devices, Rises, sectors_of, size_in}
use Rattle.st_image.specs.Bears.{Bears, HasRow, paths}
use Rattle.st_image.specs.Kept.{as_pair, in_use, present}
use Rattle.st_image.specs.Stands.{Lacking, StandsFor, is_on, lacking_of}
use Rattle.st_parting.proofs.Newest.{some_same, none_some}
use Rattle.st_parting.proofs.Rows.{fit_of, mapped_at, at_mapped, all_at, all_by, path_of_row, rows_distinct}
use Rattle.st_parting.proofs.Same.{bears_same}
use Rattle.st_parting.proofs.Using.{AreRows, RowsRight, row_has, candidates_same, alone_there, row_there, on_at, at_on, has_on, on_has, missing_same}
use Rattle.st_parting.proofs.Known.{SameSizes, Uses, whole_uses}

-- the rows of which the rack has the device
abbrev pub is_here : Devices → DevRow → Bool
is_here devs row = is_some (sectors_of devs row.path)

abbrev pub pair_in : Devices → DevRow → Path × ℕ
pair_in devs row = (row.path, size_in devs row.path)

filtered_at : (P : DevRow → Bool) (rows : List DevRow) (k : ℕ) (row : DevRow) → slice_get (filter P rows) k ≡ Some row → (j : ℕ) × (slice_get rows j ≡ Some row) × (P row ≡ true)
filtered_at P [] k row at = absurd (none_some row at)
filtered_at P (x ∷ xs) k row at = by (P x) refl k at (λ k at. filtered_at P xs k row at)
  where
    by : (b : Bool) → P x ≡ b → (k : ℕ) → slice_get (cond b (x ∷ filter P xs) (filter P xs)) k ≡ Some row → ((k : ℕ) → slice_get (filter P xs) k ≡ Some row → (j : ℕ) × (slice_get xs j ≡ Some row) × (P row ≡ true))
        → (j : ℕ) × (slice_get (x ∷ xs) j ≡ Some row) × (P row ≡ true)
    by true e zero at later = (0, at, ap P (sym (some_same x row at)) ∙ e)
    by true e (suc k) at later = let rest = later k at in (suc rest.0, rest.1, rest.2)
    by false e k at later = let rest = later k at in (suc rest.0, rest.1, rest.2)

at_filtered : (P : DevRow → Bool) (rows : List DevRow) (j : ℕ) (row : DevRow) → slice_get rows j ≡ Some row → P row ≡ true → (k : ℕ) × (slice_get (filter P rows) k ≡ Some row)
at_filtered P [] j row at is = absurd (none_some row at)
at_filtered P (x ∷ xs) zero row at is = (0, subst (λ (b : Bool). slice_get (cond b (x ∷ filter P xs) (filter P xs)) 0 ≡ Some row) (sym (ap P (some_same x row at) ∙ is)) at)
at_filtered P (x ∷ xs) (suc j) row at is = by (P x) (at_filtered P xs j row at is)
  where
    by : (b : Bool) → (k : ℕ) × (slice_get (filter P xs) k ≡ Some row) → (k : ℕ) × (slice_get (cond b (x ∷ filter P xs) (filter P xs)) k ≡ Some row)
    by true rest = (suc rest.0, rest.1)
    by false rest = rest

-- fewer of distinct ones are distinct
fewer_apart : (P : DevRow → Bool) (Q : Path → Type 0) (rows : List DevRow) → AllByRecursion Q (map path_of_row rows) → AllByRecursion Q (map path_of_row (filter P rows))
fewer_apart P Q [] all = tt
fewer_apart P Q (x ∷ xs) all = by (P x) (fewer_apart P Q xs all.1)
  where
    by : (b : Bool) → AllByRecursion Q (map path_of_row (filter P xs)) → AllByRecursion Q (map path_of_row (cond b (x ∷ filter P xs) (filter P xs)))
    by true rest = (all.0, rest)
    by false rest = rest

fewer_distinct : (P : DevRow → Bool) (rows : List DevRow) → IsDistinct bytes_eq (map path_of_row rows) → IsDistinct bytes_eq (map path_of_row (filter P rows))
unfolding IsDistinct
fewer_distinct P [] all = tt
fewer_distinct P (x ∷ xs) all = by (P x) (fewer_distinct P xs all.1)
  where
    by : (b : Bool) → IsDistinct bytes_eq (map path_of_row (filter P xs)) → IsDistinct bytes_eq (map path_of_row (cond b (x ∷ filter P xs) (filter P xs)))
    by true rest = (fewer_apart P (λ (q : Path). bytes_eq x.path q ≡ false) xs all.0, rest)
    by false rest = rest

paths_in : (devs : Devices) (rows : List DevRow) → paths (map (pair_in devs) rows) ≡ map path_of_row rows
paths_in devs [] = refl
paths_in devs (row ∷ rows) = ap (λ (l : List Path). row.path ∷ l) (paths_in devs rows)

present_same : (rows : List DevRow) (devs other : Devices) → SameSizes rows devs other → present rows other ≡ present rows devs
present_same [] devs other same = refl
present_same (row ∷ rows) devs other same =
    let rest = present_same rows devs other (λ j r at. same (suc j) r at) in
    let here = same 0 row refl in
    by other (is_some (sectors_of other row.path))
    ∙ (λ i. cond (is_some (here i)) ((row.path, unwrap_or (here i) 0) ∷ rest i) (rest i))
    ∙ sym (by devs (is_some (sectors_of devs row.path)))
  where
    by : (ds : Devices) (b : Bool) → map (pair_in ds) (cond b (row ∷ filter (is_here ds) rows) (filter (is_here ds) rows)) ≡ cond b (pair_in ds row ∷ present rows ds) (present rows ds)
    by ds true = refl
    by ds false = refl

module _ (p : ℕ) (devs : Devices) (c : Image) (rises : Rises devs) where
  module _ (g : ℕ) (rec : PoolRec) (path : Path) (lack : Lacking p devs c g rec path) where
    list_is : in_use (lacking_of rec path) devs ≡ present rec.devs devs
    list_is = append-nil (present rec.devs devs)

    bears : Bears p devs g rec c
    bears = lack.bears

    right : RowsRight p devs c rises g rec bears
    right j row at n has = all_at (λ (r : DevRow). is_on r.path devs ≡ true → HasRow p devs c r) rec.devs j row lack.rows at (has_on devs row.path n has)

    some_here : (o : Option ℕ) → is_some o ≡ true → (n : ℕ) × (o ≡ Some n)
    some_here None e = absurd (cc)
    some_here (Some n) e = (n, refl)

    pair_is : (row : DevRow) → HasRow p devs c row → pair_in devs row ≡ as_pair row
    pair_is row one =
        let has = row_has p devs c rises g rec bears row one in
        λ i. (row.path, unwrap_or (has i) 0)

    are_rows : AreRows p devs c rises g rec bears (present rec.devs devs)
    are_rows = record {
      each = λ k d at. (
          let one = mapped_at (pair_in devs) (filter (is_here devs) rec.devs) k d at in
          let row = filtered_at (is_here devs) rec.devs k one.0 one.1 in
          let has = some_here (sectors_of devs one.0.path) row.2 in
          let is = right row.0 one.0 row.1 has.0 has.1 in
          (row.0, one.0, row.1, sym (pair_is one.0 is) ∙ one.2, is));
      all = λ j row at n has. (
          let one = at_filtered (is_here devs) rec.devs j row at (ap is_some has) in
          (one.0, at_mapped (pair_in devs) (filter (is_here devs) rec.devs) one.0 row one.1 ∙ ap (λ (d : Path × ℕ). Some d) (pair_is row (right j row at n has))));
    }

    -- a device of a row is in use where the rack has it
    on_both : (j : ℕ) (row : DevRow) → slice_get rec.devs j ≡ Some row → is_on row.path devs ≡ is_on row.path (present rec.devs devs)
    on_both j row at = elim (cases_Bool (is_on row.path devs)) [
      | inl there ↦
          let has = on_has devs row.path rises there in
          let one = are_rows.all j row at has.0 has.1 in
          there ∙ sym (on_at (present rec.devs devs) one.0 (as_pair row) one.1)
      | inr none ↦ elim (cases_Bool (is_on row.path (present rec.devs devs))) [
        | inl here ↦ absurd (clash row here none)
        | inr miss ↦ none ∙ sym miss
      ]
    ]
      where
        clash : (row : DevRow) → is_on row.path (present rec.devs devs) ≡ true → is_on row.path devs ≡ false → ⊥
        clash row here none =
            let one = at_on (present rec.devs devs) row.path here in
            let own = are_rows.each one.0 one.1 one.2 in
            let same : own.1.path ≡ row.path = ap (λ (d : Path × ℕ). d.0) own.3 ∙ one.3 in
            let on : is_on own.1.path devs ≡ true = on_at devs own.4.index (as_pair own.1) own.4.of in
            not_both (is_on row.path devs) (subst (λ (q : Path). is_on q devs ≡ true) same on) none
          where
            not_both : (b : Bool) → b ≡ true → b ≡ false → ⊥
            not_both b t f = cc

    stands_here : (m : Image) → ((k : ℕ) (d : Path × ℕ) → slice_get (present rec.devs devs) k ≡ Some d → m d.0 ≡ c d.0) → StandsFor p (present rec.devs devs) m (Some (lacking_of rec path))
    stands_here m same =
        let cands = candidates_same p devs c rises g rec bears right (present rec.devs devs) are_rows m same in
        let alone = alone_there p devs c rises g rec bears right (present rec.devs devs) are_rows m same in
        inr (
          g,
          rec,
          path,
          record {
            bears = bears_same p devs (present rec.devs devs) c m cands g rec alone bears;
            alive = lack.alive;
            lacks = sym (missing_same rec.devs devs (present rec.devs devs) on_both) ∙ lack.lacks;
            rows = all_by (λ (row : DevRow). is_on row.path (present rec.devs devs) ≡ true → HasRow p (present rec.devs devs) m row) rec.devs
                (λ j row at there. (let has = on_has devs row.path rises (on_both j row at ∙ there) in row_there p devs c rises g rec bears right (present rec.devs devs) are_rows m same j row at has.0 has.1));
          },
          refl,
        )

    pub part_uses : Uses p (lacking_of rec path) devs c rises
    part_uses = record {
      idle = refl;
      flight = refl;
      g = g;
      rec = rec;
      rows = refl;
      bears = bears;
      are = subst (AreRows p devs c rises g rec bears) (sym list_is) are_rows;
      distinct = subst (λ (l : List Path). IsDistinct bytes_eq l) (sym (ap paths list_is ∙ paths_in devs (filter (is_here devs) rec.devs))) (fewer_distinct (is_here devs) rec.devs (rows_distinct rec.devs (fit_of rec bears.is).own));
      same = λ other sizes. append-nil (present rec.devs other) ∙ present_same rec.devs devs other sizes ∙ sym list_is;
      stands = λ m same. subst (λ (l : Devices). StandsFor p l m (Some (lacking_of rec path))) (sym list_is) (stands_here m (subst (λ (l : Devices). (k : ℕ) (d : Path × ℕ) → slice_get l k ≡ Some d → m d.0 ≡ c d.0) list_is same));
      kept = λ other. refl;
    }

  -- a pool that is known uses devices so
  pub known_uses : (pool : PoolState) → StandsFor p devs c (Some pool) → Uses p pool devs c rises
  known_uses pool (inl one) = subst (λ (q : PoolState). Uses p q devs c rises) (sym one.4) (whole_uses p devs c rises one.0 one.1 one.2 one.3)
  known_uses pool (inr one) = subst (λ (q : PoolState). Uses p q devs c rises) (sym one.4) (part_uses one.0 one.1 one.2 one.3)
