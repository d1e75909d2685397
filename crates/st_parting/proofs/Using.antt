-- The devices of a pool alone, of those of a rack: they bear what the rack bears of the pool.
use Rattle.std.proofs.Common.{◌≡◌, ◌⊎◌, inl, inr, ℕ, zero, suc, Bool, true, false, ◌||◌, cond, List, [], ◌∷◌, map, Some, refl, sym, ◌∙◌, ap, subst}
use Rattle.std.specs.List.{slice_get}
use Rattle.std.specs.Str.{bytes_eq}
use Rattle.std.proofs.lemmas.Bool.{cases_Bool}
use Rattle.st_units.specs.declared.rows.DevRow.{DevRow}
use Rattle.st_poolrec.specs.declared.record.PoolRec.{PoolRec}
use Rattle.st_rack.specs.Device.{Path, Image}
use Rattle.st_rack.specs.Story.{Content}
use Rattle.st_rack.specs.Calls.{Devices, Has, Rises, names, sectors_of}
use Rattle.st_judge.proofs.Placed.{has_at}
use Rattle.st_image.specs.Looks.{has_header}
use Rattle.st_image.specs.Bears.{Bears, Candidate, HasRow, OnRowsAlone, candidate}
use Rattle.st_image.specs.Kept.{as_pair}
use Rattle.st_image.specs.Stands.{is_on, missing}
use Rattle.st_parting.proofs.Newest.{some_same, none_some}
use Rattle.st_parting.proofs.Headers.{candidate_slot}
use Rattle.st_parting.proofs.Rows.{equal, same_path, not_both, named_at, at_named, mapped_at, at_mapped, path_of_row}
use Rattle.st_parting.proofs.Same.{SameCandidates}

-- whether a device of a path is in a list
or_true : (a b : Bool) → (a || b) ≡ true → (a ≡ true) ⊎ (b ≡ true)
or_true true b e = inl refl
or_true false b e = inr e

or_second : (a b : Bool) → b ≡ true → (a || b) ≡ true
or_second true b e = refl
or_second false b e = e

pub on_at : (ds : Devices) (k : ℕ) (d : Path × ℕ) → slice_get ds k ≡ Some d → is_on d.0 ds ≡ true
on_at [] k d at = absurd (none_some d at)
on_at (e ∷ ds) zero d at = ap (λ (b : Bool). b || is_on d.0 ds) (equal e.0 d.0 (ap (λ (x : Path × ℕ). x.0) (some_same e d at)))
on_at (e ∷ ds) (suc k) d at = or_second (bytes_eq e.0 d.0) (is_on d.0 ds) (on_at ds k d at)

pub at_on : (ds : Devices) (path : Path) → is_on path ds ≡ true → (k : ℕ) × (d : Path × ℕ) × (slice_get ds k ≡ Some d) × (d.0 ≡ path)
at_on [] path e = absurd (cc)
at_on (d ∷ ds) path e = elim (or_true (bytes_eq d.0 path) (is_on path ds) e) [
  | inl here ↦ (0, d, refl, same_path d.0 path here)
  | inr later ↦ let rest = at_on ds path later in (suc rest.0, rest.1, rest.2, rest.3)
]

pub has_on : (ds : Devices) (path : Path) (n : ℕ) → Has ds path n → is_on path ds ≡ true
has_on [] path n has = absurd (none_some n has)
has_on (d ∷ ds) path n has = by (bytes_eq d.0 path) refl has (has_on ds path n)
  where
    by : (b : Bool) → bytes_eq d.0 path ≡ b → cond b (Some d.1) (sectors_of ds path) ≡ Some n → (Has ds path n → is_on path ds ≡ true) → (bytes_eq d.0 path || is_on path ds) ≡ true
    by true e is later = ap (λ (b : Bool). b || is_on path ds) e
    by false e is later = or_second (bytes_eq d.0 path) (is_on path ds) (later is)

-- of a device of a rack, its sectors
pub on_has : (ds : Devices) (path : Path) → Rises ds → is_on path ds ≡ true → (n : ℕ) × Has ds path n
on_has ds path rises e =
    let one = at_on ds path e in
    (one.1.1, subst (λ (q : Path). Has ds q one.1.1) one.3 (has_at ds one.0 one.1 rises one.2))

pub missing_same : (rows : List DevRow) (a b : Devices) → ((j : ℕ) (row : DevRow) → slice_get rows j ≡ Some row → is_on row.path a ≡ is_on row.path b) → missing rows a ≡ missing rows b
missing_same [] a b same = refl
missing_same (row ∷ rows) a b same =
    let rest = missing_same rows a b (λ j r at. same (suc j) r at) in
    λ i. cond (same 0 row refl i) (rest i) (Some row.path)

module _ (p : ℕ) (devs : Devices) (c : Image) (rises : Rises devs) (g : ℕ) (rec : PoolRec) (bears : Bears p devs g rec c) where
  -- the rack's device of a row has its sectors, and a header for the pool
  abbrev pub RowsRight : Type 0
  RowsRight = (j : ℕ) (row : DevRow) → slice_get rec.devs j ≡ Some row → (n : ℕ) → Has devs row.path n → HasRow p devs c row

  -- the devices of the list are just those of the rows that are there
  pub record AreRows (list : Devices) : Type 0 where
    pub each : (k : ℕ) (d : Path × ℕ) → slice_get list k ≡ Some d → (j : ℕ) × (row : DevRow) × (slice_get rec.devs j ≡ Some row) × (as_pair row ≡ d) × HasRow p devs c row
    pub all : (j : ℕ) (row : DevRow) → slice_get rec.devs j ≡ Some row → (n : ℕ) → Has devs row.path n → (k : ℕ) × (slice_get list k ≡ Some (as_pair row))

  pub row_has : (row : DevRow) → HasRow p devs c row → Has devs row.path row.sectors
  row_has row one = has_at devs one.index (row.path, row.sectors) rises one.of

  pub size_of_row : (row : DevRow) (n : ℕ) → HasRow p devs c row → Has devs row.path n → row.sectors ≡ n
  size_of_row row n one has = some_same row.sectors n (sym (row_has row one) ∙ has)

  module _ (right : RowsRight) (list : Devices) (are : AreRows list) (m : Image) (same : (k : ℕ) (d : Path × ℕ) → slice_get list k ≡ Some d → m d.0 ≡ c d.0) where
    on_row : (x : ℕ × List ℕ) (one : Candidate p devs c x) → (j : ℕ) × (row : DevRow) × (slice_get rec.devs j ≡ Some row) × (row.path ≡ one.dev.0)
    on_row x one = elim (cases_Bool (names (map path_of_row rec.devs) one.dev.0)) [
      | inl there ↦
          let at = named_at (map path_of_row rec.devs) one.dev.0 there in
          let row = mapped_at path_of_row rec.devs at.0 one.dev.0 at.1 in
          (at.0, row.0, row.1, row.2)
      | inr none ↦ absurd (none_some x (sym (bears.alone one.index one.dev one.of (λ r j at e. absurd (not_both (names (map path_of_row rec.devs) one.dev.0)
          (at_named (map path_of_row rec.devs) j one.dev.0 (at_mapped path_of_row rec.devs j r at ∙ ap (λ (q : Path). Some q) e)) none)) one.place one.of_two) ∙ candidate_slot p one.dev.1 one.place (c one.dev.0) x one.found))
    ]

    to : (x : ℕ × List ℕ) → Candidate p devs c x → Candidate p list m x
    to x one =
        let row = on_row x one in
        let has : Has devs one.dev.0 one.dev.1 = has_at devs one.index one.dev rises one.of in
        let there : Has devs row.1.path one.dev.1 = subst (λ (q : Path). Has devs q one.dev.1) (sym row.3) has in
        let at = are.all row.0 row.1 row.2 one.dev.1 there in
        let size : row.1.sectors ≡ one.dev.1 = size_of_row row.1 one.dev.1 (right row.0 row.1 row.2 one.dev.1 there) there in
        let held : m row.1.path ≡ c one.dev.0 = same at.0 (as_pair row.1) at.1 ∙ ap c row.3 in
        record { index = at.0; dev = as_pair row.1; of = at.1; place = one.place; of_two = one.of_two; found = (λ i. candidate p (size i) one.place (held i)) ∙ one.found }

    from : (x : ℕ × List ℕ) → Candidate p list m x → Candidate p devs c x
    from x one =
        let row = are.each one.index one.dev one.of in
        let held : c row.1.path ≡ m one.dev.0 = ap (λ (d : Path × ℕ). c d.0) row.3 ∙ sym (same one.index one.dev one.of) in
        record {
          index = row.4.index;
          dev = as_pair row.1;
          of = row.4.of;
          place = one.place;
          of_two = one.of_two;
          found = (λ i. candidate p (row.3 i).1 one.place (held i)) ∙ one.found;
        }

    pub candidates_same : SameCandidates p devs list c m
    candidates_same = record { to = to; from = from }

    pub alone_there : OnRowsAlone p list rec.devs m
    alone_there k d at none = let row = are.each k d at in absurd (none row.1 row.0 row.2 (ap (λ (e : Path × ℕ). e.0) row.3))

    -- a row whose device is there
    pub row_there : (j : ℕ) (row : DevRow) → slice_get rec.devs j ≡ Some row → (n : ℕ) → Has devs row.path n → HasRow p list m row
    row_there j row at n has =
        let one = are.all j row at n has in
        record {
          index = one.0;
          of = one.1;
          header = subst (λ (f : Content). has_header p row.sectors f ≡ true) (sym (same one.0 (as_pair row) one.1)) (right j row at n has).header;
        }

    pub held_on_row : (j : ℕ) (row : DevRow) → slice_get rec.devs j ≡ Some row → (n : ℕ) → Has devs row.path n → m row.path ≡ c row.path
    held_on_row j row at n has = let one = are.all j row at n has in same one.0 (as_pair row) one.1
