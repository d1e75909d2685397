-- A commit touches nothing but records: so cells are what they were, and headers stay.
use Rattle.std.proofs.Common.{◌≡◌, ◌⊎◌, inl, inr, ℕ, zero, suc, ◌+◌, ◌*◌, ◌%◌, ◌<◌, ◌≤◌, Bool, true, false, ◌&&◌, ◌||◌, List, [], ◌∷◌, Some, refl, sym, ◌∙◌, ap, subst, arith}
use Rattle.std.specs.List.{slice_get}
use Rattle.std.specs.Str.{bytes_eq}
use Rattle.std.proofs.lemmas.Slice.Eq.{bytes_eq-Decides}
use Rattle.std.proofs.lemmas.Bool.{cases_Bool, cases_lt}
use Rattle.std.proofs.lemmas.Bool.Decides.{nat_tests}
use Rattle.st_poolrec.specs.declared.record.PoolRec.{PoolRec}
use Rattle.st_flexlog.specs.declared.state.FlexState.{FlexState}
use Rattle.st_header.specs.Header.{header_of}
use Rattle.st_rack.specs.Story.{within}
use Rattle.st_rack.specs.Device.{Path, DevState, State, Image, held, pending}
use Rattle.st_rack.proofs.Cells.{cells_same}
use Rattle.st_slots.specs.Places.{slot_at}
use Rattle.st_commit.specs.Ready.{BearsRecord, IsOf, Outside, OutsideOf, Moves}
use Rattle.st_commit.proofs.Steps.{local}
use Rattle.st_image.specs.Looks.{is_first, is_serial, look_of, records_end, pool_area, flex_area}
use Rattle.st_image.specs.Left.{first_sectors, LeftOf}
use Rattle.st_image.specs.Bears.{paths}
use Rattle.st_image.specs.Stands.{Range, range_of, bytes_in, cell_rows, state_of}
use Rattle.st_image.specs.Frame.{covers, Moved, record_ranges}
use Rattle.st_image.specs.Calm.{Safe}
use Rattle.st_image.specs.Committed.{HasOwnHeader}
use Rattle.st_image.proofs.Frame.{is_at, behind_records}
use Rattle.st_image.proofs.Content.{agrees_left, same_bytes, cells_alike}
use Rattle.st_books.specs.Ready.{AreSafe, rows_of}

-- a device is of a list or isn't
of_or_not : (devs : List Path) (d : Path) → IsOf devs d ⊎ (IsOf devs d → ⊥)
of_or_not [] d = inr (λ of. none of.index of.is)
  where
    none : (k : ℕ) → slice_get (paths []) k ≡ Some d → ⊥
    none k is = cc
of_or_not (e ∷ ds) d = elim (cases_Bool (bytes_eq e d)) [
  | inl hit ↦ inl (record { index = 0; is = ap (λ (q : Path). Some q) ((bytes_eq-Decides e d).0 hit) })
  | inr miss ↦ elim (of_or_not ds d) [
    | inl of ↦ inl (record { index = suc of.index; is = of.is })
    | inr not_of ↦ inr (λ of. by of.index of.is miss not_of)
  ]
]
  where
    by : (k : ℕ) → slice_get (e ∷ ds) k ≡ Some d → bytes_eq e d ≡ false → (IsOf ds d → ⊥) → ⊥
    by zero is miss not_of = let same : e ≡ d = some_inj e d is in let hit = (bytes_eq-Decides e d).1 same in cc
      where
        some_inj : (a b : Path) → Some a ≡ Some b → a ≡ b
        some_inj a b e = cc
    by (suc k) is miss not_of = not_of (record { index = k; is = is })

or_false : (a b : Bool) → (a || b) ≡ false → (a ≡ false) × (b ≡ false)
or_false true b e = absurd (cc)
or_false false b e = (refl, e)

-- a byte in no range of records lies behind them
records_behind : (first : Bool) (devs : List Path) (d : Path) (i k : ℕ) → covers (record_ranges first devs) d i ≡ false → slice_get devs k ≡ Some d → records_end (is_at first k) ≤ i
records_behind first [] d i k off is = absurd (cc)
records_behind first (e ∷ ds) d i zero off is =
    let same : e ≡ d = some_inj e d is in
    let hit : bytes_eq e d ≡ true = (bytes_eq-Decides e d).1 same in
    let here : (bytes_eq e d && within 0 (records_end first) i) ≡ false = (or_false (bytes_eq e d && within 0 (records_end first) i) (covers (record_ranges false ds) d i) off).0 in
    let out : within 0 (records_end first) i ≡ false = sym (ap (λ (b : Bool). b && within 0 (records_end first) i) hit) ∙ here in
    elim (cases_lt i (records_end first)) [
      | inl low ↦ absurd (inside (records_end first) i low out)
      | inr high ↦ high
    ]
  where
    some_inj : (a b : Path) → Some a ≡ Some b → a ≡ b
    some_inj a b e = cc

    inside : (n i : ℕ) → i < n → within 0 n i ≡ false → ⊥
    inside n i low e = grind (arith, nat_tests)
records_behind first (e ∷ ds) d i (suc k) off is =
    subst (λ (b : Bool). records_end b ≤ i) (sym (later k)) (records_behind false ds d i k (or_false (bytes_eq e d && within 0 (records_end first) i) (covers (record_ranges false ds) d i) off).1 is)
  where
    later : (k : ℕ) → is_at first (suc k) ≡ is_at false k
    later zero = refl
    later (suc k) = refl

first_at_0 : (k : ℕ) → is_at true k ≡ is_first k
first_at_0 zero = refl
first_at_0 (suc k) = refl

-- outside the ranges of records a commit touches nothing
pub moves_moved : (G : ℕ) (devs : List Path) (a s : State) → Moves pool_area flex_area G devs a s → Moved (record_ranges true devs) a s
moves_moved G devs a s moves = record {
  same = λ d i off. elim (of_or_not devs d) [
    | inl of ↦ (moves d).0.same i (outside d i off of)
    | inr not_of ↦ ap (λ (x : DevState). x.holds i) ((moves d).1 not_of)
  ];
  sure = λ d i off sure. elim (of_or_not devs d) [
    | inl of ↦ (moves d).0.sure i (outside d i off of) sure
    | inr not_of ↦ subst (λ (x : DevState). pending x i ≡ false) (sym ((moves d).1 not_of)) sure
  ];
}
  where
    least : (b : Bool) (i : ℕ) → records_end b ≤ i → Outside pool_area G i
    least true i le = inr (omega (arith, le))
    least false i le = inr (omega (arith, le))

    outside : (d : Path) (i : ℕ) → covers (record_ranges true devs) d i ≡ false → IsOf devs d → Outside pool_area G i × (slice_get devs 0 ≡ Some d → OutsideOf flex_area.area i)
    outside d i off of = (
      least (is_at true of.index) i (records_behind true devs d i of.index off of.is),
      λ head. inr (let le = records_behind true devs d i 0 off head in omega (arith, le)),
    )

-- the header of a device stays
pub header_stays : (p sectors G : ℕ) (devs : List Path) (d : Path) (a s : State) → Moves pool_area flex_area G devs a s → HasOwnHeader p sectors (a d) → HasOwnHeader p sectors (s d)
header_stays p sectors G devs d a s moves own = record {
  sure = λ i low high. (moves d).0.sure i (out i high) (own.sure i low high);
  header = ap (λ (l : List ℕ). is_serial p (header_of sectors l)) (cells_same (s d).holds (a d).holds 0 8192 (λ i low high. (moves d).0.same i (out i high))) ∙ own.header;
}
  where
    out : (i : ℕ) → i < 0 + 8192 → Outside pool_area G i × (slice_get devs 0 ≡ Some d → OutsideOf flex_area.area i)
    out i high = (inl (omega (arith, high)), λ head. inl (omega (arith, high)))

-- cells whose places are safe
module _ (p : ℕ) (rec : PoolRec) (st : FlexState) (a s : State) (moved : Moved (record_ranges true (paths (rows_of rec))) a s) (safe : AreSafe rec st a) where
  off_records : (q : Range) → Safe (paths (rows_of rec)) q a → (i : ℕ) → q.1 ≤ i → covers (record_ranges true (paths (rows_of rec))) q.0 i ≡ false
  off_records q own i low = behind_records true (paths (rows_of rec)) q.0 i (λ k is. (
      let from = subst (λ (b : Bool). records_end b ≤ q.1) (sym (first_at_0 k)) (own.behind k is) in omega (arith, from, low)))

  pub cells_safe : AreSafe rec st s
  cells_safe k row is =
      let one = safe k row is in
      (one.0, record { on = one.1.on; behind = one.1.behind; sure = λ i low high. moved.sure (range_of rec row.place).0 i (off_records (range_of rec row.place) one.1 i low) (one.1.sure i low high) })

  pub cells_held : (g : ℕ) → state_of g rec st (held s) ≡ state_of g rec st (held a)
  cells_held g = ap (λ (cs : List (ℕ × List ℕ)). record (state_of g rec st (held a)) { cells = cs }) (cells_alike rec (held s) (held a) (cell_rows st.mappings) (λ k row is. each (range_of rec row.place) (safe k row is).1))
    where
      each : (q : Range) → Safe (paths (rows_of rec)) q a → bytes_in (held s) q ≡ bytes_in (held a) q
      each q own = same_bytes q (held s) (held a) (λ i low high none. moved.same q.0 i (off_records q own i low))

  pub cells_left : (c : Image) → LeftOf p (rows_of rec) s c → (g : ℕ) → state_of g rec st c ≡ state_of g rec st (held a)
  cells_left c leaves g = ap (λ (cs : List (ℕ × List ℕ)). record (state_of g rec st (held a)) { cells = cs }) (cells_alike rec c (held a) (cell_rows st.mappings) (λ k row is. each (range_of rec row.place) (safe k row is).1))
    where
      each : (q : Range) → Safe (paths (rows_of rec)) q a → bytes_in c q ≡ bytes_in (held a) q
      each q own = same_bytes q c (held a)
          (agrees_left (paths (rows_of rec)) (look_of p (first_sectors (rows_of rec))) (record_ranges true (paths (rows_of rec))) [] q a s c own.on moved own.sure (λ i low high off. off_records q own i low) leaves)

-- the slot of the generation before stays
pub borne_stays : (g : ℕ) (text : List ℕ) (devs : List Path) (d : Path) (a s : State) → Moves pool_area flex_area (g + 1) devs a s → BearsRecord pool_area g text (a d) → BearsRecord pool_area g text (s d)
borne_stays g text devs d a s moves bears = record {
  sure = λ i low high. (moves d).0.sure i (out i low high) (bears.sure i low high);
  reads = (local pool_area (g % 2)).same (s d).holds (a d).holds (λ i low high. (moves d).0.same i (out i low high)) ∙ bears.reads;
}
  where
    out : (i : ℕ) → slot_at pool_area g ≤ i → i < slot_at pool_area g + 512 * 64 → Outside pool_area (g + 1) i × (slice_get devs 0 ≡ Some d → OutsideOf flex_area.area i)
    out i low high = (
      elim (cases_lt (g % 2) 1) [
        | inl even ↦ (let zero : g % 2 ≡ 0 = omega arith in let one : (g + 1) % 2 ≡ 1 = omega (arith, zero) in inl (omega (arith, high, zero, one)))
        | inr odd ↦ (let one : g % 2 ≡ 1 = omega (arith, odd) in let zero : (g + 1) % 2 ≡ 0 = omega (arith, one) in inr (omega (arith, low, zero, one)))
      ],
      λ head. inl (let few : g % 2 ≤ 1 = omega arith in omega (arith, high, few)),
    )
