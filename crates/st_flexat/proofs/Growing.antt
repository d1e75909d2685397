-- A delta keeps what holds of mappings.
use Rattle.std.proofs.Common.{◌≡◌, ◌⊎◌, inl, inr, ℕ, ◌+◌, ◌^◌, ◌<◌, ◌≤◌, Bool, true, false, not, ◌&&◌, ◌||◌, cond, nat_lt, nat_le, nat_eq, List, [], ◌∷◌, length, refl, sym, ap, ◌∙◌, subst, arith}
use Rattle.std.specs.List.{list_all}
use Rattle.std.proofs.lemmas.Bool.Decides.{nat_tests}
use Rattle.st_limits.specs.declared.TheConstants.{MAX_MAPPINGS}
use Rattle.st_flexlog.specs.declared.delta.DeltaRow.{DeltaRow}
use Rattle.st_flexlog.specs.declared.state.Mapping.{Mapping}
use Rattle.st_flexlog.specs.Applied.{cells_follow, stands_before, is_of_block, put_mapping, mapping_by, put_rows, has_other_place, has_own_place}
use Rattle.st_flexat.specs.Mapped.{AgreesWith}
use Rattle.st_flexat.proofs.Members.{In, Sorted, passes}

-- what holds of them, by what stands in the list
pub record Tidy (next : ℕ) (ms : List Mapping) : Type 0 where
  pub few : length ms ≤ MAX_MAPPINGS
  pub rise : Sorted stands_before ms
  pub blocks : (x : Mapping) → In x ms → x.block < 2 ^ 32
  pub cells : (x : Mapping) → In x ms → x.cell < next
  pub paired : (x y : Mapping) → In x ms → In y ms → AgreesWith x y

-- ---- a mapping is put in its order

abbrev put_by : Bool → Bool → Mapping → Mapping → List Mapping → List Mapping → List Mapping
put_by before same m other put rest = cond before (other ∷ put) (cond same (m ∷ rest) (m ∷ (other ∷ rest)))

pub put_in : (m : Mapping) (ms : List Mapping) (x : Mapping) → In x (put_mapping m ms) → (x ≡ m) ⊎ In x ms
put_in m [] x is = is
put_in m (other ∷ rest) x is = by (stands_before other m) (is_of_block m other) (λ more. put_in m rest x more) is
  where
    by : (before same : Bool) → (In x (put_mapping m rest) → (x ≡ m) ⊎ In x rest) → In x (put_by before same m other (put_mapping m rest) rest) → (x ≡ m) ⊎ In x (other ∷ rest)
    by true same further (inl here) = inr (inl here)
    by true same further (inr more) = elim (further more) [
      | inl new ↦ inl new
      | inr old ↦ inr (inr old)
    ]
    by false true further (inl here) = inl here
    by false true further (inr more) = inr (inr more)
    by false false further (inl here) = inl here
    by false false further (inr more) = inr more

-- the order of filesystem and block

goes_on : (a b c d e f : ℕ) → (nat_lt a c || (nat_eq a c && nat_lt b d)) ≡ true → (nat_lt c e || (nat_eq c e && nat_lt d f)) ≡ true → (nat_lt a e || (nat_eq a e && nat_lt b f)) ≡ true
goes_on a b c d e f one two = grind (arith, nat_tests)

same_then : (a b c d e f : ℕ) → (nat_eq a c && nat_eq b d) ≡ true → (nat_lt c e || (nat_eq c e && nat_lt d f)) ≡ true → (nat_lt a e || (nat_eq a e && nat_lt b f)) ≡ true
same_then a b c d e f one two = grind (arith, nat_tests)

else_before : (a b c d : ℕ) → (nat_lt c a || (nat_eq c a && nat_lt d b)) ≡ false → (nat_eq a c && nat_eq b d) ≡ false → (nat_lt a c || (nat_eq a c && nat_lt b d)) ≡ true
else_before a b c d one two = grind (arith, nat_tests)

pub put_sorted : (m : Mapping) (ms : List Mapping) → Sorted stands_before ms → Sorted stands_before (put_mapping m ms)
put_sorted m [] sorted = (λ y is. absurd is, tt)
put_sorted m (other ∷ rest) sorted = by (stands_before other m) (is_of_block m other) (put_sorted m rest sorted.1) refl refl
  where
    by : (before same : Bool) → Sorted stands_before (put_mapping m rest) → stands_before other m ≡ before → is_of_block m other ≡ same → Sorted stands_before (put_by before same m other (put_mapping m rest) rest)
    by true same further e same_is = (
      λ y is. elim (put_in m rest y is) [
        | inl new ↦ ap (stands_before other) new ∙ e
        | inr old ↦ sorted.0 y old
      ],
      further,
    )
    by false true further e same_is =
        (λ y is. same_then m.fs m.block other.fs other.block y.fs y.block same_is (sorted.0 y is), sorted.1)
    by false false further e same_is =
        let first : stands_before m other ≡ true = else_before m.fs m.block other.fs other.block e same_is in (
          λ y is. elim is [
            | inl here ↦ ap (stands_before m) here ∙ first
            | inr more ↦ goes_on m.fs m.block other.fs other.block y.fs y.block first (sorted.0 y more)
          ],
          sorted,
        )

-- ---- so are those of rows

pub rows_in : (rows : List DeltaRow) (ms : List Mapping) (x : Mapping) → In x (put_rows rows ms) → In x ms ⊎ ((r : DeltaRow) × In r rows × (x ≡ mapping_by r))
rows_in [] ms x is = inl is
rows_in (r ∷ rs) ms x is = elim (rows_in rs (put_mapping (mapping_by r) ms) x is) [
  | inl before ↦ elim (put_in (mapping_by r) ms x before) [
    | inl new ↦ inr (r, inl refl, new)
    | inr old ↦ inl old
  ]
  | inr later ↦ inr (later.0, inr later.1, later.2)
]

pub rows_sorted : (rows : List DeltaRow) (ms : List Mapping) → Sorted stands_before ms → Sorted stands_before (put_rows rows ms)
rows_sorted [] ms sorted = sorted
rows_sorted (r ∷ rs) ms sorted = rows_sorted rs (put_mapping (mapping_by r) ms) (put_sorted (mapping_by r) ms sorted)

-- ---- the cells of rows

both_true : (a b : Bool) → (a && b) ≡ true → (a ≡ true) × (b ≡ true)
both_true true b is = (refl, is)
both_true false b is = absurd (cc)

eq_of : (a b : ℕ) → nat_eq a b ≡ true → a ≡ b
eq_of a b is = grind (arith, nat_tests)

le_of : (a b : ℕ) → nat_le a b ≡ true → a ≤ b
le_of a b is = grind (arith, nat_tests)

pub cell_within : (next : ℕ) (rows : List DeltaRow) (r : DeltaRow) → cells_follow next rows ≡ true → In r rows → (next ≤ r.cell) × (r.cell < next + length rows)
cell_within next [] r follow is = absurd is
cell_within next (q ∷ qs) r follow is =
    let both = both_true (nat_eq q.cell next) (cells_follow (next + 1) qs) follow in
    elim is [
      | inl here ↦ let e : r.cell ≡ next = ap (λ (d : DeltaRow). d.cell) here ∙ eq_of q.cell next both.0 in (omega (arith, e), omega (arith, e))
      | inr more ↦ let rest = cell_within (next + 1) qs r both.1 more in (omega (arith, rest.0), omega (arith, rest.1))
    ]

pub one_row : (next : ℕ) (rows : List DeltaRow) (r q : DeltaRow) → cells_follow next rows ≡ true → In r rows → In q rows → r.cell ≡ q.cell → r ≡ q
one_row next [] r q follow is_r is_q same = absurd is_r
one_row next (x ∷ xs) r q follow is_r is_q same =
    let both = both_true (nat_eq x.cell next) (cells_follow (next + 1) xs) follow in
    let here : x.cell ≡ next = eq_of x.cell next both.0 in
    elim is_r [
      | inl r_here ↦ elim is_q [
        | inl q_here ↦ r_here ∙ sym q_here
        | inr q_more ↦ let far = cell_within (next + 1) xs q both.1 q_more in absurd (omega (arith, ap (λ (d : DeltaRow). d.cell) r_here, here, same, far.0))
      ]
      | inr r_more ↦ elim is_q [
        | inl q_here ↦ let far = cell_within (next + 1) xs r both.1 r_more in absurd (omega (arith, ap (λ (d : DeltaRow). d.cell) q_here, here, same, far.0))
        | inr q_more ↦ one_row (next + 1) xs r q both.1 r_more q_more same
      ]
    ]

-- ---- a delta that applies

same_tests : (a b : Bool) → (a ≡ true → b ≡ true) → (b ≡ true → a ≡ true) → a ≡ b
same_tests true true to from = refl
same_tests true false to from = sym (to refl)
same_tests false true to from = from refl
same_tests false false to from = refl

other_place : (a b p q : ℕ) → (nat_eq a b || not (nat_eq p q)) ≡ true → nat_eq p q ≡ true → nat_eq a b ≡ true
other_place a b p q one same = grind (arith, nat_tests)

nat_eq_sym : (a b : ℕ) → nat_eq a b ≡ nat_eq b a
nat_eq_sym a b = same_tests (nat_eq a b) (nat_eq b a) (λ is. grind (arith, nat_tests)) (λ is. grind (arith, nat_tests))

module _ (next : ℕ) (rows : List DeltaRow) (ms : List Mapping) (tidy : Tidy next ms) (follow : cells_follow next rows ≡ true)
    (own : list_all (has_own_place (put_rows rows ms)) rows ≡ true) where
  -- the cell of a row and any of the mappings
  row_agrees : (r : DeltaRow) (y : Mapping) → In r rows → In y (put_rows rows ms) → AgreesWith (mapping_by r) y
  row_agrees r y is_row is =
      let other : (nat_eq y.cell r.cell || not (nat_eq y.place r.place)) ≡ true = passes (has_other_place r) (put_rows rows ms) y (passes (has_own_place (put_rows rows ms)) rows r own is_row) is in
      same_tests (nat_eq r.cell y.cell) (nat_eq r.place y.place)
      (λ one. elim (rows_in rows ms y is) [
        | inl old ↦ absurd (omega (arith, eq_of r.cell y.cell one, tidy.cells y old, (cell_within next rows r follow is_row).0))
        | inr new ↦
            let q = new.0 in
            let cell : r.cell ≡ q.cell = eq_of r.cell y.cell one ∙ ap (λ (m : Mapping). m.cell) new.2 in
            let row : r ≡ q = one_row next rows r q follow is_row new.1 cell in
            let place : r.place ≡ y.place = ap (λ (d : DeltaRow). d.place) row ∙ sym (ap (λ (m : Mapping). m.place) new.2) in
            grind (arith, nat_tests)
      ])
      (λ one. nat_eq_sym r.cell y.cell ∙ other_place y.cell r.cell y.place r.place other (nat_eq_sym y.place r.place ∙ one))

  agrees : (x y : Mapping) → In x (put_rows rows ms) → In y (put_rows rows ms) → AgreesWith x y
  agrees x y is_x is_y = elim (rows_in rows ms x is_x) [
    | inl old_x ↦ elim (rows_in rows ms y is_y) [
      | inl old_y ↦ tidy.paired x y old_x old_y
      | inr new_y ↦
          let turned : AgreesWith y x = subst (λ (m : Mapping). AgreesWith m x) (sym new_y.2) (row_agrees new_y.0 x new_y.1 is_x) in
          nat_eq_sym x.cell y.cell ∙ turned ∙ nat_eq_sym y.place x.place
    ]
    | inr new_x ↦ subst (λ (m : Mapping). AgreesWith m y) (sym new_x.2) (row_agrees new_x.0 y new_x.1 is_y)
  ]

  pub rows_tidy : ((r : DeltaRow) → In r rows → r.block < 2 ^ 32) → length (put_rows rows ms) ≤ MAX_MAPPINGS → Tidy (next + length rows) (put_rows rows ms)
  rows_tidy blocks few = record {
    few = few;
    rise = rows_sorted rows ms tidy.rise;
    blocks = λ x is. elim (rows_in rows ms x is) [
      | inl old ↦ tidy.blocks x old
      | inr new ↦ subst (λ (m : Mapping). m.block < 2 ^ 32) (sym new.2) (blocks new.0 new.1)
    ];
    cells = λ x is. elim (rows_in rows ms x is) [
      | inl old ↦ (let lt = tidy.cells x old in omega arith)
      | inr new ↦ subst (λ (m : Mapping). m.cell < next + length rows) (sym new.2) (cell_within next rows new.0 follow new.1).1
    ];
    paired = agrees;
  }
