-- The segments of a data tier, as rows of a record, take the data devices in order.
use Rattle.std.proofs.Common.{◌≡◌, ◌⊎◌, inl, inr, ℕ, ◌+◌, ◌-◌, ◌≤◌, ◌<◌, Bool, true, false, ◌||◌, cond, eqb, List, [], ◌∷◌, ◌++◌, length, refl, sym, ap, ◌∙◌, subst, arith}
use Rattle.std.specs.Prelude.{min, nat_lt, ◌==◌}
use Rattle.std.specs.List.{AllByRecursion}
use Rattle.std.proofs.lemmas.Bool.{and_from, or_left, or_right, eq-eqb, le-leb, lt-ltb, cases_lt}
use Rattle.std.proofs.lemmas.Bool.Decides.{nat_tests}
use Rattle.st_units.specs.declared.rows.DevRow.{DevRow}
use Rattle.st_units.specs.declared.rows.Segment.{Segment}
use Rattle.st_units.specs.declared.rows.Tier.{Tier}
use Rattle.st_units.specs.declared.rows.Tier.TheVariants.{DataTier, CacheTier}
use Rattle.st_limits.specs.Sums.{IsDeviceSize, usable_blocks}
use Rattle.st_datatier.specs.Tier.{first_block_of}
use Rattle.st_datatier.specs.Segments.{segment_at, segment_rows}
use Rattle.st_poolrec.specs.Conditions.{first_block, is_part, ends_device, take_in_order}

none_left : (at : ℕ) (rows : List DevRow) → segment_rows at 0 rows ≡ []
none_left at [] = refl
none_left at (row ∷ rows) = by row.tier (none_left (at + 1) rows)
  where
    by : (t : Tier) → segment_rows (at + 1) 0 rows ≡ [] → segment_rows at 0 (record row { tier = t } ∷ rows) ≡ []
    by DataTier later =
        let none : min 0 (usable_blocks row.sectors - first_block_of at) ≡ 0 = omega arith in
        let still : 0 - min 0 (usable_blocks row.sectors - first_block_of at) ≡ 0 = omega arith in
        (λ i. segment_at at (none i) ++ segment_rows (at + 1) (still i) rows) ∙ later
    by CacheTier later = later

-- a device that may be in a pool has blocks for data
roomy : (sectors : ℕ) → 8192 ≤ sectors → 62 ≤ usable_blocks sectors
roomy sectors large = omega arith

begins_low : (at : ℕ) → first_block_of at ≤ 26
begins_low at = by (eqb at 0)
  where
    by : (b : Bool) → cond b 26 0 ≤ 26
    by true = omega arith
    by false = omega arith

-- the blocks that a data device still has
abbrev left_on : ℕ → ℕ → ℕ
left_on at sectors = usable_blocks sectors - first_block_of at

-- rows of the cache tier are passed over
passed : (at : ℕ) (row : DevRow) (rows : List DevRow) (segs : List Segment) → take_in_order (at + 1) segs rows ≡ true → take_in_order at segs (record row { tier = CacheTier } ∷ rows) ≡ true
passed at row rows [] taken = refl
passed at row rows (s ∷ ss) taken = taken

abbrev seg_of : ℕ → ℕ → Segment
seg_of at k = record { dev = at; first = first_block_of at; blocks = k }

-- a data device of which k blocks are taken, all that it has where others follow
one_taken : (at k : ℕ) (row : DevRow) (rows : List DevRow) (rest : List Segment) → 0 < k → k ≤ left_on at row.sectors → 8192 ≤ row.sectors → (length rest ≡ 0) ⊎ (k ≡ left_on at row.sectors) → take_in_order (at + 1) rest rows ≡ true
    → take_in_order at (seg_of at k ∷ rest) (record row { tier = DataTier } ∷ rows) ≡ true
one_taken at k row rows rest some within large last taken =
    let low = begins_low at in
    let room = roomy row.sectors large in
    and_from (is_part at row (seg_of at k)) _
    (and_from (at == at) _ (eq-eqb at at refl) (and_from (first_block_of at == first_block at) _ (eq-eqb (first_block_of at) (first_block at) refl)
    (and_from (nat_lt 0 k) _ (lt-ltb 0 k some) (le-leb (first_block_of at + k) (usable_blocks row.sectors) (omega (arith, within, low, room))))))
    (and_from ((length rest == 0) || ends_device row (seg_of at k)) _ (ends last) taken)
  where
    ends : (length rest ≡ 0) ⊎ (k ≡ left_on at row.sectors) → ((length rest == 0) || ends_device row (seg_of at k)) ≡ true
    ends (inl none) = or_left (length rest == 0) (ends_device row (seg_of at k)) (eq-eqb (length rest) 0 none)
    ends (inr all) =
        let low = begins_low at in
        let room = roomy row.sectors large in
        or_right (length rest == 0) (ends_device row (seg_of at k)) (eq-eqb (first_block_of at + k) (usable_blocks row.sectors) (omega (arith, all, low, room)))

pub taken_in_order : (at n : ℕ) (rows : List DevRow) → AllByRecursion (λ (row : DevRow). IsDeviceSize row.sectors) rows → take_in_order at (segment_rows at n rows) rows ≡ true
taken_in_order at n [] sizes = refl
taken_in_order at n (row ∷ rows) sizes = by row.tier (λ k. taken_in_order (at + 1) k rows sizes.1)
  where
    large : 8192 ≤ row.sectors
    large = sizes.0.0

    of_data : (k : ℕ) → k ≡ min n (left_on at row.sectors) → take_in_order (at + 1) (segment_rows (at + 1) (n - k) rows) rows ≡ true
        → take_in_order at (segment_at at k ++ segment_rows (at + 1) (n - k) rows) (record row { tier = DataTier } ∷ rows) ≡ true
    of_data k is later = elim (cases_lt 0 k) [
      | inl some ↦
          let many : eqb k 0 ≡ false = grind (arith, nat_tests) in
          subst (λ (b : Bool). take_in_order at (cond b [] (seg_of at k ∷ []) ++ segment_rows (at + 1) (n - k) rows) (record row { tier = DataTier } ∷ rows) ≡ true) (sym many)
          (one_taken at k row rows (segment_rows (at + 1) (n - k) rows) some (omega (arith, is)) large (last k is) later)
      | inr from ↦
          let zero_is : k ≡ 0 = omega arith in
          let none : n ≡ 0 = let low = begins_low at in let room = roomy row.sectors large in omega (arith, is, zero_is, low, room) in
          (λ i. take_in_order at (segment_at at (zero_is i) ++ segment_rows (at + 1) (none i - zero_is i) rows) (record row { tier = DataTier } ∷ rows)) ∙ ap (λ (l : List Segment). take_in_order at l (record row { tier = DataTier } ∷ rows)) (none_left (at + 1) rows)
    ]
      where
        last : (k : ℕ) → k ≡ min n (left_on at row.sectors) → (length (segment_rows (at + 1) (n - k) rows) ≡ 0) ⊎ (k ≡ left_on at row.sectors)
        last k is = elim (cases_lt n (left_on at row.sectors)) [
          | inl less ↦ let gone : n - k ≡ 0 = omega (arith, is) in inl (ap length (ap (λ (m : ℕ). segment_rows (at + 1) m rows) gone ∙ none_left (at + 1) rows))
          | inr more ↦ inr (omega (arith, is))
        ]

    by : (t : Tier) → ((k : ℕ) → take_in_order (at + 1) (segment_rows (at + 1) k rows) rows ≡ true) → take_in_order at (segment_rows at n (record row { tier = t } ∷ rows)) (record row { tier = t } ∷ rows) ≡ true
    by DataTier later = of_data (min n (left_on at row.sectors)) refl (later (n - min n (left_on at row.sectors)))
    by CacheTier later = passed at row rows (segment_rows (at + 1) (n - 0) rows) (later (n - 0))
