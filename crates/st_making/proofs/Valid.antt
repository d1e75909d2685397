-- The first record of a pool keeps the conditions of one.
use Rattle.std.proofs.Common.{◌≡◌, ℕ, ◌≤◌, Bool, true, ◌&&◌, cond, nat_le, List, [], ◌∷◌, length, refl, ◌∙◌, ap, arith}
use Rattle.std.specs.List.{AllByRecursion, list_all}
use Rattle.std.proofs.lemmas.Bool.{and_from}
use Rattle.std.proofs.lemmas.Bool.Decides.{nat_tests}
use Rattle.st_limits.specs.declared.TheConstants.{MIN_DEVICE_SECTORS, MAX_DEVICE_SECTORS}
use Rattle.st_limits.specs.Sums.{IsDeviceSize, usable_blocks}
use Rattle.st_units.specs.declared.rows.DevRow.{DevRow}
use Rattle.st_units.specs.declared.rows.Tier.TheVariants.{DataTier}
use Rattle.st_poolrec.specs.Conditions.{is_data, begins_with_data, has_fit_size, take_in_order, is_part}
use Rattle.st_poolrec.specs.Record.{is_record}
use Rattle.st_books.specs.declared.books.Books.{Books}
use Rattle.st_making.specs.First.{AreDataRows, AreNew, first_record, first_segment}

le_true : (n m : ℕ) → n ≤ m → nat_le n m ≡ true
le_true n m le = grind (arith, nat_tests)

fit_sizes : (rows : List DevRow) → AllByRecursion (λ (row : DevRow). IsDeviceSize row.sectors) rows → list_all has_fit_size rows ≡ true
fit_sizes [] all = refl
fit_sizes (r ∷ rows) all = and_from (has_fit_size r) (list_all has_fit_size rows) (and_from _ _ (le_true MIN_DEVICE_SECTORS r.sectors all.0.0) (le_true r.sectors MAX_DEVICE_SECTORS all.0.1)) (fit_sizes rows all.1)

room_for : (n : ℕ) → 8192 ≤ n → 58 ≤ usable_blocks n
room_for n le = omega (arith, le)

in_order : (rows : List DevRow) → 1 ≤ length rows → AllByRecursion (λ (row : DevRow). row.tier ≡ DataTier) rows → AllByRecursion (λ (row : DevRow). IsDeviceSize row.sectors) rows
    → (begins_with_data rows ≡ true) × (take_in_order 0 (first_segment ∷ []) rows ≡ true)
in_order [] some data_rows sizes = absurd (omega (arith, some))
in_order (r ∷ rows) some data_rows sizes = (
  is_one,
  ap (λ (b : Bool). cond b (is_part 0 r first_segment && true) (take_in_order 1 (first_segment ∷ []) rows)) is_one
      ∙ ap (λ (b : Bool). b && true) (le_true 58 (usable_blocks r.sectors) (room_for r.sectors sizes.0.0)),
)
  where
    is_one : is_data r.tier ≡ true
    is_one = ap is_data data_rows.0

pub first_valid : (serial : ℕ) (name : List ℕ) (rows : List DevRow) → AreDataRows rows → is_record (first_record serial name rows) ≡ true
first_valid serial name rows are =
    let order = in_order rows are.some are.data_rows are.sizes in
    and_from _ _ (le_true 1 (length rows) are.some) (and_from _ _ (le_true (length rows) 16 are.few)
    (and_from _ _ order.0 (and_from _ _ (fit_sizes rows are.sizes) (and_from _ _ are.own order.1))))

pub new_valid : (b : Books) → AreNew b → is_record b.rec ≡ true
new_valid b new = ap (λ (x : Books). is_record x.rec) new.are ∙ first_valid b.rec.serial b.rec.name b.rec.devs new.rows
