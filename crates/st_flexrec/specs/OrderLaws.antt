-- What comes before a row comes before all that it comes before.
use Rattle.std.proofs.Common.{◌≡◌, ℕ, true, arith}
use Rattle.std.specs.Prelude.{nat_lt}
use Rattle.std.proofs.lemmas.Bool.Decides.{Decides-ltb, nat_tests}
use Rattle.st_units.specs.declared.rows.FsRow.{FsRow}
use Rattle.st_flexrec.specs.declared.rows.MapRow.{MapRow}
use Rattle.st_flexrec.specs.declared.rows.CellRow.{CellRow}
use Rattle.st_flexrec.specs.Filesystems.{has_lower_serial}
use Rattle.st_flexrec.specs.Mappings.{is_mapped_before}
use Rattle.st_flexrec.specs.Cells.{has_lower_number}

pub numbers_rise_on : (a b c : ℕ) → nat_lt a b ≡ true → nat_lt b c ≡ true → nat_lt a c ≡ true
numbers_rise_on a b c h k =
    let first = (Decides-ltb a b).0 h in
    let second = (Decides-ltb b c).0 k in
    (Decides-ltb a c).1 (omega arith)

pub serials_go_on : (a b c : FsRow) → has_lower_serial a b ≡ true → has_lower_serial b c ≡ true → has_lower_serial a c ≡ true
serials_go_on a b c h k = numbers_rise_on a.serial b.serial c.serial h k

pub numbers_go_on : (a b c : CellRow) → has_lower_number a b ≡ true → has_lower_number b c ≡ true → has_lower_number a c ≡ true
numbers_go_on a b c h k = numbers_rise_on a.cell b.cell c.cell h k

pub mappings_go_on : (a b c : MapRow) → is_mapped_before a b ≡ true → is_mapped_before b c ≡ true → is_mapped_before a c ≡ true
mappings_go_on a b c h k = grind (arith, nat_tests)
