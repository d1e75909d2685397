-- Neither an origin nor a limit is 0 where the rows of filesystems keep their conditions.
use Rattle.std.proofs.Common.{◌≡◌, ℕ, ◌<◌, Bool, true, false, ◌&&◌, ◌||◌, leb, List, [], ◌∷◌, take, Option, Some, None, refl, sym, ◌∙◌, subst, ap, arith}
use Rattle.std.specs.Prelude.{IfSome, nat_lt, ◌==◌, ◌%◌}
use Rattle.std.specs.List.{list_all, list_any, slice_index_or, AllPass}
use Rattle.std.proofs.lemmas.Bool.{and_parts, leb-true, eqb-true}
use Rattle.std.proofs.lemmas.List.Elements.{recursion_from_All, All-take}
use Rattle.std.proofs.lemmas.List.Sums.{AllPass-from_list_all, list_all-from_AllPass}
use Rattle.st_limits.specs.declared.TheConstants.{BLOCK_SECTORS, MAX_FS_SECTORS}
use Rattle.st_units.specs.declared.rows.FsRow.{FsRow}
use Rattle.st_recrows.specs.Rows.{AllFit, NeedsNothing}
use Rattle.st_recrows.specs.FsRows.{HasNoZero}
use Rattle.st_flexrec.specs.declared.record.FlexRec.{FlexRec}
use Rattle.st_flexrec.specs.declared.rows.MapRow.{MapRow}
use Rattle.st_flexrec.specs.declared.rows.CellRow.{CellRow}
use Rattle.st_flexrec.specs.Filesystems.{is_size, is_limit, is_fs_row, has_serial, is_origin_in, FilesystemsFit}
use Rattle.st_flexrec.specs.Conditions.{KeepsConditions}

from_one : (next : ℕ) (r : FsRow) → is_fs_row next r ≡ true → 0 < r.serial
from_one next r fit = omega (arith, leb-true _ _ (and_parts (leb 1 r.serial) (nat_lt r.serial next && (is_size r.size && is_limit r.size r.limit)) fit).0)

known_serial : (next serial : ℕ) (rows : List FsRow) → list_all (is_fs_row next) rows ≡ true → list_any (has_serial serial) rows ≡ true → 0 < serial
known_serial next serial [] each h = absurd cc
known_serial next serial (r ∷ rs) each h =
    let parts = and_parts (is_fs_row next r) (list_all (is_fs_row next) rs) each in
    by (has_serial serial r) refl (λ later. known_serial next serial rs parts.1 later)
  where
    by : (b : Bool) → has_serial serial r ≡ b → (list_any (has_serial serial) rs ≡ true → 0 < serial) → 0 < serial
    by true e later = subst (λ (n : ℕ). 0 < n) (eqb-true r.serial serial e) (from_one next r (and_parts (is_fs_row next r) (list_all (is_fs_row next) rs) each).0)
    by false e later = later (sym (ap (λ (b : Bool). b || list_any (has_serial serial) rs) e) ∙ h)

known_origin : (next : ℕ) (rows : List FsRow) (origin : Option ℕ) → list_all (is_fs_row next) rows ≡ true → is_origin_in rows origin ≡ true → IfSome origin (λ n. 0 < n)
known_origin next rows None each h = tt
known_origin next rows (Some serial) each h = known_serial next serial rows each h

some_limit : (size : ℕ) (limit : Option ℕ) → is_limit size limit ≡ true → IfSome limit (λ n. 0 < n)
some_limit size None h = tt
some_limit size (Some n) h =
    let good : is_size n ≡ true = (and_parts (is_size n) (leb size n) h).0 in
    let long : (leb BLOCK_SECTORS n && leb n MAX_FS_SECTORS) ≡ true = (and_parts (n % BLOCK_SECTORS == 0) (leb BLOCK_SECTORS n && leb n MAX_FS_SECTORS) good).1 in
    omega (arith, leb-true _ _ (and_parts (leb BLOCK_SECTORS n) (leb n MAX_FS_SECTORS) long).0)

limit_of : (next : ℕ) (r : FsRow) → is_fs_row next r ≡ true → IfSome r.limit (λ n. 0 < n)
limit_of next r fit =
    let behind : (nat_lt r.serial next && (is_size r.size && is_limit r.size r.limit)) ≡ true = (and_parts (leb 1 r.serial) (nat_lt r.serial next && (is_size r.size && is_limit r.size r.limit)) fit).1 in
    let sizes : (is_size r.size && is_limit r.size r.limit) ≡ true = (and_parts (nat_lt r.serial next) (is_size r.size && is_limit r.size r.limit) behind).1 in
    some_limit r.size r.limit (and_parts (is_size r.size) (is_limit r.size r.limit) sizes).1

without_zero : (next : ℕ) (rows : List FsRow) → FilesystemsFit next rows → AllFit HasNoZero rows
without_zero next rows fit = recursion_from_All HasNoZero rows (λ k d lt. record {
  origin = known_origin next (take k rows) (slice_index_or rows k d).origin (in_front k) (fit.origins k d lt);
  limit = limit_of next (slice_index_or rows k d) (each k d lt);
})
  where
    each : AllPass (is_fs_row next) rows
    each = AllPass-from_list_all (is_fs_row next) rows fit.each_fits

    in_front : (k : ℕ) → list_all (is_fs_row next) (take k rows) ≡ true
    in_front k = list_all-from_AllPass (is_fs_row next) (take k rows) (All-take (λ r. is_fs_row next r ≡ true) k rows each)

pub no_zeros : (rec : FlexRec) → KeepsConditions rec → AllFit HasNoZero rec.filesystems
no_zeros rec kept = without_zero rec.next_fs rec.filesystems kept.filesystems

-- rows of numbers alone need nothing
pub mappings_free : (rows : List MapRow) → AllFit NeedsNothing rows
mappings_free [] = tt
mappings_free (r ∷ rs) = (tt, mappings_free rs)

pub cells_free : (rows : List CellRow) → AllFit NeedsNothing rows
cells_free [] = tt
cells_free (r ∷ rs) = (tt, cells_free rs)
