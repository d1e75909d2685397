-- The counts of a record fit their fields.
use Rattle.std.proofs.Common.{◌≡◌, ◌≤◌, ◌&&◌, leb, length, refl, true, false, Bool, arith}
use Rattle.std.proofs.lemmas.Bool.{leb-true}
use Rattle.st_limits.specs.declared.TheConstants.{MAX_MAPPINGS}
use Rattle.st_flexrec.specs.declared.record.FlexRec.{FlexRec}
use Rattle.st_flexrec.specs.Conditions.{KeepsConditions, most_filesystems}

few : (f m c : Bool) → (f && (m && c)) ≡ true → (f ≡ true) × (m ≡ true) × (c ≡ true)
few true true true h = (refl, refl, refl)
few true true false h = absurd cc
few true false c h = absurd cc
few false m c h = absurd cc

most : (b : Bool) → most_filesystems b ≤ 256
most true = omega arith
most false = omega arith

pub filesystems_few : (rec : FlexRec) → KeepsConditions rec → length rec.filesystems ≤ 256
filesystems_few rec kept = omega (arith, most rec.version2, leb-true _ _ (few (leb (length rec.filesystems) (most_filesystems rec.version2)) (leb (length rec.mappings) MAX_MAPPINGS) (leb (length rec.cells) MAX_MAPPINGS) kept.few_rows).0)

pub mappings_few : (rec : FlexRec) → KeepsConditions rec → length rec.mappings ≤ 32768
mappings_few rec kept = leb-true _ _ (few (leb (length rec.filesystems) (most_filesystems rec.version2)) (leb (length rec.mappings) MAX_MAPPINGS) (leb (length rec.cells) MAX_MAPPINGS) kept.few_rows).1

pub cells_few : (rec : FlexRec) → KeepsConditions rec → length rec.cells ≤ 32768
cells_few rec kept = leb-true _ _ (few (leb (length rec.filesystems) (most_filesystems rec.version2)) (leb (length rec.mappings) MAX_MAPPINGS) (leb (length rec.cells) MAX_MAPPINGS) kept.few_rows).2
