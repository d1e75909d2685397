use Rattle.std.proofs.Common.{◌≡◌, ◌<◌, ℕ, Some}
use Rattle.std.specs.List.{slice_get}
use Rattle.st_units.specs.declared.rows.DevRow.{DevRow}
use Rattle.st_told.proofs.alike.same_rows.Given as goal

abbrev pub invariant-loop-i : goal.invariant-loop-i
invariant-loop-i l = record {
  same : (j : ℕ) (x y : DevRow) → j < l.i → slice_get l.rows j ≡ Some x → slice_get l.others j ≡ Some y → x ≡ y;
}
