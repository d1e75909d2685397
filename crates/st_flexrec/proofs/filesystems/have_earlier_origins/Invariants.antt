use Rattle.std.proofs.Common.{◌≡◌, ℕ, ◌<◌, true, take}
use Rattle.std.specs.List.{slice_index_or}
use Rattle.st_units.specs.declared.rows.FsRow.{FsRow}
use Rattle.st_flexrec.specs.Filesystems.{is_origin_in}
use Rattle.st_flexrec.proofs.filesystems.have_earlier_origins.Given as goal

abbrev pub invariant-loop-i : goal.invariant-loop-i
invariant-loop-i l = (k : ℕ) (d : FsRow) → k < l.i → is_origin_in (take k l.rows) (slice_index_or l.rows k d).origin ≡ true
