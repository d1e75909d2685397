use Rattle.std.proofs.Common.{◌≡◌, ◌++◌}
use Rattle.std.specs.List.Sorted.{IsStrictlySortedBy}
use Rattle.std.specs.Map.{keys_of}
use Rattle.std.specs.Ordering.{nat_cmp}
use Rattle.st_merges.specs.inner.Kept.{mapped_entries}
use Rattle.st_merges.proofs.kept.mapped_entries.Given as goal

abbrev pub invariant-loop-cell : goal.invariant-loop-cell
invariant-loop-cell l =
    let rest = mapped_entries l.filesystems l.cell-iterator in
    IsStrictlySortedBy nat_cmp (keys_of (l.kept ++ rest)) × (l.kept ++ rest ≡ mapped_entries l.filesystems l.cells)
