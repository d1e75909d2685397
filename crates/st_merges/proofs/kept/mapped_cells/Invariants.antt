use Rattle.std.proofs.Common.{◌≡◌, ◌++◌, drop}
use Rattle.st_merges.specs.inner.Kept.{mapped_cells}
use Rattle.st_merges.proofs.kept.mapped_cells.Given as goal

abbrev pub invariant-loop-cell : goal.invariant-loop-cell
invariant-loop-cell l = l.kept ++ mapped_cells l.filesystems (drop l.cell-index l.cells) ≡ mapped_cells l.filesystems l.cells
