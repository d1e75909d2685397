use Rattle.std.proofs.Common.{◌≡◌, ◌++◌, drop}
use Rattle.st_model.specs.Content.{mapped_cells}
use Rattle.st_writing.proofs.cells.mapped_cells.Given as goal

abbrev pub invariant-loop-fs : goal.invariant-loop-fs
invariant-loop-fs l = l.cells ++ mapped_cells (drop l.fs-index l.filesystems) ≡ mapped_cells l.filesystems
