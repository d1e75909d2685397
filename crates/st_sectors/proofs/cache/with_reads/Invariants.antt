use Rattle.std.proofs.Common.{◌≡◌, drop}
use Rattle.st_model.specs.steps.FsRead.{with_reads}
use Rattle.st_sectors.proofs.cache.with_reads.Given as goal

abbrev pub invariant-loop-cell : goal.invariant-loop-cell
invariant-loop-cell l = with_reads (drop l.cell-index l.cells) l.after ≡ with_reads l.cells l.cache
