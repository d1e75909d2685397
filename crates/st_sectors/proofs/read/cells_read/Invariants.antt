use Rattle.std.proofs.Common.{◌≡◌, ◌++◌, drop, map}
use Rattle.st_model.specs.Content.{Stretch}
use Rattle.st_model.specs.steps.FsRead.{cells_read}
use Rattle.st_sectors.proofs.read.cells_read.Given as goal

abbrev pub invariant-loop-stretch : goal.invariant-loop-stretch
invariant-loop-stretch l =
    l.cells ++ cells_read l.fs (map (λ (s : Stretch). s.block) (drop l.stretch-index l.all)) ≡ cells_read l.fs (map (λ (s : Stretch). s.block) l.all)
