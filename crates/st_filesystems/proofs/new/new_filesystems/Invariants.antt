use Rattle.std.proofs.Common.{◌≡◌, ◌+◌, ◌++◌, drop}
use Rattle.st_model.specs.steps.CreateFilesystems.{new_filesystems}
use Rattle.st_filesystems.proofs.new.new_filesystems.Given as goal

abbrev pub invariant-loop-spec : goal.invariant-loop-spec
invariant-loop-spec l =
    (l.list ++ new_filesystems l.next (drop l.spec-index l.specs) ≡ new_filesystems l.serial l.specs)
    × (l.next ≡ l.serial + l.spec-index)
