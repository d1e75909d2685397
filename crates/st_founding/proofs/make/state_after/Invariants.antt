use Rattle.std.specs.Prelude.{◌+◌, ◌++◌, ◌∷◌, [], None}
use Rattle.st_founding.proofs.make.state_after.Given as goal

abbrev pub ghost-new : goal.ghost-new
ghost-new a = record { name = a.second.now; serial = a.first.now.value.next; new = None; devices = [] }

abbrev pub ghost-new-2 : goal.ghost-new-2
ghost-new-2 a = record a.first.now.value { names = a.first.now.value.names ++ a.second.now.value ∷ []; next = a.first.now.value.next + 1 }
