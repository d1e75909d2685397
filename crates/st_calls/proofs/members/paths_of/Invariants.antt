use Rattle.std.proofs.Common.{◌≡◌, ◌++◌, drop, Ok}
use Rattle.st_calls.specs.inner.View.{items_view}
use Rattle.st_calls.specs.Gives.{◌>>=◌}
use Rattle.st_calls.specs.Members.{each}
use Rattle.st_calls.specs.Members.{path_of}
use Rattle.st_calls.proofs.members.paths_of.Given as goal

-- what was read and what the rest gives are what all give
abbrev pub invariant-loop-value : goal.invariant-loop-value
invariant-loop-value l = (each path_of (items_view (drop l.value-index l.values)) >>= λ xs. Ok (l.list ++ xs)) ≡ each path_of (items_view l.values)
