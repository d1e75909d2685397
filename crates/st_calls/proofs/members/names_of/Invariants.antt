use Rattle.std.proofs.Common.{◌≡◌, ◌++◌, drop, Ok}
use Rattle.st_calls.specs.inner.View.{items_view}
use Rattle.st_calls.specs.Gives.{◌>>=◌}
use Rattle.st_calls.specs.Members.{each}
use Rattle.st_calls.specs.Members.{name_item}
use Rattle.st_calls.proofs.members.names_of.Given as goal

-- what was read and what the rest gives are what all give
abbrev pub invariant-loop-value : goal.invariant-loop-value
invariant-loop-value l = (each (name_item l.member) (items_view (drop l.value-index l.values)) >>= λ xs. Ok (l.list ++ xs)) ≡ each (name_item l.member) (items_view l.values)
