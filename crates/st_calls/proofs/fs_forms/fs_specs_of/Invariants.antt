use Rattle.std.proofs.Common.{◌≡◌, ◌++◌, drop, Ok}
use Rattle.st_calls.specs.inner.View.{items_view}
use Rattle.st_calls.specs.Gives.{◌>>=◌}
use Rattle.st_calls.specs.Members.{each}
use Rattle.st_calls.specs.FsForms.{fs_spec}
use Rattle.st_calls.proofs.fs_forms.fs_specs_of.Given as goal

-- what was read and what the rest gives are what all give
abbrev pub invariant-loop-value : goal.invariant-loop-value
invariant-loop-value l = (each fs_spec (items_view (drop l.value-index l.values)) >>= λ xs. Ok (l.list ++ xs)) ≡ each fs_spec (items_view l.values)
