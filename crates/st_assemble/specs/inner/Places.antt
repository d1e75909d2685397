-- Whether mappings have places that are allocated.
use Rattle.std.specs.Prelude.{ℕ, Bool, not, nat_lt, List, if◌then◌else◌}
use Rattle.std.specs.List.{list_all}
use Rattle.st_flexlog.specs.declared.state.Mapping.{Mapping}

-- each place is below so many blocks
abbrev pub have_places : ℕ → List Mapping → Bool
have_places allocated mappings = list_all (λ (m : Mapping). nat_lt m.place allocated) mappings

abbrev pub is_same : Bool → Bool → Bool
is_same a b = if a then b else not b
