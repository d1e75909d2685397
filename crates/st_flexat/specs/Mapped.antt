-- What holds of the mappings that a log says.
use Rattle.std.specs.Prelude.{◌≡◌, ℕ, ◌^◌, ◌<◌, ◌≤◌, true, nat_eq, List, length}
use Rattle.std.specs.List.{All, AllPairs}
use Rattle.st_limits.specs.declared.TheConstants.{MAX_MAPPINGS}
use Rattle.st_flexlog.specs.declared.state.Mapping.{Mapping}
use Rattle.st_flexlog.specs.Applied.{stands_before}

-- two mappings have one cell just where they have one place
abbrev pub AgreesWith : Mapping → Mapping → Type 0
AgreesWith a b = nat_eq a.cell b.cell ≡ nat_eq a.place b.place

-- They are no more than may be and stand in order, and their cells, each with a place of its own, are below the next one.
pub record AreMapped (next : ℕ) (mappings : List Mapping) : Type 0 where
  pub few : length mappings ≤ MAX_MAPPINGS
  pub rise : AllPairs (λ m later. stands_before m later ≡ true) mappings
  pub blocks : All (λ m. m.block < 2 ^ 32) mappings
  pub cells : All (λ m. m.cell < next) mappings
  pub paired : All (λ a. All (AgreesWith a) mappings) mappings
