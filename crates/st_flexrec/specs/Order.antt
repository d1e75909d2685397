-- Rows that rise strictly.
use Rattle.std.specs.Prelude.{◌≡◌, Bool, true, List}
use Rattle.std.specs.List.{AllPairs}

-- each row comes before all later ones
abbrev pub Rises : {A : Type 0} → (A → A → Bool) → List A → Type 0
Rises comes_before rows = AllPairs (λ r later. comes_before r later ≡ true) rows
