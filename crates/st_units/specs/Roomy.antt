-- a list with room for more items
use Rattle.std.specs.Prelude.{ℕ, List}

pub record Roomy (A : Type 0) : Type 0 where
  pub items : List A
  pub room : ℕ
