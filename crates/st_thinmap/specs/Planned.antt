-- what a plan stands for
use Rattle.std.specs.Prelude.{ℕ, List}
use Rattle.st_thinmap.specs.declared.plan.Fresh.{Fresh}

-- the filesystem that is written, and the fresh cells of the write
pub record Planned : Type 0 where
  pub fs : ℕ
  pub fresh : List Fresh
