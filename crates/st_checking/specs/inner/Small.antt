-- a filesystem that growth stays in range with
use Rattle.std.specs.Prelude.{◌≤◌, ◌^◌, length}
use Rattle.std.specs.Option.{ForSome}
use Rattle.st_model.specs.declared.state.FsState.{FsState}

pub record IsSmallFs (fs : FsState) : Type 0 where
  pub size : fs.row.size ≤ 2 ^ 32
  pub limit : ForSome fs.row.limit (λ most. fs.row.size ≤ most)
  pub mapped : length fs.map ≤ 2 ^ 40
