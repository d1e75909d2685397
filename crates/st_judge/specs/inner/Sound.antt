-- The newest record of a pool whose candidates are sound.
use Rattle.std.specs.Prelude.{◌≡◌, ℕ, true, List, Some}
use Rattle.st_poolrec.specs.declared.record.PoolRec.{PoolRec}
use Rattle.st_image.specs.Bears.{SpellsPool}
use Rattle.st_looks.specs.declared.look.DevLook.{DevLook}
use Rattle.st_judge.specs.Candidates.{newest_among, are_one}
use Rattle.st_judge.specs.Spelled.{AreSpelled}

-- these looks have this newest candidate, which spells this record
pub record IsSound (p : ℕ) (looks : List DevLook) (x : ℕ × List ℕ) (rec : PoolRec) : Type 0 where
  pub newest : newest_among p looks ≡ Some x
  pub one : are_one p looks ≡ true
  pub each : AreSpelled p looks
  pub spelled : SpellsPool x.1 rec
