use Rattle.std.proofs.Common.{◌≡◌, take}
use Rattle.st_judge.specs.Placing.{lacking}
use Rattle.st_judge.proofs.placing.lacking.Given as goal

abbrev pub invariant-loop-i : goal.invariant-loop-i
invariant-loop-i l = record {
  devs : l.devs ≡ lacking l.serial l.rows l.newest (take l.i l.looks);
}
