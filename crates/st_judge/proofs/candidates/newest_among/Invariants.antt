use Rattle.std.proofs.Common.{◌≡◌, take}
use Rattle.std.specs.Option.{option_copied}
use Rattle.st_judge.specs.Candidates.{newest_among}
use Rattle.st_judge.proofs.candidates.newest_among.Given as goal

abbrev pub invariant-loop-i : goal.invariant-loop-i
invariant-loop-i l = record {
  newest : option_copied l.newest ≡ newest_among l.serial (take l.i l.looks);
}
