use Rattle.std.proofs.Common.{◌≡◌, ℕ, ◌<◌, Some}
use Rattle.std.specs.List.{slice_get}
use Rattle.st_looks.specs.declared.look.DevLook.{DevLook}
use Rattle.st_judge.specs.Spelled.{HasSpelled}
use Rattle.st_judge.proofs.spelled.are_records.Given as goal

abbrev pub invariant-loop-i : goal.invariant-loop-i
invariant-loop-i l = record {
  before : (k : ℕ) (look : DevLook) → k < l.i → slice_get l.looks k ≡ Some look → HasSpelled l.serial look;
}
