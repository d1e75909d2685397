use Rattle.std.proofs.Common.{◌≡◌, ◌^◌, ◌≤◌, take}
use Rattle.st_looks.specs.Serials.{greatest_among}
use Rattle.st_looks.proofs.serials.next_serial.Given as goal

abbrev pub invariant-loop-i : goal.invariant-loop-i
invariant-loop-i l = record {
  greatest : l.greatest ≡ greatest_among (take l.i l.looks);
  small : l.greatest ≤ 2 ^ 48;
}
