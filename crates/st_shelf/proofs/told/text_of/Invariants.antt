use Rattle.std.proofs.Common.{◌≡◌, ◌≤◌, length, drop}
use Rattle.st_shelf.specs.Told.{letters}
use Rattle.st_shelf.proofs.told.text_of.Given as goal

abbrev pub invariant-loop-i : goal.invariant-loop-i
invariant-loop-i l = record { text : letters l.text.value ≡ drop l.i l.bytes; within : l.i ≤ length l.bytes }

abbrev pub decreases-loop-i : goal.decreases-loop-i
decreases-loop-i l = l.i
