use Rattle.st_cachemap.specs.Sound.{IsUnused}
use Rattle.st_cachemap.proofs.slots.all_free.Given as goal

abbrev pub invariant-loop-place : goal.invariant-loop-place
invariant-loop-place l = IsUnused l.order l.capacity l.place
