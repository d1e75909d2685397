use Rattle.std.proofs.Common.{◌≡◌, ◌+◌, ◌≤◌, length, take}
use Rattle.st_running.proofs.report.copies.Given as goal

abbrev pub invariant-loop-info : goal.invariant-loop-info
invariant-loop-info l = (l.list.items ≡ take l.info-index l.infos) × (length l.infos ≤ l.info-index + l.list.room)
