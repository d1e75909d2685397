use Rattle.std.proofs.Common.{refl}
use Rattle.st_pool.proofs.Halting.{nothing_le}
use Rattle.st_pool.proofs.halted.Halted.found.Goals as goal

pub invariant_of-result : goal.invariant_of-result
invariant_of-result g c = nothing_le (g.R.Rack.faults c.args.rack)

pub returns-clause-halts : goal.returns-clause-halts
returns-clause-halts g c = λ pool idle serial on own quiet kept. record { idle = idle; serial = serial; on = on; own = own; is_as = quiet; kept = kept }

pub returns-clause-is : goal.returns-clause-is
returns-clause-is g c = refl
