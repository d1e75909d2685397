use Rattle.std.proofs.Common.{arith}
use Rattle.stratis_sim.proofs.run.Goals as goal

pub rack-requires : goal.rack-requires
rack-requires g c = omega arith

pub run_on-requires-clause-fit : goal.run_on-requires-clause-fit
run_on-requires-clause-fit g c κs within = c.in-Ok.ensures.fit

pub run_on-requires-clause-devices : goal.run_on-requires-clause-devices
run_on-requires-clause-devices g c κs within = c.in-Ok.ensures.devices

pub run_on-requires-clause-blank : goal.run_on-requires-clause-blank
run_on-requires-clause-blank g c κs within = c.in-Ok.ensures.blank

pub returns-in-Ok-clause-known : goal.returns-in-Ok-clause-known
returns-in-Ok-clause-known g c = c.run_on.ensures.known

pub returns-in-Ok-clause-calls : goal.returns-in-Ok-clause-calls
returns-in-Ok-clause-calls g c = c.run_on.ensures.calls

pub returns-in-Ok-clause-opened : goal.returns-in-Ok-clause-opened
returns-in-Ok-clause-opened g c = c.run_on.ensures.opened

pub returns-in-Ok-clause-own : goal.returns-in-Ok-clause-own
returns-in-Ok-clause-own g c = c.run_on.ensures.own
