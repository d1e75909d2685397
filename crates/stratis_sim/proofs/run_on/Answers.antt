use Rattle.std.proofs.Common.{arith}
use Rattle.st_blank.specs.Blank.{unused}
use Rattle.sim_devices.specs.Devices.{the_devices}
use Rattle.stratis_sim.proofs.Beginning.{begins, not_foreign}
use Rattle.stratis_sim.proofs.run_on.Goals as goal

pub returns-clause-known : goal.returns-clause-known
returns-clause-known g c = c.run_words.ensures.history (unused the_devices) (begins _ _ _ _ c.args.rack c.requires.blank c.requires.devices)

pub returns-clause-calls : goal.returns-clause-calls
returns-clause-calls g c = omega (arith, c.run_words.ensures.counts (omega arith))

pub returns-clause-opened : goal.returns-clause-opened
returns-clause-opened g c = λ is. (let rose = c.run_words.ensures.open_fault is in absurd (omega (arith, rose)))

pub returns-clause-own : goal.returns-clause-own
returns-clause-own g c = λ n is. not_foreign _ _ _ _ c.args.rack c.requires.blank n (c.run_words.ensures.foreign n is)
