use Rattle.std.proofs.Common.{refl}
use Rattle.st_rack.specs.Moments.{OnDevice}
use Rattle.st_rack.specs.Steps.{Changed}
use Rattle.st_rack.proofs.Moments.{left_in}
use Rattle.st_rack.proofs.Outside.{changed_self, crash_outside}
use Rattle.st_rack.proofs.laws.outside_a_run.Goals as goal

pub returns : goal.returns
returns g c = λ at n goes image left.
    let M = g.R.Rack.moment in
    let S = g.R.Rack.state_at in
    let old = c.args.old.now in
    let dev = c.args.dev.now in
    let some = left_in M S (OnDevice dev (Changed at n)) old c.args.new.now image goes (record { here = changed_self at n (S old (M old) dev); others = λ p ne. refl }) left in
    crash_outside dev at n (S old (M old)) some.0 image some.1 some.2
