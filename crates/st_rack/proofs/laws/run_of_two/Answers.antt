use Rattle.std.proofs.Common.{refl}
use Rattle.st_rack.specs.Moments.{OnDevice}
use Rattle.st_rack.specs.Steps.{Changed}
use Rattle.st_rack.proofs.Moments.{goes_on, at_end, on_device_both}
use Rattle.st_rack.proofs.Outside.{changed_self, changed_both}
use Rattle.st_rack.proofs.laws.run_of_two.Goals as goal

pub returns : goal.returns
returns g c = λ at n one two.
    let M = g.R.Rack.moment in
    let S = g.R.Rack.state_at in
    let old = c.args.old.now in
    let middle = c.args.middle.now in
    let dev = c.args.dev.now in
    let step = OnDevice dev (Changed at n) in
    let here = at_end M S step old middle (record { here = changed_self at n (S old (M old) dev); others = λ p ne. refl }) one in
    goes_on M S step step step old middle c.args.new.now (λ b h. h) (λ b h. on_device_both dev (Changed at n) (Changed at n) (Changed at n) (changed_both at n) (S old (M old)) (S middle (M middle)) b here h) one two
