use Rattle.st_rack.specs.Tagged.{tagged}
use Rattle.st_rack.proofs.Apart.{joined_to_own, joined_to_other, both_to_joined}
use Rattle.st_rack.proofs.laws.left_at_join.Goals as goal

pub returns-clause-own : goal.returns-clause-own
returns-clause-own g c = λ tag image apart join whole. joined_to_own g.R.Rack.devs g.R.Rack.moment g.R.Rack.state_at (tagged tag) c.args.old.now c.args.other.now c.args.new.now apart join image whole

pub returns-clause-other : goal.returns-clause-other
returns-clause-other g c = λ tag image join whole. joined_to_other g.R.Rack.devs g.R.Rack.moment g.R.Rack.state_at (tagged tag) c.args.old.now c.args.other.now c.args.new.now join image whole

pub returns-clause-whole : goal.returns-clause-whole
returns-clause-whole g c = λ tag image join own other. both_to_joined g.R.Rack.devs g.R.Rack.moment g.R.Rack.state_at (tagged tag) c.args.old.now c.args.other.now c.args.new.now join image own other
