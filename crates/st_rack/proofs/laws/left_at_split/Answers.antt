use Rattle.st_rack.specs.Tagged.{tagged}
use Rattle.st_rack.proofs.Apart.{whole_to_rest, whole_to_part, parts_to_whole}
use Rattle.st_rack.proofs.laws.left_at_split.Goals as goal

pub returns-clause-rest : goal.returns-clause-rest
returns-clause-rest g c = λ tag image split whole. whole_to_rest g.R.Rack.devs g.R.Rack.moment g.R.Rack.state_at (tagged tag) c.args.list.now c.args.old.now c.args.rest.now c.args.part.now split image whole

pub returns-clause-part : goal.returns-clause-part
returns-clause-part g c = λ tag image split whole. whole_to_part g.R.Rack.devs g.R.Rack.moment g.R.Rack.state_at (tagged tag) c.args.list.now c.args.old.now c.args.rest.now c.args.part.now split image whole

pub returns-clause-whole : goal.returns-clause-whole
returns-clause-whole g c = λ tag image split rest part. parts_to_whole g.R.Rack.devs g.R.Rack.moment g.R.Rack.state_at (tagged tag) c.args.list.now c.args.old.now c.args.rest.now c.args.part.now split image rest part
