use Rattle.std.proofs.Common.{◌∙◌}
use Rattle.st_reports.proofs.Started.{find_started}
use Rattle.st_reports.proofs.pools.started.Goals as goal

pub returns : goal.returns
returns c = c.find_started.ensures ∙ find_started c.args.name.now c.args.pools.now
