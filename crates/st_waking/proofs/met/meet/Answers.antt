use Rattle.std.proofs.Common.{subst}
use Rattle.st_meant.specs.Meant.{IsMeant}
use Rattle.st_waking.proofs.Meeting.{met_lacking, met_started, met_unknown}
use Rattle.st_waking.proofs.met.meet.Goals as goal

pub returns-in-Unknown : goal.returns-in-Unknown
returns-in-Unknown g c =
    let s = c.args.before.now.value in let id = c.args.id.now in
    met_unknown s id c.refused.result (subst (IsMeant s id) c.in-Unknown.is (c.in_ok-pool_meant.ensures s c.requires.valid c.requires.table)) c.refused.ensures

pub returns-in_ok-started-in-Started : goal.returns-in_ok-started-in-Started
returns-in_ok-started-in-Started g c =
    let s = c.args.before.now.value in let id = c.args.id.now in
    met_started s id c.in_ok-started-in-Started.field-0 c.in-Started.name c.requires.valid (subst (IsMeant s id) c.in-Started.is (c.in_ok-pool_meant.ensures s c.requires.valid c.requires.table)) c.in_ok-started-in-Started.ensures

pub returns-in_ok-twin-in-Lacking : goal.returns-in_ok-twin-in-Lacking
returns-in_ok-twin-in-Lacking g c =
    let s = c.args.before.now.value in let id = c.args.id.now in
    met_lacking s id c.refused-in-Lacking.result c.in-Lacking.path (subst (IsMeant s id) c.in-Lacking.is (c.in_ok-pool_meant.ensures s c.requires.valid c.requires.table)) c.refused-in-Lacking.ensures
