use Rattle.st_laws.proofs.Engine.{snapshots-keep-others}
use Rattle.st_laws.proofs.snapshots_keep_others.Goals as goal

pub returns : goal.returns
returns c = snapshots-keep-others
