use Rattle.std.proofs.Common.{◌≡◌, ◌++◌, drop}
use Rattle.st_model.specs.steps.PoolReports.{infos_seen, seen}
use Rattle.st_reports.proofs.reports.infos.Given as goal

abbrev pub invariant-loop-name : goal.invariant-loop-name
invariant-loop-name l = l.list ++ infos_seen (seen (drop l.name-index l.names) l.state) ≡ infos_seen (seen l.names l.state)
