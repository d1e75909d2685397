use Rattle.std.proofs.Common.{◌≡◌, drop}
use Rattle.st_model.specs.Answer.{first_answer}
use Rattle.st_model.specs.steps.PoolReports.{refusals, seen}
use Rattle.st_reports.proofs.reports.refusal.Given as goal

abbrev pub invariant-loop-name : goal.invariant-loop-name
invariant-loop-name l = first_answer (refusals (seen (drop l.name-index l.names) l.state)) ≡ first_answer (refusals (seen l.names l.state))
