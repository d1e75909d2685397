use Rattle.st_grants.proofs.Made.{by_rule_obeys, obeys_by_rule, obeys_apart}
use Rattle.st_grants.proofs.laws.machine_is_the_rule.Goals as goal

pub returns : goal.returns
returns c = record { by_rule = obeys_by_rule; obeys = by_rule_obeys; apart = obeys_apart }
