use Rattle.st_wants.specs.Lock.{start}
use Rattle.st_grants.proofs.Made.{made_obeys, obeys_by_rule, obeys_apart}
use Rattle.st_grants.proofs.laws.calls_obey_the_rule.Goals as goal

pub returns : goal.returns
returns c = record {
  obeys = λ calls h. made_obeys start calls h;
  by_rule = λ calls h. obeys_by_rule _ (made_obeys start calls h);
  apart = λ calls h. obeys_apart _ (made_obeys start calls h);
}
