use Rattle.std.proofs.Common.{rules, not}
use Rattle.std.proofs.lemmas.Fn.{filter_same}
use Rattle.st_wants.specs.Lock.{has_ticket}
use Rattle.st_grants.proofs.rows.remove_row.Goals as goal

pub returns : goal.returns
returns c = filter_same _ (λ r. not (has_ticket c.args.ticket r)) _ (λ x b f' h. search rules) _ _ c.retain.ensures.filtered
