use Rattle.std.proofs.Common.{eqb, not, rules}
use Rattle.std.proofs.lemmas.Fn.{filter_same}
use Rattle.st_thinmap.specs.declared.mapping.Mapping.{Mapping}
use Rattle.st_thinmap.proofs.rows.remove_rows.Goals as goal

pub returns : goal.returns
returns c = filter_same _ (λ (m : Mapping). not (eqb m.fs c.args.fs)) _ (λ x b f' h. search rules) _ _ c.retain.ensures.filtered
