use Rattle.std.proofs.Common.{rules, not}
use Rattle.std.proofs.lemmas.Fn.{filter_same}
use Rattle.st_book.specs.View.{is_lent_to}
use Rattle.st_book.proofs.lent.forget.Goals as goal

pub returns-clause-items : goal.returns-clause-items
returns-clause-items c = filter_same _ (λ x. not (is_lent_to c.args.ticket x)) _ (λ x b f' h. search rules) _ _ c.retain.ensures.filtered
