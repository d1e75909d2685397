use Rattle.std.proofs.Common.{sym, ◌∙◌}
use Rattle.st_calls.proofs.Seen.{null-view}
use Rattle.st_calls.proofs.value.is_null.Goals as goal

pub returns : goal.returns
returns c = c.is_null.ensures ∙ sym (null-view c.args.value.now)
