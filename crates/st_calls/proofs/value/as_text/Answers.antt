use Rattle.std.proofs.Common.{sym, ◌∙◌}
use Rattle.st_calls.proofs.Seen.{text-view}
use Rattle.st_calls.proofs.value.as_text.Goals as goal

pub returns : goal.returns
returns c = c.as_str.ensures ∙ sym (text-view c.args.value.now)
