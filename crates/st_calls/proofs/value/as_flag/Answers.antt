use Rattle.std.proofs.Common.{sym, ◌∙◌}
use Rattle.st_calls.proofs.Seen.{flag-view}
use Rattle.st_calls.proofs.value.as_flag.Goals as goal

pub returns : goal.returns
returns c = c.as_bool.ensures ∙ sym (flag-view c.args.value.now)
