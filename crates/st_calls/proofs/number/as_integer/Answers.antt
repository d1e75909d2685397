use Rattle.std.proofs.Common.{sym, ◌∙◌}
use Rattle.st_calls.proofs.Integers.{num-some, num-none}
use Rattle.st_calls.proofs.number.as_integer.Goals as goal

pub returns-in-Some : goal.returns-in-Some
returns-in-Some c = num-some c.args.text.now c.in-Some.number (sym c.in-Some.is ∙ c.read_number.ensures)

pub returns-in-None : goal.returns-in-None
returns-in-None c = num-none c.args.text.now (sym c.in-None.is ∙ c.read_number.ensures)
