use Rattle.std.proofs.Common.{rules}
use Rattle.json.specs.declared.value.Value.{the_lemmas}
use Rattle.st_calls.proofs.Seen.{object-view}
use Rattle.st_calls.proofs.value.is_object.Goals as goal

pub returns-in-Object : goal.returns-in-Object
returns-in-Object c = rw (object-view c.args.value.now) (search (rules, the_lemmas))

pub returns-in_default : goal.returns-in_default
returns-in_default c = rw (object-view c.args.value.now) (search (rules, the_lemmas))
