use Rattle.st_calls.proofs.Given.{read-IsCall}
use Rattle.st_calls.proofs.read.read_call_with.Goals as goal

pub returns-clause-call : goal.returns-clause-call
returns-clause-call c = read-IsCall c.args.lanes c.args.line.now _ c.read_form.ensures
