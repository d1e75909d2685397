use Rattle.std.proofs.Common.{ap, refl, subst}
use Rattle.st_model.specs.declared.call.Call.TheVariants.{StartPool}
use Rattle.st_pool.specs.declared.reply.PoolReply.{PoolReply}
use Rattle.st_pool.specs.Answered.{is_device_fault}
use Rattle.st_waking.specs.Did.{Untouched}
use Rattle.st_waking.specs.Met.{HasMet}
use Rattle.st_waking.proofs.Plainly.{met_so, want_so}
use Rattle.st_waking.proofs.starting.start.Goals as goal

pub returns-in-Ok-Answered-clause-ran : goal.returns-in-Ok-Answered-clause-ran
returns-in-Ok-Answered-clause-ran g c =
    let R = g.R.Rack in let s = c.args.before.now.value in let id = c.args.id.now in
    c.none_has_run.ensures s (StartPool id) c.in-Ok-Answered.answer c.args.cells.now.items c.args.board
    (met_so R.devs R.moment R.state_at R.faults s id c.args.cells.now.items c.args.board c.requires.all c.in-Ok-Answered.answer (subst (HasMet s id) c.in-Ok-Answered.field-0-is c.in-Ok-Answered.ensures))

pub returns-in-Err-clause-ran : goal.returns-in-Err-clause-ran
returns-in-Err-clause-ran g c =
    let R = g.R.Rack in let s = c.args.before.now.value in let id = c.args.id.now in
    c.none_has_run.ensures s (StartPool id) c.no_memory.result c.args.cells.now.items c.args.board
    (want_so R.devs R.moment R.state_at R.faults s id c.args.cells.now.items c.args.board c.requires.all c.no_memory.result c.no_memory.ensures)

pub returns-in-Ok-Answered-clause-did : goal.returns-in-Ok-Answered-clause-did
returns-in-Ok-Answered-clause-did g c =
    let one = subst (HasMet c.args.before.now.value c.args.id.now) c.in-Ok-Answered.field-0-is c.in-Ok-Answered.ensures in
    Untouched (ap (λ (a : PoolReply). is_device_fault a.env) one.1) refl refl

pub returns-in-Err-clause-did : goal.returns-in-Err-clause-did
returns-in-Err-clause-did g c = Untouched (ap (λ (a : PoolReply). is_device_fault a.env) c.no_memory.ensures) refl refl
