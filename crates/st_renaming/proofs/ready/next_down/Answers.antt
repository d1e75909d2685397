use Rattle.std.proofs.Common.{is_some, ap, ◌∙◌}
use Rattle.st_model.specs.declared.call.Call.{Call}
use Rattle.st_model.specs.declared.entry.Env.TheVariants.{FaultWrite}
use Rattle.st_model.specs.Parts.{table_of}
use Rattle.st_model.specs.Step.{step}
use Rattle.st_renaming.proofs.Refused.{held_is, runs_is}
use Rattle.st_renaming.proofs.Tabled.{tells_down}
use Rattle.st_renaming.proofs.ready.next_down.Goals as goal

pub holding-requires-clause-started : goal.holding-requires-clause-started
holding-requires-clause-started c =
    let here = c.requires.here in
    runs_is c.args.table.now c.args.before.now.value here.valid here.stands c.tells_of_each_pool.ensures.pools c.args.name.now here.pool here.here here.started

pub holding-requires-clause-free : goal.holding-requires-clause-free
holding-requires-clause-free c =
    let here = c.requires.here in
    held_is c.args.table.now c.args.before.now.value here.valid here.stands c.tells_as_the_model.ensures c.args.new.now ∙ ap is_some c.requires.free

pub returns-in-Ok : goal.returns-in-Ok
returns-in-Ok c =
    let here = c.requires.here in let s = c.args.before.now.value in
    tells_down c.args.table.now s here.valid here.stands c.tells_of_each_pool.ensures.pools c.changes_as_the_model.ensures.put c.args.name.now c.keeps_as_the_model.ensures.kept c.args.new.now here.pool here.here c.in-Ok.table c.state_down-state.result.value FaultWrite
    (c.state_down-state.ensures ∙ ap (λ (call : Call). table_of (step s call FaultWrite).1) c.asked.ensures) c.in-Ok.ensures
