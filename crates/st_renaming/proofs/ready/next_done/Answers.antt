use Rattle.std.proofs.Common.{is_some, ap, ◌∙◌}
use Rattle.st_model.specs.declared.call.Call.{Call}
use Rattle.st_model.specs.declared.entry.Env.TheVariants.{Plain}
use Rattle.st_model.specs.Parts.{table_of}
use Rattle.st_model.specs.Step.{step}
use Rattle.st_renaming.proofs.Refused.{held_is, known_is}
use Rattle.st_renaming.proofs.Tabled.{tells_renamed}
use Rattle.st_renaming.proofs.ready.next_done.Goals as goal

pub renamed-requires-clause-known : goal.renamed-requires-clause-known
renamed-requires-clause-known c =
    let here = c.requires.here in
    known_is c.args.table.now c.args.before.now.value here.valid here.stands c.tells_of_each_pool.ensures.pools c.args.name.now ∙ ap is_some here.here

pub renamed-requires-clause-free : goal.renamed-requires-clause-free
renamed-requires-clause-free c =
    let here = c.requires.here in
    held_is c.args.table.now c.args.before.now.value here.valid here.stands c.tells_as_the_model.ensures c.args.new.now ∙ ap is_some c.requires.free

pub returns-in-Ok : goal.returns-in-Ok
returns-in-Ok c =
    let here = c.requires.here in let s = c.args.before.now.value in
    tells_renamed c.args.table.now s here.valid here.stands c.tells_of_each_pool.ensures.pools c.changes_as_the_model.ensures.put c.args.name.now c.keeps_as_the_model.ensures.kept c.args.new.now here.pool here.here c.in-Ok.table c.state_done-state.result.value Plain
    (c.state_done-state.ensures ∙ ap (λ (call : Call). table_of (step s call Plain).1) c.asked.ensures) c.in-Ok.ensures
