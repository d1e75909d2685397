use Rattle.std.proofs.Common.{subst}
use Rattle.st_creating.specs.Plan.{IsReady}
use Rattle.st_create.proofs.Founded.{told_so, unmade}
use Rattle.st_create.proofs.creating.create.Goals as goal

pub returns-in-Err-clause-ran : goal.returns-in-Err-clause-ran
returns-in-Err-clause-ran g c =
    let R = g.R.Rack in
    unmade R.devs R.moment R.state_at R.faults c.none_has_run.ensures c.args.before.now.value c.args.name.now c.args.devices.now c.args.cells.now.items c.args.board c.requires.all c.no_memory.result c.no_memory.ensures

pub returns-in-Ok-Answered-clause-ran : goal.returns-in-Ok-Answered-clause-ran
returns-in-Ok-Answered-clause-ran g c =
    let R = g.R.Rack in
    told_so R.devs R.moment R.state_at R.faults c.none_has_run.ensures c.args.before.now.value c.args.name.now c.args.devices.now c.in-Ok-Answered.reply c.args.cells.now.items c.args.board c.requires.all (subst (IsReady c.args.before.now.value c.args.name.now c.args.devices.now) c.in-Ok-Answered.field-0-is c.in-Ok-Answered.ensures).0
    c.plainly.result c.plainly.ensures

pub returns-in-Ok-Planned-clause-ran : goal.returns-in-Ok-Planned-clause-ran
returns-in-Ok-Planned-clause-ran g c = c.founded.ensures.ran c.args.name.now c.args.devices.now (subst (IsReady c.args.before.now.value c.args.name.now c.args.devices.now) c.in-Ok-Planned.field-0-is c.in-Ok-Planned.ensures)

pub returns-in-Ok-Planned-clause-made : goal.returns-in-Ok-Planned-clause-made
returns-in-Ok-Planned-clause-made g c = c.founded.ensures.made c.args.name.now c.args.devices.now (subst (IsReady c.args.before.now.value c.args.name.now c.args.devices.now) c.in-Ok-Planned.field-0-is c.in-Ok-Planned.ensures)
