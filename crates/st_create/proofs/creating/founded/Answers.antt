use Rattle.std.proofs.Common.{refl}
use Rattle.st_create.proofs.Founded.{broken_both, has_room, left_both, may_found, ready_both, tells_new}
use Rattle.st_create.proofs.creating.founded.Goals as goal

pub found-requires-clause-table : goal.found-requires-clause-table
found-requires-clause-table g c =
    let plan = c.requires.plan in let all = c.requires.all in
    tells_new c.args.before.now.value plan.0 plan.1 c.args.plan plan.2 c.args.board.state all.table all.valid c.the_table.ensures.added

pub put-requires : goal.put-requires
put-requires g c =
    let R = g.R.Rack in let plan = c.requires.plan in
    has_room R.devs R.moment R.state_at R.faults c.the_started_pools.ensures.no_more c.args.before.now.value plan.0 plan.1 c.args.cells.now c.args.board c.requires.all plan.2.unanswered c.requires.places

pub put-requires-in-Broken : goal.put-requires-in-Broken
put-requires-in-Broken g c =
    let R = g.R.Rack in let plan = c.requires.plan in
    has_room R.devs R.moment R.state_at R.faults c.the_started_pools.ensures.no_more c.args.before.now.value plan.0 plan.1 c.args.cells.now c.args.board c.requires.all plan.2.unanswered c.requires.places

pub returns-in-Ready-clause-ran : goal.returns-in-Ready-clause-ran
returns-in-Ready-clause-ran g c =
    let R = g.R.Rack in let law = c.the_started_pools.ensures in let s = c.args.before.now.value in
    λ name paths plan.
    let f = c.in-Ready.ensures.ready c.in-Ready.board c.in-Ready.pool refl s paths (may_found s name paths c.args.plan plan c.args.board.state c.requires.all.table c.requires.all.valid) in
    (ready_both R.devs R.moment R.state_at R.faults law.added law.each s name paths c.args.plan plan c.args.cells.now.items c.args.board c.requires.all c.in-Ready.pool c.in-Ready.board f c.plainly.result c.plainly.ensures c.put.new.self.items c.put.ensures.items).0

pub returns-in-Ready-clause-made : goal.returns-in-Ready-clause-made
returns-in-Ready-clause-made g c =
    let R = g.R.Rack in let law = c.the_started_pools.ensures in let s = c.args.before.now.value in
    λ name paths plan.
    let f = c.in-Ready.ensures.ready c.in-Ready.board c.in-Ready.pool refl s paths (may_found s name paths c.args.plan plan c.args.board.state c.requires.all.table c.requires.all.valid) in
    (ready_both R.devs R.moment R.state_at R.faults law.added law.each s name paths c.args.plan plan c.args.cells.now.items c.args.board c.requires.all c.in-Ready.pool c.in-Ready.board f c.plainly.result c.plainly.ensures c.put.new.self.items c.put.ensures.items).1

pub returns-in-Broken-clause-ran : goal.returns-in-Broken-clause-ran
returns-in-Broken-clause-ran g c =
    let R = g.R.Rack in let law = c.the_started_pools.ensures in let s = c.args.before.now.value in
    λ name paths plan.
    let f = c.in-Broken.ensures.broken c.in-Broken.board c.in-Broken.pool refl s paths (may_found s name paths c.args.plan plan c.args.board.state c.requires.all.table c.requires.all.valid) in
    (broken_both R.devs R.moment R.state_at R.faults law.added law.each s name paths c.args.plan plan c.args.cells.now.items c.args.board c.requires.all c.in-Broken.pool c.in-Broken.board f c.device_fault.result c.device_fault.ensures c.put-in-Broken.new.self.items c.put-in-Broken.ensures.items).0

pub returns-in-Broken-clause-made : goal.returns-in-Broken-clause-made
returns-in-Broken-clause-made g c =
    let R = g.R.Rack in let law = c.the_started_pools.ensures in let s = c.args.before.now.value in
    λ name paths plan.
    let f = c.in-Broken.ensures.broken c.in-Broken.board c.in-Broken.pool refl s paths (may_found s name paths c.args.plan plan c.args.board.state c.requires.all.table c.requires.all.valid) in
    (broken_both R.devs R.moment R.state_at R.faults law.added law.each s name paths c.args.plan plan c.args.cells.now.items c.args.board c.requires.all c.in-Broken.pool c.in-Broken.board f c.device_fault.result c.device_fault.ensures c.put-in-Broken.new.self.items c.put-in-Broken.ensures.items).1

pub returns-in-NoMemory-clause-ran : goal.returns-in-NoMemory-clause-ran
returns-in-NoMemory-clause-ran g c =
    let R = g.R.Rack in let law = c.the_started_pools.ensures in let s = c.args.before.now.value in
    λ name paths plan.
    (left_both R.devs R.moment R.state_at R.faults law.added law.each s name paths c.args.plan plan c.args.cells.now.items c.args.board c.requires.all c.in-NoMemory.board (c.in-NoMemory.ensures.refused c.in-NoMemory.board refl) c.no_memory.result c.no_memory.ensures c.args.cells.now.items refl).0
