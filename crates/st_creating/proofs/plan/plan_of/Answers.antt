use Rattle.std.proofs.Common.{◌≡◌, ℕ, ◌≤◌, false, arith, refl, sym, ap, subst, ◌∙◌}
use Rattle.std.specs.List.{AllByRecursion}
use Rattle.st_model.proofs.Fresh.{create_fresh}
use Rattle.st_model.specs.Look.{distinct}
use Rattle.st_table.specs.Table.{IsFree, has_serial}
use Rattle.st_creating.proofs.Planned.{devices_free, is_plan, name_free, serial_free}
use Rattle.st_creating.proofs.plan.plan_of.Goals as goal

pub of-serial-requires-clause-last : goal.of-serial-requires-clause-last
of-serial-requires-clause-last c =
    let s = c.args.before.now.value in
    let fresh = create_fresh s c.args.name.now c.args.devices.now c.requires.unanswered in
    let room = fresh.room in let next = c.requires.tells.next in let value = c.next_serial.ensures.value in
    omega (arith, room, next, value)

pub table_with-requires-clause-name : goal.table_with-requires-clause-name
table_with-requires-clause-name c =
    name_free c.answers_as_the_model.ensures c.tells_as_the_model.ensures c.args.table.now c.args.before.now.value c.args.name.now c.args.devices.now c.requires.valid c.requires.tells c.requires.unanswered

pub table_with-requires-clause-serial : goal.table_with-requires-clause-serial
table_with-requires-clause-serial c =
    let v = c.args.table.now in
    let free = serial_free c.answers_as_the_model.ensures c.tells_as_the_model.ensures v c.args.before.now.value c.args.name.now c.args.devices.now c.requires.valid c.requires.tells c.requires.unanswered in
    subst (λ (n : ℕ). has_serial n v.pools ≡ false) (sym (c.of-serial.ensures ∙ c.next_serial.ensures.value)) free

pub table_with-requires-clause-free : goal.table_with-requires-clause-free
table_with-requires-clause-free c =
    let v = c.args.table.now in
    let free = devices_free c.answers_as_the_model.ensures c.tells_as_the_model.ensures v c.args.before.now.value c.args.name.now c.args.devices.now c.requires.valid c.requires.tells c.requires.unanswered in
    subst (AllByRecursion (IsFree v.pools v.devices)) (sym (c.in_ok-devs.ensures ∙ ap distinct c.items.ensures)) free

pub returns : goal.returns
returns c =
    is_plan c.changes_as_the_model.ensures.added c.keeps_as_the_model.ensures.kept c.args.table.now c.args.before.now.value c.args.name.now c.args.devices.now c.requires.valid c.requires.tells c.requires.unanswered _
    c.in_ok-name.ensures (c.of-serial.ensures ∙ c.next_serial.ensures.value) (c.in_ok-devs.ensures ∙ ap distinct c.items.ensures) c.in_ok-table.ensures c.in_ok-reply.ensures c.in_ok-twin.ensures
