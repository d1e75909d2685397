use Rattle.std.proofs.Common.{◌≡◌, ◌+◌, ◌≤◌, length, refl, sym, ◌∙◌, ap, subst, arith}
use Rattle.st_model.specs.declared.state.TableState.{TableState}
use Rattle.st_finishing.specs.Finishing.{with_next}
use Rattle.st_board.specs.View.{BoardView}
use Rattle.st_begin.specs.Begun.{IsBoardOf, IsRejoined}
use Rattle.st_begin.proofs.Beginning.{apart, board_of, few, holds, next_is, stands_lower}
use Rattle.st_begin.proofs.boarded.parted.Goals as goal

pub table_on-state-requires : goal.table_on-state-requires
table_on-state-requires g c =
    let R = g.R.Rack in let r = c.args.rack in let e = c.requires.rest.0 in let rest = c.requires.rest.1 in
    (with_next e rest.still.0, stands_lower (R.devs r) (R.state_at r (R.moment r)) c.args.found.now e rest)

pub divide-requires-clause-rows : goal.divide-requires-clause-rows
divide-requires-clause-rows g c =
    let R = g.R.Rack in let r = c.args.rack in
    apart (R.devs r) (R.state_at r (R.moment r)) c.args.found.now c.requires.rest.0 c.requires.rest.1

pub divide-requires-clause-room : goal.divide-requires-clause-room
divide-requires-clause-room g c =
    let R = g.R.Rack in let r = c.args.rack in
    let most = few (R.devs r) (R.state_at r (R.moment r)) c.args.found.now c.requires.rest.0 c.requires.rest.1 in
    let room = c.requires.room in
    omega (arith, most, room)

pub invariant_of-result : goal.invariant_of-result
invariant_of-result g c =
    let R = g.R.Rack in let r = c.args.rack in let s = R.state_at r (R.moment r) in let e = c.requires.rest.0 in let rest = c.requires.rest.1 in let found = c.args.found.now in
    holds R.devs R.moment R.state_at R.faults R.spare r c.divide.new.rack found e rest c.divide.new.parts c.divide.ensures.divides c.in-Ok.ensures.told c.args.made.table c.table_on-state.result.value (c.requires.table e rest)
    (next_is (R.devs r) s found e rest c.table_on-state.result.value (c.table_on-state.ensures (with_next e rest.still.0) (stands_lower (R.devs r) s found e rest)))
    (let room = c.requires.room in let left = c.divide.ensures.room in omega (arith, room, left))

pub returns-in-Ok-clause-ready : goal.returns-in-Ok-clause-ready
returns-in-Ok-clause-ready g c = λ v eq e rest.
    let R = g.R.Rack in let r = c.args.rack in let s = R.state_at r (R.moment r) in let found = c.args.found.now in
    let view : BoardView _ = record { state = c.table_on-state.result.value; spare = c.args.made.table.spare; free = c.divide.new.rack; halted = c.divide.new.parts.items; past = 0 } in
    let boards : view ≡ v = cc in
    subst (λ w. IsBoardOf R.devs R.moment R.state_at R.faults R.spare r e w) boards
    (board_of R.devs R.moment R.state_at R.faults R.spare r c.divide.new.rack found e rest c.divide.new.parts c.divide.ensures.divides c.in-Ok.ensures.told view
    (next_is (R.devs r) s found e rest c.table_on-state.result.value (c.table_on-state.ensures (with_next e rest.still.0) (stands_lower (R.devs r) s found e rest)))
    c.requires.spare refl refl refl)

pub join_back-requires : goal.join_back-requires
join_back-requires g c = (c.args.rack, c.divide.ensures.divides)

pub returns-in-Err-clause-refused : goal.returns-in-Err-clause-refused
returns-in-Err-clause-refused g c = λ v eq.
    let R = g.R.Rack in
    let same : c.join_back.new.rack ≡ v = cc in
    subst (λ x. IsRejoined R.devs R.moment R.state_at R.faults c.args.rack x) same (c.join_back.ensures.joined c.args.rack c.divide.ensures.divides)
