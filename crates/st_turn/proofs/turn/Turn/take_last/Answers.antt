use Rattle.std.proofs.Common.{arith, ap, ◌≡◌, length}
use Rattle.std.specs.Prelude.{Option}
use Rattle.atomic_table.specs.Table.{Me}
use Rattle.st_turn.specs.declared.knowledge.Knowledge.{Knowledge}
use Rattle.st_turn.specs.Parts.{held}
use Rattle.st_turn.proofs.SeatViews.{count_is, seat_among}
use Rattle.st_turn.proofs.turn.Turn.take_last.Goals as goal

pub returns-clause-mine : goal.returns-clause-mine
returns-clause-mine g c =
    let b = g.B.Logged in
    let s = c.seat.inside in
    let seated = c.seat.invariant.seated in
    let few = count_is s.seat.me.0 s.number s.claimed seated in
    let enough = c.count.ensures.enough in
    let all : length (held s.seat.me.0.holding) ≡ c.count.result = omega (arith, few, enough, c.if-others-gt0.false) in
    let alone = c.count.ensures.alone all in
    let same = ap (λ (m : Me (Option g.row.B.Denot) (Knowledge g.row.B-Event.Denot g.row.B-Opening.Denot)). held m.0.holding) alone.0 in
    seat_among b.by s.seat.table_id s.number s.claimed s.seat.me.0 c.count.new.seat.me.0 c.args.seat.now (b.events c.in-Some.book) seated c.seat.view_is same c.in-Some.ensures.mine
