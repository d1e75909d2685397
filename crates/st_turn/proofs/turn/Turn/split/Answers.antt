use Rattle.std.proofs.Common.{arith, ap, sym, ◌∙◌}
use Rattle.std.specs.Prelude.{Option}
use Rattle.atomic_table.specs.Table.{Me}
use Rattle.st_turn.specs.declared.knowledge.Knowledge.{Knowledge}
use Rattle.st_turn.specs.Views.{SeatView}
use Rattle.st_turn.proofs.Splits.{split_keeps}
use Rattle.st_turn.proofs.SeatViews.{opened_some, out_of}
use Rattle.st_turn.proofs.turn.Turn.split.Goals as goal

pub split_seat-requires : goal.split_seat-requires
split_seat-requires g c =
    let b = g.B.Logged in
    let w = c.self.invariant.0 in
    let s = c.seat.inside in
    let i = c.seat.invariant in
    let v = ap (λ (m : Me (Option g.row.B.Denot) (Knowledge g.row.B-Event.Denot g.row.B-Opening.Denot)). m.0) c.in-Some.ensures.drew.view in
    let o = opened_some s.seat.me.0.opening i.seated.opened in
    let out = out_of s.seat.table_id s.number s.last s.seat.me c.args.seat.now i.holds c.seat.view_is c.requires.out in (
      c.draw_next.ensures.here ∙ (ap (λ (z : SeatView g.row.B-Event.Denot g.row.B-Opening.Denot). z.turn) c.seat.view_is ∙ (c.requires.here ∙ sym c.self.view_is)),
      omega (arith, w),
      split_keeps b.by b.events b.opens b.fits c.draw_next.new.seat.id c.draw_next.new.seat.me.0 c.in-Some.number o.0
          (ap (λ (z : Knowledge g.row.B-Event.Denot g.row.B-Opening.Denot). z.place) v ∙ out.0)
          (ap (λ (z : Knowledge g.row.B-Event.Denot g.row.B-Opening.Denot). z.holding.drawn) v)
          (ap (λ (z : Knowledge g.row.B-Event.Denot g.row.B-Opening.Denot). z.opening) v ∙ o.1),
    )
