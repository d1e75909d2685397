use Rattle.std.proofs.Common.{arith, ap, ◌∙◌}
use Rattle.std.specs.Prelude.{Option}
use Rattle.atomic_table.specs.Table.{Me}
use Rattle.st_turn.specs.declared.knowledge.Knowledge.{Knowledge}
use Rattle.st_turn.proofs.Joins.{join_keeps, tell_allows}
use Rattle.st_turn.proofs.SeatViews.{opened_some}
use Rattle.st_turn.proofs.steps.unite.Goals as goal

pub join_seat-requires : goal.join_seat-requires
join_seat-requires g c =
    let b = g.B.Logged in
    let w = c.requires.words in
    let o = opened_some c.args.seat.now.me.0.opening c.requires.opened in (
      c.requires.here.0,
      c.requires.here.1,
      c.requires.hands,
      omega (arith, w),
      join_keeps b.by b.events b.opens b.fits c.args.seat.now.id c.args.seat.now.me.0 c.args.other.id c.args.other.me.0 o.0 c.requires.out.0 c.requires.out.1 o.1,
    )

pub load-dealt-requires : goal.load-dealt-requires
load-dealt-requires g c =
    let b = g.B.Logged in
    let w = c.requires.words in
    let e = c.join_seat.ensures.2 in (
      c.join_seat.ensures.0 ∙ c.requires.here.0,
      omega (arith, w),
      tell_allows b.by b.events b.opens b.fits c.args.table.now.table_id.slots c.join_seat.new.seat.id c.join_seat.new.seat.me
          (ap (λ (m : Me (Option g.row.B.Denot) (Knowledge g.row.B-Event.Denot g.row.B-Opening.Denot)). m.0.place) e ∙ c.requires.out.0),
    )
