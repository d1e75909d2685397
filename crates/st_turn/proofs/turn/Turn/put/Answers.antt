use Rattle.st_turn.proofs.SeatViews.{may_leave}
use Rattle.st_turn.proofs.turn.Turn.put.Goals as goal

pub leave_last-requires-clause-may : goal.leave_last-requires-clause-may
leave_last-requires-clause-may g c =
    let b = g.B.Logged in
    let s = c.seat.inside in
    may_leave b.by b.events b.opens b.fits s.seat.table_id s.number s.claimed s.seat.me.0 c.args.seat.now c.args.book c.requires.book.0 c.seat.invariant.seated c.seat.view_is c.requires.book.1

pub leave_turn-served-requires-clause-may : goal.leave_turn-served-requires-clause-may
leave_turn-served-requires-clause-may g c =
    let b = g.B.Logged in
    let s = c.seat.inside in
    may_leave b.by b.events b.opens b.fits s.seat.table_id s.number s.claimed s.seat.me.0 c.args.seat.now c.args.book c.requires.book.0 c.seat.invariant.seated c.seat.view_is c.requires.book.1
