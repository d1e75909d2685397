use Rattle.std.proofs.Common.{arith, sym, ap, ◌∙◌, subst}
use Rattle.std.specs.Prelude.{Option}
use Rattle.atomic_table.specs.Table.{Me}
use Rattle.st_turn.specs.declared.knowledge.Knowledge.{Knowledge}
use Rattle.st_turn.specs.Kinds.{MayLeave}
use Rattle.st_turn.proofs.Turns.{leave_last_allows}
use Rattle.st_turn.proofs.steps.leave_last.Goals as goal

pub load-dealt-requires : goal.load-dealt-requires
load-dealt-requires g c =
    let b = g.B.Logged in
    let w = c.requires.words in
    let e = c.bring_home.ensures.me in
    let view = ap (λ (m : Me (Option g.row.B.Denot) (Knowledge g.row.B-Event.Denot g.row.B-Opening.Denot)). m.0) e in
    let held = ap (λ (m : Me (Option g.row.B.Denot) (Knowledge g.row.B-Event.Denot g.row.B-Opening.Denot)). m.1) e in (
      c.bring_home.ensures.here ∙ c.requires.here,
      omega (arith, w),
      leave_last_allows b.by b.events b.opens b.fits c.args.table.now.table_id.slots c.bring_home.new.seat.id c.bring_home.new.seat.me c.args.book
          (ap (λ (v : Knowledge g.row.B-Event.Denot g.row.B-Opening.Denot). v.place) view ∙ c.requires.turn) held (subst (λ (v : Knowledge g.row.B-Event.Denot g.row.B-Opening.Denot). MayLeave b.by b.events b.opens b.fits v c.args.book) (sym view) c.requires.may),
    )
