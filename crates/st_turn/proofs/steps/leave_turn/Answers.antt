use Rattle.std.proofs.Common.{arith, sym, ap, ◌∙◌, subst}
use Rattle.std.specs.Prelude.{Option}
use Rattle.atomic_table.specs.Table.{Me}
use Rattle.st_turn.specs.declared.knowledge.Knowledge.{Knowledge}
use Rattle.st_turn.specs.Kinds.{MayLeave}
use Rattle.st_turn.proofs.Turns.{leave_allows}
use Rattle.st_turn.proofs.steps.leave_turn.Goals as goal

pub fetch_add-requires : goal.fetch_add-requires
fetch_add-requires g c =
    let b = g.B.Logged in
    let w = c.requires.words in
    let e = c.bring_home.ensures.me in
    let view = ap (λ (m : Me (Option g.row.B.Denot) (Knowledge g.row.B-Event.Denot g.row.B-Opening.Denot)). m.0) e in
    let held = ap (λ (m : Me (Option g.row.B.Denot) (Knowledge g.row.B-Event.Denot g.row.B-Opening.Denot)). m.1) e in
    let t = c.requires.turn in (
      c.bring_home.ensures.here ∙ c.requires.here,
      omega (arith, w),
      leave_allows b.by b.events b.opens b.fits c.args.table.now.table_id.slots c.bring_home.new.seat.id c.bring_home.new.seat.me t.0 c.args.book
          (ap (λ (v : Knowledge g.row.B-Event.Denot g.row.B-Opening.Denot). v.place) view ∙ t.1) held (subst (λ (v : Knowledge g.row.B-Event.Denot g.row.B-Opening.Denot). MayLeave b.by b.events b.opens b.fits v c.args.book) (sym view) c.requires.may),
    )
