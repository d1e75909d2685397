use Rattle.std.proofs.Common.{arith, sym, ap, ◌∙◌, ◌∷◌, ℕ, List}
use Rattle.std.specs.Prelude.{Option}
use Rattle.atomic_table.specs.Table.{Me, rest}
use Rattle.st_turn.specs.declared.knowledge.Knowledge.{Knowledge}
use Rattle.st_turn.proofs.Ends.{take_last_allows}
use Rattle.st_turn.proofs.steps.take_alone.Goals as goal

pub load-dealt-requires : goal.load-dealt-requires
load-dealt-requires g c =
    let b = g.B.Logged in
    let w = c.requires.words in
    (c.requires.here, omega (arith, w), take_last_allows b.by b.events b.opens b.fits c.args.table.now.table_id.slots c.args.seat.now.id c.args.seat.now.me c.requires.out c.requires.alone)

pub exchange-requires : goal.exchange-requires
exchange-requires g c =
    let told = c.load-dealt.ensures in
    let h = told.2 in
    let e = ap (λ (m : Me (Option g.row.B.Denot) (Knowledge g.row.B-Event.Denot g.row.B-Opening.Denot)). m.1) h.1 in
    (told.0 ∙ c.requires.here, (h.0, e ∙ ap (λ (r : List (ℕ × Option g.row.B.Denot)). (0, h.0) ∷ r) (sym (ap rest e))))
