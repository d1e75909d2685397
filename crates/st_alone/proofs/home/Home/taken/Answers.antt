use Rattle.std.proofs.Common.{◌≡◌, ◌≤◌, ◌<◌, ◌+◌, ◌^◌, ◌∷◌, ◌++◌, [], false, map, length, refl, sym, ap, ◌∙◌, subst}
use Rattle.std.specs.Prelude.{option_map, IfSome}
use Rattle.st_wants.specs.declared.row.LockRow.{LockRow}
use Rattle.st_model.specs.declared.state.EngineState.{EngineState}
use Rattle.st_history.specs.History.{replay}
use Rattle.st_book.specs.Stands.{PartShows, PartStands}
use Rattle.st_book.specs.View.{TableView, lent_at}
use Rattle.st_alone.specs.Alone.{HomeView, IsGranted, state_at}
use Rattle.st_alone.proofs.Taking.{first, is_waiting, not_blocked, of_row, state1, taken_faults, taken_log, taken_out, taken_state}
use Rattle.st_alone.proofs.home.Home.taken.Goals as goal

pub invariant_of-home : goal.invariant_of-home
invariant_of-home g c = rw c.in-Err.ensures.err c.self.invariant

pub returns-in-Err-clause-back : goal.returns-in-Err-clause-back
returns-in-Err-clause-back g c = rw c.in-Err.ensures.err c.self.view_is

pub grant-requires-after_bounds : goal.grant-requires-after_bounds
grant-requires-after_bounds g c κs within = is_waiting c.args.seat c.self.inside.opening.value (g.T.Board.slack c.self.inside.began.value) c.self.inside.book c.arrive.new.self c.arrive.new.self c.in-Ok.ticket c.args.want c.self.invariant.0 c.in-Ok.ensures.ticket c.in-Ok.ensures.ok c.in-Ok.ensures.stands

pub unreachable-requires : goal.unreachable-requires
unreachable-requires g c = not_blocked c.args.seat c.self.inside.opening.value (g.T.Board.slack c.self.inside.began.value) c.self.inside.book c.arrive.new.self c.arrive.new.self c.in-Ok.ticket c.args.want c.self.invariant.0 c.in-Ok.ensures.ticket c.in-Ok.ensures.ok c.in-Ok.ensures.stands _ c.in_default.ensures.blocked

pub unreachable-unreachable : goal.unreachable-unreachable
unreachable-unreachable g c = not_blocked c.args.seat c.self.inside.opening.value (g.T.Board.slack c.self.inside.began.value) c.self.inside.book c.arrive.new.self c.arrive.new.self c.in-Ok.ticket c.args.want c.self.invariant.0 c.in-Ok.ensures.ticket c.in-Ok.ensures.ok c.in-Ok.ensures.stands _ c.in_default.ensures.blocked

pub invariant_of-out : goal.invariant_of-out
invariant_of-out g c =
    rw c.of-wanted.ensures (
      taken_out c.args.seat c.self.inside.opening.value (g.T.Board.slack c.self.inside.began.value) c.self.inside.book c.arrive.new.self c.grant.new.self c.in-Ok.ticket c.args.want c.self.invariant.0 c.in-Ok.ensures.ticket c.in-Ok.ensures.ok c.in-Ok.ensures.stands c.in-Ok-grant.ensures.lock c.in-Ok-grant.ensures.log (c.in-Ok-grant.ensures.stands c.self.inside.opening.value (g.T.Board.slack c.self.inside.began.value) (first c.args.seat c.self.inside.opening.value (g.T.Board.slack c.self.inside.began.value) c.self.inside.book c.arrive.new.self c.grant.new.self c.in-Ok.ticket c.args.want c.self.invariant.0 c.in-Ok.ensures.ticket c.in-Ok.ensures.ok c.in-Ok.ensures.stands)),
      c.self.invariant.1 ∙ sym (taken_state c.args.seat c.self.inside.opening.value (g.T.Board.slack c.self.inside.began.value) c.self.inside.book c.arrive.new.self c.grant.new.self c.in-Ok.ticket c.args.want c.self.invariant.0 c.in-Ok.ensures.ticket c.in-Ok.ensures.ok c.in-Ok.ensures.stands c.in-Ok-grant.ensures.lock c.in-Ok-grant.ensures.log),
    )

pub same-entries : goal.same-entries
same-entries g c = refl

pub returns-clause-taken : goal.returns-clause-taken
returns-clause-taken g c = (
  subst (λ (v : HomeView). IsGranted v c.args.seat c.args.want (record {
    opening = c.self.inside.opening.value;
    base = g.T.Board.slack c.self.inside.began.value;
    log = c.grant.new.self.log;
    seat = c.args.seat;
    ticket = c.in-Ok.ticket;
    want = c.of-wanted.result.value;
    faults = lent_at c.in-Ok.ticket c.grant.new.self.lent;
  })) c.self.view_is (record {
    opening = refl;
    base = refl;
    seat_is = refl;
    ticket = c.in-Ok.ensures.ticket;
    want_is = c.of-wanted.ensures;
    log = taken_log c.args.seat c.self.inside.opening.value (g.T.Board.slack c.self.inside.began.value) c.self.inside.book c.arrive.new.self c.grant.new.self c.in-Ok.ticket c.args.want c.self.invariant.0 c.in-Ok.ensures.ticket c.in-Ok.ensures.ok c.in-Ok.ensures.stands c.in-Ok-grant.ensures.lock c.in-Ok-grant.ensures.log;
    state = taken_state c.args.seat c.self.inside.opening.value (g.T.Board.slack c.self.inside.began.value) c.self.inside.book c.arrive.new.self c.grant.new.self c.in-Ok.ticket c.args.want c.self.invariant.0 c.in-Ok.ensures.ticket c.in-Ok.ensures.ok c.in-Ok.ensures.stands c.in-Ok-grant.ensures.lock c.in-Ok-grant.ensures.log;
    valid = c.self.invariant.0.valid;
  }),
  refl,
)

pub returns-clause-part : goal.returns-clause-part
returns-clause-part g c =
    let of_ticket = of_row c.args.seat c.self.inside.opening.value (g.T.Board.slack c.self.inside.began.value) c.self.inside.book c.arrive.new.self c.grant.new.self c.in-Ok.ticket c.args.want c.self.invariant.0 c.in-Ok.ensures.ticket c.in-Ok.ensures.ok c.in-Ok.ensures.stands (λ (r : LockRow). PartStands r.want (replay c.self.inside.opening.value c.arrive.new.self.log) (map g.C.Cell.state c.in-Ok-grant.part.cells.items) (option_map (λ (t : g.row.T.Denot). let x : TableView = record { state = g.T.Board.stands t; slack = g.T.Board.slack t } in x) c.in-Ok-grant.part.table)) (c.in-Ok-grant.ensures.part c.self.inside.opening.value (g.T.Board.slack c.self.inside.began.value) (first c.args.seat c.self.inside.opening.value (g.T.Board.slack c.self.inside.began.value) c.self.inside.book c.arrive.new.self c.grant.new.self c.in-Ok.ticket c.args.want c.self.invariant.0 c.in-Ok.ensures.ticket c.in-Ok.ensures.ok c.in-Ok.ensures.stands)) in
    let here = subst (λ (s : EngineState). PartStands c.args.want s (map g.C.Cell.state c.in-Ok-grant.part.cells.items) (option_map (λ (t : g.row.T.Denot). let x : TableView = record { state = g.T.Board.stands t; slack = g.T.Board.slack t } in x) c.in-Ok-grant.part.table)) (state1 c.args.seat c.self.inside.opening.value (g.T.Board.slack c.self.inside.began.value) c.self.inside.book c.arrive.new.self c.grant.new.self c.in-Ok.ticket c.args.want c.self.invariant.0 c.in-Ok.ensures.ticket c.in-Ok.ensures.ok c.in-Ok.ensures.stands) of_ticket in
    subst (λ (v : HomeView). PartStands c.args.want (state_at v) (map g.C.Cell.state c.in-Ok-grant.part.cells.items) (option_map (λ (t : g.row.T.Denot). let x : TableView = record { state = g.T.Board.stands t; slack = g.T.Board.slack t } in x) c.in-Ok-grant.part.table)) c.self.view_is here

pub returns-clause-slack : goal.returns-clause-slack
returns-clause-slack g c = subst (λ (v : HomeView). IfSome c.in-Ok-grant.part.table (λ (x : g.row.T.Denot). v.base ≤ g.T.Board.slack x)) c.self.view_is (c.in-Ok-grant.ensures.slack c.self.inside.opening.value (g.T.Board.slack c.self.inside.began.value) (first c.args.seat c.self.inside.opening.value (g.T.Board.slack c.self.inside.began.value) c.self.inside.book c.arrive.new.self c.grant.new.self c.in-Ok.ticket c.args.want c.self.invariant.0 c.in-Ok.ensures.ticket c.in-Ok.ensures.ok c.in-Ok.ensures.stands))

pub returns-clause-shown : goal.returns-clause-shown
returns-clause-shown g c = λ whole.
    let of_ticket = of_row c.args.seat c.self.inside.opening.value (g.T.Board.slack c.self.inside.began.value) c.self.inside.book c.arrive.new.self c.grant.new.self c.in-Ok.ticket c.args.want c.self.invariant.0 c.in-Ok.ensures.ticket c.in-Ok.ensures.ok c.in-Ok.ensures.stands (λ (r : LockRow). PartShows r.want (replay c.self.inside.opening.value c.arrive.new.self.log) (map g.C.Cell.shows c.in-Ok-grant.part.infos.items) (option_map g.T.Board.shows c.in-Ok-grant.part.table_info)) (c.in-Ok-grant.ensures.shown whole c.self.inside.opening.value (g.T.Board.slack c.self.inside.began.value) (first c.args.seat c.self.inside.opening.value (g.T.Board.slack c.self.inside.began.value) c.self.inside.book c.arrive.new.self c.grant.new.self c.in-Ok.ticket c.args.want c.self.invariant.0 c.in-Ok.ensures.ticket c.in-Ok.ensures.ok c.in-Ok.ensures.stands)) in
    let here = subst (λ (s : EngineState). PartShows c.args.want s (map g.C.Cell.shows c.in-Ok-grant.part.infos.items) (option_map g.T.Board.shows c.in-Ok-grant.part.table_info)) (state1 c.args.seat c.self.inside.opening.value (g.T.Board.slack c.self.inside.began.value) c.self.inside.book c.arrive.new.self c.grant.new.self c.in-Ok.ticket c.args.want c.self.invariant.0 c.in-Ok.ensures.ticket c.in-Ok.ensures.ok c.in-Ok.ensures.stands) of_ticket in
    subst (λ (v : HomeView). PartShows c.args.want (state_at v) (map g.C.Cell.shows c.in-Ok-grant.part.infos.items) (option_map g.T.Board.shows c.in-Ok-grant.part.table_info)) c.self.view_is here

pub returns-clause-faults : goal.returns-clause-faults
returns-clause-faults g c = λ short. taken_faults c.args.seat c.self.inside.opening.value (g.T.Board.slack c.self.inside.began.value) c.self.inside.book c.arrive.new.self c.grant.new.self c.in-Ok.ticket c.args.want c.self.invariant.0 c.in-Ok.ensures.ticket c.in-Ok.ensures.ok c.in-Ok.ensures.stands c.in-Ok-grant.ensures.lock c.in-Ok-grant.ensures.log _ (c.in-Ok-grant.ensures.stands c.self.inside.opening.value (g.T.Board.slack c.self.inside.began.value) (first c.args.seat c.self.inside.opening.value (g.T.Board.slack c.self.inside.began.value) c.self.inside.book c.arrive.new.self c.grant.new.self c.in-Ok.ticket c.args.want c.self.invariant.0 c.in-Ok.ensures.ticket c.in-Ok.ensures.ok c.in-Ok.ensures.stands)) (c.in-Ok-grant.ensures.lent c.self.inside.opening.value (g.T.Board.slack c.self.inside.began.value) (first c.args.seat c.self.inside.opening.value (g.T.Board.slack c.self.inside.began.value) c.self.inside.book c.arrive.new.self c.grant.new.self c.in-Ok.ticket c.args.want c.self.invariant.0 c.in-Ok.ensures.ticket c.in-Ok.ensures.ok c.in-Ok.ensures.stands)) short

pub returns-clause-kept : goal.returns-clause-kept
returns-clause-kept g c = c.in-Ok-grant.ensures.kept

pub returns-clause-places : goal.returns-clause-places
returns-clause-places g c = c.in-Ok-grant.ensures.places
