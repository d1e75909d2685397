use Rattle.std.proofs.Common.{◌≡◌, ◌≤◌, ◌<◌, ◌+◌, ◌^◌, ◌∷◌, ◌++◌, [], false, map, length, List, Some, refl, sym, ap, ◌∙◌, subst, arith}
use Rattle.std.specs.Prelude.{IfSome, is_some, option_map}
use Rattle.std.specs.List.{AllByRecursion, sum_by}
use Rattle.st_wants.specs.Wants.{takes_table}
use Rattle.st_wants.specs.declared.row.LockRow.{LockRow}
use Rattle.st_model.specs.declared.entry.Entry.{Entry}
use Rattle.st_model.specs.declared.state.EngineState.{EngineState}
use Rattle.st_model.specs.Parts.{pool_at, shown_table, started, table_of}
use Rattle.st_model.specs.Shown.{pool_info}
use Rattle.st_model.specs.Step.{step}
use Rattle.st_history.specs.declared.log.Event.TheVariants.{Release}
use Rattle.st_history.specs.Failures.{failures_of}
use Rattle.st_book.specs.View.{TableView, lent_at, or_zero}
use Rattle.st_alone.specs.Alone.{IsAfter, OutView, state_in}
use Rattle.st_alone.proofs.Returning.{alone_in, back_home, back_log, back_state, back_tickets, comes_back, few_of, fits_want, info_serves, infos_serve, on_row, out_live, slack_too}
use Rattle.st_alone.proofs.granted.Out.give_back.Goals as goal

pub put-requires : goal.put-requires
put-requires g c = let room = c.requires.entries.1 in omega (arith, room)

pub release-requires-clause-live : goal.release-requires-clause-live
release-requires-clause-live g c κs within = out_live c.self.inside.opening.value (g.T.Board.slack c.self.inside.began.value) c.self.inside.seat c.self.inside.ticket c.self.inside.want.value c.self.inside.book c.self.invariant.0

pub release-requires-clause-fitting : goal.release-requires-clause-fitting
release-requires-clause-fitting g c κs within =
    let after = (subst (λ (o : OutView). IsAfter (state_in o) o.want c.args.entry (map g.C.Cell.state c.args.part.cells.items) (option_map (λ (x : g.row.T.Denot). let v : TableView = record { state = g.T.Board.stands x; slack = g.T.Board.slack x } in v) c.args.part.table)) (sym c.self.view_is) c.requires.after) in
    on_row c.self.inside.opening.value (g.T.Board.slack c.self.inside.began.value) c.self.inside.seat c.self.inside.ticket c.self.inside.want.value c.self.inside.book c.self.invariant.0 (λ (r : LockRow). is_some c.args.part.table ≡ takes_table r.want)
    (fits_want g.T.Board.stands g.T.Board.slack c.self.inside.want.value _ (map g.C.Cell.state c.args.part.cells.items) c.args.part.table after.part)

pub release-requires-clause-few : goal.release-requires-clause-few
release-requires-clause-few g c κs within =
    let after = (subst (λ (o : OutView). IsAfter (state_in o) o.want c.args.entry (map g.C.Cell.state c.args.part.cells.items) (option_map (λ (x : g.row.T.Denot). let v : TableView = record { state = g.T.Board.stands x; slack = g.T.Board.slack x } in v) c.args.part.table)) (sym c.self.view_is) c.requires.after) in
    let slack = (slack_too g.T.Board.stands g.T.Board.slack (g.T.Board.slack c.self.inside.began.value) c.args.part.table (subst (λ (o : OutView). IfSome c.args.part.table (λ (x : g.row.T.Denot). o.base ≤ g.T.Board.slack x)) (sym c.self.view_is) c.requires.slack)) in
    few_of c.self.inside.opening.value (g.T.Board.slack c.self.inside.began.value) c.self.inside.seat c.self.inside.ticket c.self.inside.want.value c.self.inside.book c.self.invariant.0 c.args.entry (map g.C.Cell.state c.args.part.cells.items) (option_map (λ (x : g.row.T.Denot). let v : TableView = record { state = g.T.Board.stands x; slack = g.T.Board.slack x } in v) c.args.part.table) after slack g.C.Cell.state c.args.part.cells.items refl

pub release-requires-clause-kept : goal.release-requires-clause-kept
release-requires-clause-kept g c κs within = c.requires.kept

pub invariant_of-result : goal.invariant_of-result
invariant_of-result g c =
    let after = (subst (λ (o : OutView). IsAfter (state_in o) o.want c.args.entry (map g.C.Cell.state c.args.part.cells.items) (option_map (λ (x : g.row.T.Denot). let v : TableView = record { state = g.T.Board.stands x; slack = g.T.Board.slack x } in v) c.args.part.table)) (sym c.self.view_is) c.requires.after) in
    let slack = (slack_too g.T.Board.stands g.T.Board.slack (g.T.Board.slack c.self.inside.began.value) c.args.part.table (subst (λ (o : OutView). IfSome c.args.part.table (λ (x : g.row.T.Denot). o.base ≤ g.T.Board.slack x)) (sym c.self.view_is) c.requires.slack)) in
    let alone = alone_in c.args.entries.items c.put.new.self.items c.args.entry c.requires.entries.0 c.put.ensures.items in
    let spares = subst (λ (o : OutView). AllByRecursion (λ (x : g.row.C.Denot). g.C.Cell.has_spare x ≡ false → option_map pool_info (pool_at (g.C.Named.named x) (started (state_in o))) ≡ Some (pool_info (g.C.Cell.state x))) c.args.part.cells.items) (sym c.self.view_is) c.requires.spares in
    let spare = subst (λ (o : OutView). IfSome c.args.part.table (λ (x : g.row.T.Denot). g.T.Board.has_spare x ≡ false → shown_table (table_of (state_in o)) ≡ shown_table (g.T.Board.stands x))) (sym c.self.view_is) c.requires.spare in
    let counted = subst (λ (o : OutView). length o.log < 2 ^ 62 → or_zero (option_map g.T.Board.fault_count c.args.part.table) + sum_by g.C.Cell.fault_count c.args.part.cells.items ≡ o.faults + failures_of (c.args.entry ∷ [])) (sym c.self.view_is) c.requires.faults in
    let stands = c.release.ensures.stands c.self.inside.opening.value (g.T.Board.slack c.self.inside.began.value) c.self.invariant.0.stands
    (comes_back c.self.inside.opening.value (g.T.Board.slack c.self.inside.began.value) c.self.inside.seat c.self.inside.ticket c.self.inside.want.value c.self.inside.book c.self.invariant.0 c.args.entry (map g.C.Cell.state c.args.part.cells.items) (option_map (λ (x : g.row.T.Denot). let v : TableView = record { state = g.T.Board.stands x; slack = g.T.Board.slack x } in v) c.args.part.table) after slack c.put.new.self.items alone)
    (infos_serve c.self.inside.opening.value (g.T.Board.slack c.self.inside.began.value) c.self.inside.seat c.self.inside.ticket c.self.inside.want.value c.self.inside.book c.self.invariant.0 g.C.Named.named g.C.Cell.state g.C.Cell.has_spare c.args.part.cells.items spares)
    (info_serves c.self.inside.opening.value (g.T.Board.slack c.self.inside.began.value) c.self.inside.seat c.self.inside.ticket c.self.inside.want.value c.self.inside.book c.self.invariant.0 g.T.Board.stands g.T.Board.has_spare c.args.part.table spare)
    (λ small. counted small ∙ ap (λ (es : List Entry). lent_at c.self.inside.ticket c.self.inside.book.lent + failures_of es) (sym alone)) in (
      back_home c.self.inside.opening.value (g.T.Board.slack c.self.inside.began.value) c.self.inside.seat c.self.inside.ticket c.self.inside.want.value c.self.inside.book c.self.invariant.0 c.args.entry (map g.C.Cell.state c.args.part.cells.items) (option_map (λ (x : g.row.T.Denot). let v : TableView = record { state = g.T.Board.stands x; slack = g.T.Board.slack x } in v) c.args.part.table) after slack c.release.new.self c.put.new.self alone c.release.ensures.lock c.release.ensures.log stands,
      c.state_past-state.ensures ∙ (ap (λ (s : EngineState). (step s c.args.entry.call c.args.entry.env).1) c.self.invariant.1 ∙ sym (back_state c.self.inside.opening.value (g.T.Board.slack c.self.inside.began.value) c.self.inside.seat c.self.inside.ticket c.self.inside.want.value c.self.inside.book c.self.invariant.0 c.args.entry (map g.C.Cell.state c.args.part.cells.items) (option_map (λ (x : g.row.T.Denot). let v : TableView = record { state = g.T.Board.stands x; slack = g.T.Board.slack x } in v) c.args.part.table) after slack c.release.new.self c.put.new.self alone c.release.ensures.lock c.release.ensures.log)),
    )

pub returns-clause-same : goal.returns-clause-same
returns-clause-same g c =
    let after = (subst (λ (o : OutView). IsAfter (state_in o) o.want c.args.entry (map g.C.Cell.state c.args.part.cells.items) (option_map (λ (x : g.row.T.Denot). let v : TableView = record { state = g.T.Board.stands x; slack = g.T.Board.slack x } in v) c.args.part.table)) (sym c.self.view_is) c.requires.after) in
    let slack = (slack_too g.T.Board.stands g.T.Board.slack (g.T.Board.slack c.self.inside.began.value) c.args.part.table (subst (λ (o : OutView). IfSome c.args.part.table (λ (x : g.row.T.Denot). o.base ≤ g.T.Board.slack x)) (sym c.self.view_is) c.requires.slack)) in
    let alone = alone_in c.args.entries.items c.put.new.self.items c.args.entry c.requires.entries.0 c.put.ensures.items in
    (ap (λ (o : OutView). o.opening) c.self.view_is, ap (λ (o : OutView). o.base) c.self.view_is, back_tickets c.self.inside.opening.value (g.T.Board.slack c.self.inside.began.value) c.self.inside.seat c.self.inside.ticket c.self.inside.want.value c.self.inside.book c.self.invariant.0 c.args.entry (map g.C.Cell.state c.args.part.cells.items) (option_map (λ (x : g.row.T.Denot). let v : TableView = record { state = g.T.Board.stands x; slack = g.T.Board.slack x } in v) c.args.part.table) after slack c.release.new.self c.put.new.self alone c.release.ensures.lock c.release.ensures.log ∙ ap (λ (o : OutView). o.ticket + 1) c.self.view_is)

pub returns-clause-log : goal.returns-clause-log
returns-clause-log g c =
    let after = (subst (λ (o : OutView). IsAfter (state_in o) o.want c.args.entry (map g.C.Cell.state c.args.part.cells.items) (option_map (λ (x : g.row.T.Denot). let v : TableView = record { state = g.T.Board.stands x; slack = g.T.Board.slack x } in v) c.args.part.table)) (sym c.self.view_is) c.requires.after) in
    let slack = (slack_too g.T.Board.stands g.T.Board.slack (g.T.Board.slack c.self.inside.began.value) c.args.part.table (subst (λ (o : OutView). IfSome c.args.part.table (λ (x : g.row.T.Denot). o.base ≤ g.T.Board.slack x)) (sym c.self.view_is) c.requires.slack)) in
    let alone = alone_in c.args.entries.items c.put.new.self.items c.args.entry c.requires.entries.0 c.put.ensures.items in
    (c.put.new.self, alone, subst (λ (o : OutView). c.release.new.self.log ≡ o.log ++ Release o.seat o.ticket c.put.new.self ∷ []) c.self.view_is (back_log c.self.inside.opening.value (g.T.Board.slack c.self.inside.began.value) c.self.inside.seat c.self.inside.ticket c.self.inside.want.value c.self.inside.book c.self.invariant.0 c.args.entry (map g.C.Cell.state c.args.part.cells.items) (option_map (λ (x : g.row.T.Denot). let v : TableView = record { state = g.T.Board.stands x; slack = g.T.Board.slack x } in v) c.args.part.table) after slack c.release.new.self c.put.new.self alone c.release.ensures.lock c.release.ensures.log))

pub returns-clause-state : goal.returns-clause-state
returns-clause-state g c =
    let after = (subst (λ (o : OutView). IsAfter (state_in o) o.want c.args.entry (map g.C.Cell.state c.args.part.cells.items) (option_map (λ (x : g.row.T.Denot). let v : TableView = record { state = g.T.Board.stands x; slack = g.T.Board.slack x } in v) c.args.part.table)) (sym c.self.view_is) c.requires.after) in
    let slack = (slack_too g.T.Board.stands g.T.Board.slack (g.T.Board.slack c.self.inside.began.value) c.args.part.table (subst (λ (o : OutView). IfSome c.args.part.table (λ (x : g.row.T.Denot). o.base ≤ g.T.Board.slack x)) (sym c.self.view_is) c.requires.slack)) in
    let alone = alone_in c.args.entries.items c.put.new.self.items c.args.entry c.requires.entries.0 c.put.ensures.items in
    back_state c.self.inside.opening.value (g.T.Board.slack c.self.inside.began.value) c.self.inside.seat c.self.inside.ticket c.self.inside.want.value c.self.inside.book c.self.invariant.0 c.args.entry (map g.C.Cell.state c.args.part.cells.items) (option_map (λ (x : g.row.T.Denot). let v : TableView = record { state = g.T.Board.stands x; slack = g.T.Board.slack x } in v) c.args.part.table) after slack c.release.new.self c.put.new.self alone c.release.ensures.lock c.release.ensures.log ∙ ap (λ (o : OutView). (step (state_in o) c.args.entry.call c.args.entry.env).1) c.self.view_is
