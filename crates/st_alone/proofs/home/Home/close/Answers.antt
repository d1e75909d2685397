use Rattle.std.proofs.Common.{◌≡◌, ℕ, ◌≤◌, ◌<◌, ◌+◌, ◌^◌, List, [], Some, map, length, refl, sym, ap, ◌∙◌, subst}
use Rattle.std.specs.List.{sum_by}
use Rattle.st_wants.specs.Lock.{Lock, start}
use Rattle.st_wants.specs.Rules.{lock_run}
use Rattle.st_wants.specs.declared.want.Want.TheVariants as wants
use Rattle.st_wants.specs.declared.want.Mode.TheVariants as modes
use Rattle.st_model.specs.Valid.{IsValid}
use Rattle.st_history.specs.declared.log.Event.{Event}
use Rattle.st_history.specs.Failures.{failures}
use Rattle.st_history.specs.History.{History, moves_of, replay}
use Rattle.st_book.specs.Stands.{PartStands}
use Rattle.st_book.specs.View.{TableView}
use Rattle.st_alone.specs.Alone.{HomeView, state_at}
use Rattle.st_alone.proofs.Taking.{none_least}
use Rattle.st_alone.proofs.home.Home.close.Goals as goal

pub unreachable-requires : goal.unreachable-requires
unreachable-requires g c = none_least c.self.inside.book.lock _ c.self.invariant.0.quiet c.in-Err.ensures.left.1

pub unreachable-unreachable : goal.unreachable-unreachable
unreachable-unreachable g c = none_least c.self.inside.book.lock _ c.self.invariant.0.quiet c.in-Err.ensures.left.1

pub returns-clause-log : goal.returns-clause-log
returns-clause-log g c = c.in-Ok.ensures.log ∙ ap (λ (v : HomeView). v.log) c.self.view_is

pub returns-clause-state : goal.returns-clause-state
returns-clause-state g c = c.self.invariant.1 ∙ ap state_at c.self.view_is

pub returns-clause-history : goal.returns-clause-history
returns-clause-history g c = subst (λ (v : HomeView). History v.opening v.log) c.self.view_is c.self.invariant.0.stands.history

pub returns-clause-quiet : goal.returns-clause-quiet
returns-clause-quiet g c = subst (λ (v : HomeView). (lock_run start (moves_of v.log)).rows ≡ []) c.self.view_is (ap (λ (l : Lock). l.rows) (sym c.self.invariant.0.stands.lock ∙ c.self.invariant.0.quiet))

pub returns-clause-valid : goal.returns-clause-valid
returns-clause-valid g c = subst (λ (v : HomeView). IsValid (state_at v)) c.self.view_is c.self.invariant.0.valid

pub returns-clause-part : goal.returns-clause-part
returns-clause-part g c =
    let here = subst (λ (l : List Event). PartStands (wants.All modes.Write) (replay c.self.inside.opening.value l) (map g.C.Cell.state c.in-Ok.cells.items) (Some (record { state = g.T.Board.stands c.in-Ok.table; slack = g.T.Board.slack c.in-Ok.table }))) c.in-Ok.ensures.log (c.in-Ok.ensures.stands c.self.inside.opening.value (g.T.Board.slack c.self.inside.began.value) c.self.invariant.0.stands).0 in
    subst (λ (v : HomeView). PartStands (wants.All modes.Write) (state_at v) (map g.C.Cell.state c.in-Ok.cells.items) (Some (record { state = g.T.Board.stands c.in-Ok.table; slack = g.T.Board.slack c.in-Ok.table }))) c.self.view_is here

pub returns-clause-slack : goal.returns-clause-slack
returns-clause-slack g c = subst (λ (v : HomeView). v.base ≤ g.T.Board.slack c.in-Ok.table) c.self.view_is (c.in-Ok.ensures.stands c.self.inside.opening.value (g.T.Board.slack c.self.inside.began.value) c.self.invariant.0.stands).1

pub returns-clause-faults : goal.returns-clause-faults
returns-clause-faults g c =
    let here = subst (λ (l : List Event). length l < 2 ^ 62 → failures l ≡ g.T.Board.fault_count c.in-Ok.table + sum_by g.C.Cell.fault_count c.in-Ok.cells.items) c.in-Ok.ensures.log (c.in-Ok.ensures.stands c.self.inside.opening.value (g.T.Board.slack c.self.inside.began.value) c.self.invariant.0.stands).2 in
    subst (λ (v : HomeView). length v.log < 2 ^ 62 → failures v.log ≡ g.T.Board.fault_count c.in-Ok.table + sum_by g.C.Cell.fault_count c.in-Ok.cells.items) c.self.view_is here

pub returns-clause-kept : goal.returns-clause-kept
returns-clause-kept g c = c.in-Ok.ensures.kept
