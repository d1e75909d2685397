use Rattle.std.proofs.Common.{◌≡◌, ℕ, ◌+◌, ◌≤◌, ◌∷◌, ◌++◌, [], append-nil, List, length, map, refl, sym, ◌∙◌, ap, subst}
use Rattle.st_model.specs.declared.state.TableState.{TableState}
use Rattle.st_board.specs.Holds.{HasOthers, KeepsTable, halted_at, stopped_at}
use Rattle.st_board.specs.View.{BoardView, faults_with, slack_of}
use Rattle.st_closing.specs.inner.Gathering.{MayGather, dev_in, dev_on, rack_in}
use Rattle.st_closing.proofs.Places.{or_none}
use Rattle.st_closing.proofs.Closed.{all_counted, kept_rack, may_gather}
use Rattle.st_closing.proofs.close.close_board.Goals as goal

pub join_halted-requires : goal.join_halted-requires
join_halted-requires g c =
    let R = g.R.Rack in let b = c.board.inside in let s = c.args.state.now.value in let a = c.requires in
    let is : b.state.value ≡ _ = ap (λ (w : BoardView _). w.state) c.board.view_is ∙ a.table in (
      s.devices,
      map rack_in c.args.cells.items,
      may_gather R.devs R.moment R.state_at s a.valid c.args.cells.items a.pools a.kept c.the_started_pools.ensures.each b.free b.halted.items
          (subst (λ (t : TableState). KeepsTable R.devs R.moment R.state_at t b.free b.halted.items) is c.board.invariant.keeps)
          (subst (λ (t : TableState). (q : ℕ) → HasOthers R.devs t.devices (stopped_at q t.stopped) (halted_at q b.halted.items)) is c.board.invariant.lacking)
          R.spare (subst (λ (t : TableState). length t.devices ≤ R.spare b.free + length (R.devs b.free)) is c.board.invariant.places),
    )

pub join_started-requires : goal.join_started-requires
join_started-requires g c =
    let R = g.R.Rack in let b = c.board.inside in let s = c.args.state.now.value in let a = c.requires in
    let is : b.state.value ≡ _ = ap (λ (w : BoardView _). w.state) c.board.view_is ∙ a.table in
    let may = may_gather R.devs R.moment R.state_at s a.valid c.args.cells.items a.pools a.kept c.the_started_pools.ensures.each b.free b.halted.items
    (subst (λ (t : TableState). KeepsTable R.devs R.moment R.state_at t b.free b.halted.items) is c.board.invariant.keeps)
    (subst (λ (t : TableState). (q : ℕ) → HasOthers R.devs t.devices (stopped_at q t.stopped) (halted_at q b.halted.items)) is c.board.invariant.lacking)
    R.spare (subst (λ (t : TableState). length t.devices ≤ R.spare b.free + length (R.devs b.free)) is c.board.invariant.places) in
    (s.devices, [], subst (λ l. MayGather R.devs R.spare s.devices (c.join_halted.new.rack ∷ l)) (sym (append-nil (map rack_in c.args.cells.items))) (c.join_halted.ensures.gathered.goes_on s.devices (map rack_in c.args.cells.items) may))

pub returns-clause-kept : goal.returns-clause-kept
returns-clause-kept g c =
    let R = g.R.Rack in let b = c.board.inside in let s = c.args.state.now.value in let a = c.requires in
    let is : b.state.value ≡ _ = ap (λ (w : BoardView _). w.state) c.board.view_is ∙ a.table in
    let keeps = subst (λ (t : TableState). KeepsTable R.devs R.moment R.state_at t b.free b.halted.items) is c.board.invariant.keeps in
    let lacking = subst (λ (t : TableState). (q : ℕ) → HasOthers R.devs t.devices (stopped_at q t.stopped) (halted_at q b.halted.items)) is c.board.invariant.lacking in
    let may = may_gather R.devs R.moment R.state_at s a.valid c.args.cells.items a.pools a.kept c.the_started_pools.ensures.each b.free b.halted.items keeps lacking
    R.spare (subst (λ (t : TableState). length t.devices ≤ R.spare b.free + length (R.devs b.free)) is c.board.invariant.places) in
    let first = c.join_halted.ensures.gathered in let second = c.join_started.ensures.gathered in
    let may2 = subst (λ l. MayGather R.devs R.spare s.devices (c.join_halted.new.rack ∷ l)) (sym (append-nil (map rack_in c.args.cells.items))) (first.goes_on s.devices (map rack_in c.args.cells.items) may) in
    kept_rack R.devs R.moment R.state_at s a.valid c.args.cells.items a.pools a.kept c.the_started_pools.ensures.each b.free b.halted.items keeps lacking c.join_started.new.rack
    (λ p. sym (or_none (dev_on R.devs R.moment R.state_at c.join_started.new.rack p)) ∙ (second.same s.devices [] may2 p
    ∙ (ap (λ l. dev_in R.devs R.moment R.state_at (c.join_halted.new.rack ∷ l) p) (append-nil (map rack_in c.args.cells.items)) ∙ first.same s.devices (map rack_in c.args.cells.items) may p)))

pub returns-clause-counts : goal.returns-clause-counts
returns-clause-counts g c less =
    let R = g.R.Rack in let b = c.board.inside in
    subst (λ (w : BoardView _). slack_of R.faults w + faults_with c.args.cells.items w ≤ R.faults c.join_started.new.rack) c.board.view_is
    (all_counted (R.faults b.free) (R.faults c.join_halted.new.rack) (R.faults c.join_started.new.rack) b.past _ _ c.board.invariant.counted c.join_halted.ensures.gathered.counts c.join_started.ensures.gathered.counts less)
