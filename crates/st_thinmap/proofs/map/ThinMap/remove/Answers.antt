use Rattle.std.proofs.Common.{◌≡◌, ◌≤◌, ◌+◌, ℕ, List, map, eqb, ap, ap₂, sym, subst, ◌∙◌}
use Rattle.std.specs.List.{count_by, filter}
use Rattle.st_thinmap.specs.declared.mapping.Mapping.{Mapping}
use Rattle.st_thinmap.specs.declared.uses.Use.{Use}
use Rattle.st_thinmap.specs.Thin.{Thin, IsThin, gone_with, of_fs, without_fs}
use Rattle.st_thinmap.specs.inner.Tied.{Tied, lies_at}
use Rattle.st_thinmap.specs.inner.Uses.{count_in}
use Rattle.st_thinmap.proofs.Dropping.{own-present, tied-without, IsThin-without, gone-is}
use Rattle.st_thinmap.proofs.map.ThinMap.remove.Goals as goal

pub lower_run-requires-clause-present : goal.lower_run-requires-clause-present
lower_run-requires-clause-present c =
    let own : c.own_rows-own.result.now ≡ of_fs c.args.fs c.self.inside.rows.items = c.own_rows-own.ensures ∙ ap (λ (xs : List Mapping). of_fs c.args.fs xs) c.deref.ensures.value in
    subst (λ (xs : List Mapping). (q : ℕ) → count_by (lies_at q) xs ≤ count_in c.self.inside.uses.items q) (sym own) (own-present c.args.fs c.self.inside.uses.items c.self.inside.rows.items c.self.invariant.1)

tied : (c : goal.After-of) → Tied c.lower_run.new.uses.items (without_fs c.args.fs c.self.inside.rows.items)
tied c =
    let own : c.own_rows-own.result.now ≡ of_fs c.args.fs c.self.inside.rows.items = c.own_rows-own.ensures ∙ ap (λ (xs : List Mapping). of_fs c.args.fs xs) c.deref.ensures.value in
    tied-without c.args.fs c.self.inside.uses.items c.lower_run.new.uses.items c.self.inside.rows.items c.self.invariant.1 c.lower_run.ensures.table
    (subst (λ (xs : List Mapping). (q : ℕ) → count_in c.lower_run.new.uses.items q + count_by (lies_at q) xs ≡ count_in c.self.inside.uses.items q) own c.lower_run.ensures.counts)

pub invariant_of-self : goal.invariant_of-self
invariant_of-self c = (
  subst (λ (xs : List Mapping). IsThin xs c.self.inside.next) (sym c.remove_rows.ensures) (IsThin-without c.args.fs c.self.inside.next c.self.inside.rows.items c.self.invariant.0),
  subst (λ (xs : List Mapping). Tied c.lower_run.new.uses.items xs) (sym c.remove_rows.ensures) (tied c),
)

pub returns-clause-rows : goal.returns-clause-rows
returns-clause-rows c = c.remove_rows.ensures ∙ ap (λ (t : Thin). without_fs c.args.fs t.rows) c.self.view_is

pub returns-clause-gone : goal.returns-clause-gone
returns-clause-gone c =
    let own : c.own_rows-own.result.now ≡ of_fs c.args.fs c.self.inside.rows.items = c.own_rows-own.ensures ∙ ap (λ (xs : List Mapping). of_fs c.args.fs xs) c.deref.ensures.value in
    c.of.ensures
    ∙ c.push_unused.ensures
    ∙ ap₂ (λ (us : List Use) (xs : List Mapping). map (λ (m : Mapping). m.cell) (filter (λ (m : Mapping). eqb (count_in us m.place) 0) xs)) c.deref-2.ensures.value own
    ∙ gone-is c.args.fs c.self.inside.next c.lower_run.new.uses.items c.self.inside.rows.items c.self.invariant.0 (tied c)
    ∙ ap (λ (t : Thin). gone_with c.args.fs t.rows) c.self.view_is
