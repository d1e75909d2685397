use Rattle.std.proofs.Common.{◌≡◌, ◌+◌, sym, subst, ap, ◌∙◌, List}
use Rattle.st_thinmap.specs.declared.mapping.Mapping.{Mapping}
use Rattle.st_thinmap.specs.Order.{key_of}
use Rattle.st_thinmap.specs.Thin.{Thin, IsThin}
use Rattle.st_thinmap.proofs.Keeping.{Free, IsFew, old_present, absent-then, Tied-put, IsThin-put}
use Rattle.st_thinmap.proofs.map.ThinMap.put_fresh.Goals as goal

pub lower_old-requires-clause-present : goal.lower_old-requires-clause-present
lower_old-requires-clause-present c =
    let s = c.self.inside in
    old_present s.uses.items s.rows.items (key_of c.args.fs c.args.fresh.block) c.put_row-old.result c.self.invariant.1 c.put_row-old.ensures.old

pub begin-requires-clause-absent : goal.begin-requires-clause-absent
begin-requires-clause-absent c =
    let s = c.self.inside in
    let rows_is : c.args.self.now.rows ≡ s.rows.items = ap (λ (t : Thin). t.rows) (sym c.self.view_is) in
    let free = subst (λ (xs : List Mapping). Free xs c.args.fresh.place) rows_is c.requires.free in
    absent-then s.uses.items c.lower_old.new.uses.items s.rows.items c.args.fresh.place c.put_row-old.result c.self.invariant.1 free c.lower_old.ensures.counts

pub invariant_of-self : goal.invariant_of-self
invariant_of-self c =
    let s = c.self.inside in
    let m : Mapping = record { fs = c.args.fs; block = c.args.fresh.block; cell = c.args.fresh.cell; place = c.args.fresh.place } in
    let rows_is : c.args.self.now.rows ≡ s.rows.items = ap (λ (t : Thin). t.rows) (sym c.self.view_is) in
    let free = subst (λ (xs : List Mapping). Free xs c.args.fresh.place) rows_is c.requires.free in
    let few = subst (λ (xs : List Mapping). IsFew m xs) rows_is c.requires.few in (
      subst (λ (xs : List Mapping). IsThin xs (s.next + 1)) (sym c.put_row-old.ensures.rows)
          (IsThin-put m s.rows.items s.next c.self.invariant.0 (c.requires.cell ∙ ap (λ (t : Thin). t.next) (sym c.self.view_is)) c.requires.block free few),
      Tied-put s.uses.items c.lower_old.new.uses.items c.begin.new.uses.items s.rows.items c.put_row-old.new.rows.items m c.put_row-old.result c.self.invariant.1 c.self.invariant.0.order c.put_row-old.ensures.old c.put_row-old.ensures.rows c.lower_old.ensures.counts c.begin.ensures.table c.begin.ensures.counts,
    )
