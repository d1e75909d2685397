use Rattle.std.proofs.Common.{◌≡◌, List, None, sym, subst, ap, arith, length}
use Rattle.std.specs.List.{All}
use Rattle.st_thinmap.specs.declared.mapping.Mapping.{Mapping}
use Rattle.st_thinmap.specs.Order.{key, item_at}
use Rattle.st_thinmap.specs.Thin.{Thin, IsThin, AgreesWith}
use Rattle.st_thinmap.proofs.Keeping.{count_small, IsThin-load, Tied-load}
use Rattle.st_thinmap.proofs.map.ThinMap.put_loaded.Goals as goal

pub add_use-requires-clause-small : goal.add_use-requires-clause-small
add_use-requires-clause-small c =
    let s = c.self.inside in
    count_small s.uses.items s.rows.items c.args.mapping.place c.self.invariant.1 (omega (arith, c.self.invariant.0.few))

pub invariant_of-self : goal.invariant_of-self
invariant_of-self c =
    let s = c.self.inside in
    let m = c.args.mapping in
    let rows_is : c.args.self.now.rows ≡ s.rows.items = ap (λ (t : Thin). t.rows) (sym c.self.view_is) in
    let next_is : c.args.self.now.next ≡ s.next = ap (λ (t : Thin). t.next) (sym c.self.view_is) in
    let paired = subst (λ (xs : List Mapping). All (AgreesWith m) xs) rows_is c.requires.paired in
    let none = subst (λ (xs : List Mapping). item_at key (key m) xs ≡ None) rows_is c.requires.unmapped in (
      subst (λ (xs : List Mapping). IsThin xs s.next) (sym c.put_row.ensures.rows)
          (IsThin-load m s.rows.items s.next c.self.invariant.0 (omega (arith, c.requires.cell)) c.requires.block paired (omega (arith, c.requires.few, ap length rows_is))),
      Tied-load s.uses.items c.add_use.new.uses.items s.rows.items c.put_row.new.rows.items m c.self.invariant.1 c.self.invariant.0.order none c.put_row.ensures.rows c.add_use.ensures.table c.add_use.ensures.counts,
    )
