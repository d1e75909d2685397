use Rattle.std.proofs.Common.{◌≡◌, ℕ, List, length, ap, subst, ◌∙◌, arith}
use Rattle.st_thinmap.specs.declared.mapping.Mapping.{Mapping}
use Rattle.st_thinmap.specs.Thin.{Thin, IsThin, used}
use Rattle.st_thinmap.proofs.Used.{used-is, used-few}
use Rattle.st_thinmap.proofs.map.ThinMap.used.Goals as goal

pub returns : goal.returns
returns c =
    let s = c.self.inside in
    let count : c.len.result ≡ used s.rows.items = c.len.ensures ∙ s.uses.ok.0 ∙ used-is s.uses.items s.rows.items c.self.invariant.1 c.self.invariant.0.paired in
    let rows_is : s.rows.items ≡ c.args.self.now.rows = ap (λ (t : Thin). t.rows) c.self.view_is in
    let next_is : s.next ≡ c.args.self.now.next = ap (λ (t : Thin). t.next) c.self.view_is in
    record { count = count ∙ ap used rows_is; few = omega (arith, used-few s.rows.items, ap length rows_is); valid = subst (λ (n : ℕ). IsThin c.args.self.now.rows n) next_is (subst (λ (xs : List Mapping). IsThin xs s.next) rows_is c.self.invariant.0) }
