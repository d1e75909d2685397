use Rattle.std.proofs.Common.{◌≡◌, ◌++◌, List, sym, ◌∙◌, ap, arith}
use Rattle.st_units.specs.declared.rows.DevRow.{DevRow}
use Rattle.st_cachetier.specs.Tier.{Caching, capacity_of, copy_range}
use Rattle.st_cachetier.proofs.Places.{copies_stay}
use Rattle.st_cachetier.proofs.tier.CacheTier.add_devs.Goals as goal

pub returns-clause-places : goal.returns-clause-places
returns-clause-places c =
    let old = c.args.self.now.rows in
    let inside : c.self.inside.rows ≡ old = ap (λ (t : Caching). t.rows) c.self.view_is in
    let full : c.args.self.now.list.capacity ≡ capacity_of old = sym (ap (λ (t : Caching). t.list.capacity) c.self.view_is) ∙ c.self.invariant.2 ∙ ap capacity_of inside in
    let rows : c.append.new.self ≡ old ++ c.args.devs.now =
    c.in_ok-append.ensures.ok ∙ ap (λ (rs : List DevRow). rs ++ c.in_ok-copy.field-0) (c.in_ok-rows.ensures ∙ inside) ∙ ap (λ (rs : List DevRow). old ++ rs) c.in_ok-copy.ensures in
    λ place lt. ap (λ (rs : List DevRow). copy_range rs place) rows ∙ copies_stay old c.args.devs.now place (omega (arith, lt, full))
