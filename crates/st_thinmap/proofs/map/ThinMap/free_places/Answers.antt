use Rattle.std.proofs.Common.{◌≡◌, ◌+◌, ◌-◌, List, length, sym, ap, subst, arith}
use Rattle.st_thinmap.specs.declared.uses.Use.{Use}
use Rattle.st_thinmap.specs.Thin.{Thin, used}
use Rattle.st_thinmap.specs.inner.Uses.{IsFreeAt, count_in}
use Rattle.st_thinmap.proofs.Keeping.{Free}
use Rattle.st_thinmap.proofs.Table.{from_start, from_behind}
use Rattle.st_thinmap.proofs.Used.{used-is, table_few, free-from}
use Rattle.st_thinmap.proofs.map.ThinMap.free_places.Goals as goal

pub gap-first-requires-clause-start : goal.gap-first-requires-clause-start
gap-first-requires-clause-start c = subst (λ (us : List Use). IsFreeAt us 0 0) (sym c.deref.ensures.value) (from_start c.self.inside.uses.items c.self.invariant.1.0)

pub gap-second-requires-clause-start : goal.gap-second-requires-clause-start
gap-second-requires-clause-start c =
    let u = c.self.inside.uses.items in
    let at = subst (λ (us : List Use). IsFreeAt us c.gap-first.result (c.gap-first.result - 0)) c.deref.ensures.value c.gap-first.ensures.at in
    let free = subst (λ (us : List Use). count_in us c.gap-first.result ≡ 0) c.deref.ensures.value c.gap-first.ensures.free in
    subst (λ (us : List Use). IsFreeAt us (c.gap-first.result + 1) (c.gap-first.result + 1 - 1)) (sym c.deref-2.ensures.value)
    (from_behind u c.gap-first.result c.self.invariant.1.0 free at)

pub overflow_cast-result : goal.overflow_cast-result
overflow_cast-result c =
    let s = c.self.inside in
    omega (arith, c.gap-first.ensures.few, ap (λ (us : List Use). length us) c.deref.ensures.value, table_few s.uses.items s.rows.items s.next c.self.invariant.1 c.self.invariant.0)

pub overflow_cast-result-2 : goal.overflow_cast-result-2
overflow_cast-result-2 c =
    let s = c.self.inside in
    omega (arith, c.gap-second.ensures.few, ap (λ (us : List Use). length us) c.deref-2.ensures.value, table_few s.uses.items s.rows.items s.next c.self.invariant.1 c.self.invariant.0)

pub returns-clause-first : goal.returns-clause-first
returns-clause-first c =
    let s = c.self.inside in
    let free = subst (λ (us : List Use). count_in us c.gap-first.result ≡ 0) c.deref.ensures.value c.gap-first.ensures.free in
    subst (λ (t : Thin). Free t.rows c.gap-first.result) c.self.view_is (free-from c.gap-first.result s.uses.items s.rows.items c.self.invariant.1 free)

pub returns-clause-second : goal.returns-clause-second
returns-clause-second c =
    let s = c.self.inside in
    let free = subst (λ (us : List Use). count_in us c.gap-second.result ≡ 0) c.deref-2.ensures.value c.gap-second.ensures.free in
    subst (λ (t : Thin). Free t.rows c.gap-second.result) c.self.view_is (free-from c.gap-second.result s.uses.items s.rows.items c.self.invariant.1 free)

pub returns-clause-low : goal.returns-clause-low
returns-clause-low c =
    let s = c.self.inside in
    omega (arith, c.gap-first.ensures.few, ap (λ (us : List Use). length us) c.deref.ensures.value, used-is s.uses.items s.rows.items c.self.invariant.1 c.self.invariant.0.paired, ap (λ (t : Thin). used t.rows) c.self.view_is)

pub returns-clause-high : goal.returns-clause-high
returns-clause-high c =
    let s = c.self.inside in
    omega (arith, c.gap-second.ensures.few, ap (λ (us : List Use). length us) c.deref-2.ensures.value, used-is s.uses.items s.rows.items c.self.invariant.1 c.self.invariant.0.paired, ap (λ (t : Thin). used t.rows) c.self.view_is)
