use Rattle.std.proofs.Common.{◌+◌, List, length, ap, ◌∙◌, arith}
use Rattle.st_thinmap.specs.declared.mapping.Mapping.{Mapping}
use Rattle.st_thinmap.specs.Order.{key, key_of}
use Rattle.st_thinmap.specs.Thin.{Thin, of_fs}
use Rattle.st_thinmap.specs.inner.Rank.{rank}
use Rattle.st_thinmap.proofs.Runs.{run_length}
use Rattle.st_thinmap.proofs.map.ThinMap.mapped.Goals as goal

pub overflow_sub-result : goal.overflow_sub-result
overflow_sub-result c =
    let s = c.self.inside in
    let run = run_length c.args.fs s.rows.items c.self.invariant.0.order c.self.invariant.0.blocks in
    let start = c.run_of-start.ensures.start ∙ ap (λ (xs : List Mapping). rank key (key_of c.args.fs 0) xs) c.deref.ensures.value in
    let end = c.run_of-start.ensures.end ∙ ap (λ (xs : List Mapping). rank key (key_of (c.args.fs + 1) 0) xs) c.deref.ensures.value in
    omega (arith, start, end, run.0)

pub returns-clause-count : goal.returns-clause-count
returns-clause-count c =
    let s = c.self.inside in
    let run = run_length c.args.fs s.rows.items c.self.invariant.0.order c.self.invariant.0.blocks in
    let start = c.run_of-start.ensures.start ∙ ap (λ (xs : List Mapping). rank key (key_of c.args.fs 0) xs) c.deref.ensures.value in
    let end = c.run_of-start.ensures.end ∙ ap (λ (xs : List Mapping). rank key (key_of (c.args.fs + 1) 0) xs) c.deref.ensures.value in
    omega (arith, start, end, run.1, ap (λ (t : Thin). length (of_fs c.args.fs t.rows)) c.self.view_is)

pub returns-clause-few : goal.returns-clause-few
returns-clause-few c =
    omega (arith, c.run_of-start.ensures.within, ap (λ (xs : List Mapping). length xs) c.deref.ensures.value, ap (λ (t : Thin). length t.rows) c.self.view_is)
