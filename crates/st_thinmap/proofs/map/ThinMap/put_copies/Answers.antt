use Rattle.std.proofs.Common.{◌≡◌, ◌+◌, ◌-◌, ◌<◌, ◌++◌, List, length, map, take, drop, sym, ap, ap₂, subst, ◌∙◌, arith}
use Rattle.std.specs.List.{All}
use Rattle.st_thinmap.specs.declared.mapping.Mapping.{Mapping}
use Rattle.st_thinmap.specs.Order.{key, key_of}
use Rattle.st_thinmap.specs.Thin.{Thin, IsThin, of_fs, with_fs}
use Rattle.st_thinmap.specs.inner.Rank.{rank}
use Rattle.st_thinmap.proofs.Runs.{run_is, run_length}
use Rattle.st_thinmap.proofs.Copying.{IsThin-snapshot}
use Rattle.st_thinmap.proofs.map.ThinMap.put_copies.Goals as goal

pub copy_rows-requires-clause-order : goal.copy_rows-requires-clause-order
copy_rows-requires-clause-order c =
    let s = c.self.inside in
    let run = run_length c.args.origin s.rows.items c.self.invariant.0.order c.self.invariant.0.blocks in
    let start = c.run_of-start.ensures.start ∙ ap (λ (xs : List Mapping). rank key (key_of c.args.origin 0) xs) c.deref.ensures.value in
    let end = c.run_of-start.ensures.end ∙ ap (λ (xs : List Mapping). rank key (key_of (c.args.origin + 1) 0) xs) c.deref.ensures.value in
    omega (arith, start, end, run.0)

pub copy_rows-requires-clause-few : goal.copy_rows-requires-clause-few
copy_rows-requires-clause-few c =
    let s = c.self.inside in
    let run = run_length c.args.origin s.rows.items c.self.invariant.0.order c.self.invariant.0.blocks in
    let start = c.run_of-start.ensures.start ∙ ap (λ (xs : List Mapping). rank key (key_of c.args.origin 0) xs) c.deref.ensures.value in
    let end = c.run_of-start.ensures.end ∙ ap (λ (xs : List Mapping). rank key (key_of (c.args.origin + 1) 0) xs) c.deref.ensures.value in
    omega (arith, start, end, run.1, c.requires.few, s.rows.ok.0, ap (λ (t : Thin). length t.rows) c.self.view_is, ap (λ (t : Thin). length (of_fs c.args.origin t.rows)) c.self.view_is)

pub copy_rows-requires-clause-room : goal.copy_rows-requires-clause-room
copy_rows-requires-clause-room c =
    let s = c.self.inside in
    let run = run_length c.args.origin s.rows.items c.self.invariant.0.order c.self.invariant.0.blocks in
    let start = c.run_of-start.ensures.start ∙ ap (λ (xs : List Mapping). rank key (key_of c.args.origin 0) xs) c.deref.ensures.value in
    let end = c.run_of-start.ensures.end ∙ ap (λ (xs : List Mapping). rank key (key_of (c.args.origin + 1) 0) xs) c.deref.ensures.value in
    omega (arith, start, end, run.0, run.1, c.requires.room, s.rows.ok.0, s.rows.ok.1, ap (λ (t : Thin). t.room) c.self.view_is, ap (λ (t : Thin). length (of_fs c.args.origin t.rows)) c.self.view_is)

rows_are : (c : goal.After-copy_rows) → c.copy_rows.new.rows.items ≡ c.self.inside.rows.items ++ map (with_fs c.args.fs) (of_fs c.args.origin c.self.inside.rows.items)
rows_are c =
    let s = c.self.inside in
    let rows = s.rows.items in
    let run = run_is c.args.origin 0 rows c.self.invariant.0.order c.self.invariant.0.blocks in
    let start = c.run_of-start.ensures.start ∙ ap (λ (xs : List Mapping). rank key (key_of c.args.origin 0) xs) c.deref.ensures.value in
    let end = c.run_of-start.ensures.end ∙ ap (λ (xs : List Mapping). rank key (key_of (c.args.origin + 1) 0) xs) c.deref.ensures.value in
    c.copy_rows.ensures.rows
    ∙ ap₂ (λ e b. rows ++ map (with_fs c.args.fs) (take (e - b) (drop b rows))) end start
    ∙ ap (λ (xs : List Mapping). rows ++ map (with_fs c.args.fs) xs) (sym run.own)

pub invariant_of-self : goal.invariant_of-self
invariant_of-self c =
    let s = c.self.inside in
    let rows_is : c.args.self.now.rows ≡ s.rows.items = ap (λ (t : Thin). t.rows) (sym c.self.view_is) in
    let above = subst (λ (xs : List Mapping). All (λ (m : Mapping). m.fs < c.args.fs) xs) rows_is c.requires.above in (
      subst (λ (xs : List Mapping). IsThin xs s.next) (sym (rows_are c))
          (IsThin-snapshot c.args.origin c.args.fs s.next s.rows.items c.self.invariant.0 above (omega (arith, c.requires.few, ap length rows_is, ap (λ (xs : List Mapping). length (of_fs c.args.origin xs)) rows_is))),
      c.copy_rows.ensures.tied,
    )

pub returns-clause-rows : goal.returns-clause-rows
returns-clause-rows c =
    rows_are c ∙ ap (λ (t : Thin). t.rows ++ map (with_fs c.args.fs) (of_fs c.args.origin t.rows)) c.self.view_is
