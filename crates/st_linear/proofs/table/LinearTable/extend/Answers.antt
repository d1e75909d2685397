use Rattle.std.proofs.Common.{◌≡◌, ◌+◌, length, sym, subst, ap, arith}
use Rattle.std.proofs.lemmas.List.{length-append}
use Rattle.st_seg.specs.Blocks.{NoneTwice, blocks_of}
use Rattle.st_linear.specs.Runs.{AreRuns, blocks_of_runs}
use Rattle.st_linear.proofs.Runs.{AreRuns-append, table_fits, joined}
use Rattle.st_linear.proofs.table.LinearTable.extend.Goals as goal

pub runs_from-requires-clause-fits : goal.runs_from-requires-clause-fits
runs_from-requires-clause-fits c =
    omega (
      arith,
      table_fits c.self.inside.runs.items c.args.segments.now _ c.self.invariant.0 c.requires.segments c.self.view_is c.requires.apart,
      ap (λ s. length (blocks_of s)) c.items.ensures,
    )

pub invariant_of-self-2 : goal.invariant_of-self-2
invariant_of-self-2 c =
    let xs = c.self.inside.runs.items in
    let ys = c.in_ok-runs.runs.items in
    let whole = joined xs ys c.args.segments.now c.items.result.now _ c.self.view_is c.in_ok-runs.ensures.blocks c.items.ensures in
    let begin : c.self.inside.blocks ≡ 0 + length (blocks_of_runs xs) = omega (arith, c.self.invariant.1) in
    rw c.in_ok-append.ensures.items (
      AreRuns-append 0 xs ys c.self.invariant.0 (subst (λ n. AreRuns n ys) begin c.in_ok-runs.ensures.runs),
      omega (arith, c.self.invariant.1, c.in_ok-runs.ensures.end, ap length whole, length-append (blocks_of_runs xs) (blocks_of c.args.segments.now), ap length c.self.view_is, length-append c.args.self.now (blocks_of c.args.segments.now), ap (λ s. length (blocks_of s)) c.items.ensures),
      subst NoneTwice (sym whole) c.requires.apart,
    )
