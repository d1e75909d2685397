use Rattle.std.proofs.Common.{◌≡◌, ℕ, ◌+◌, ◌-◌, ◌/◌, arith}
use Rattle.st_thinmap.specs.declared.uses.Use.{Use}
use Rattle.st_thinmap.specs.inner.Uses.{place}
use Rattle.st_thinmap.proofs.Rising.{rank-within}
use Rattle.st_thinmap.proofs.Table.{low_up, high_down, free_there}
use Rattle.st_thinmap.proofs.uses.gap.Goals as goal

pub loop-low-init : goal.loop-low-init
loop-low-init c = record {
  from = omega arith;
  order = omega (arith, c.requires.start, rank-within place c.args.from c.args.uses.now, c.requires.within);
  most = omega arith;
  rank = c.requires.start;
  high = λ d inside. absurd (omega arith);
}

pub loop-low-preserved-then-uses-middle : goal.loop-low-preserved-then-uses-middle
loop-low-preserved-then-uses-middle c =
    let i = c.loop-low.invariant in
    let middle : ℕ = c.loop-low.low + (c.loop-low.high - c.loop-low.low) / 2 in
    record {
      from = omega (arith, i.from);
      order = omega (arith, c.loop-low-test.true);
      most = i.most;
      rank = low_up c.args.uses.now c.loop-low.low c.args.taken c.requires.table (omega (arith, i.from, c.requires.within)) i.rank middle _ (omega arith) (omega (arith, i.most, i.from, c.requires.within, c.loop-low-test.true)) c.if-uses-middle.true;
      high = i.high;
    }

pub loop-low-preserved : goal.loop-low-preserved
loop-low-preserved c =
    let i = c.loop-low.invariant in
    let middle : ℕ = c.loop-low.low + (c.loop-low.high - c.loop-low.low) / 2 in
    record {
      from = i.from;
      order = omega (arith, c.loop-low-test.true);
      most = omega (arith, i.most, c.loop-low-test.true);
      rank = i.rank;
      high = λ d inside. high_down c.args.uses.now c.loop-low.low c.args.taken middle _ d c.requires.table (omega (arith, i.from, c.requires.within)) i.rank (omega arith) inside c.if-uses-middle.false;
    }

pub returns-clause-free : goal.returns-clause-free
returns-clause-free c =
    let i = c.loop-low.invariant in
    let d : Use = record { place = 0; count = 0 } in
    let same : c.loop-low.low ≡ c.loop-low.high = omega (arith, c.loop-low-test.false, i.order) in
    free_there c.args.uses.now c.loop-low.low (c.loop-low.low - c.args.taken) d c.requires.table i.rank (λ inside. rw same (i.high d (rw (← same) inside)))
