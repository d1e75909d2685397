use Rattle.std.proofs.Common.{◌≡◌}
use Rattle.bench_commit.specs.Fit.{Fit}
use Rattle.bench_commit.proofs.commits.commit_often.Given as goal

abbrev pub invariant-loop : goal.invariant-loop
invariant-loop g l = record {
  devs : g.R.Rack.devs l.rack ≡ g.R.Rack.devs l.fn.rack;
  fit : Fit l.pool l.flex l.texts;
}
