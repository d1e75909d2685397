use Rattle.std.proofs.Common.{◌≡◌, ◌++◌, ◌∷◌, [], ◌∙◌}
use Rattle.st_begin.proofs.Beginning.{one_row}
use Rattle.st_begin.proofs.rows.rows_of.Goals as goal

pub loop-i-preserved : goal.loop-i-preserved
loop-i-preserved g c = record {
  rows = c.in-Ok.ensures.ok ∙ (λ j. c.loop-i.invariant.rows j ++ c.in_ok-row.row ∷ []) ∙ one_row (g.R.Rack.devs c.args.rack.now) c.loop-i.i c.in_ok-row.row c.in_ok-row.ensures;
}
