use Rattle.std.proofs.Common.{◌<◌, ◌∙◌, ℕ, length, take, ap, arith}
use Rattle.st_recrows.proofs.RowsLemmas.{too_short, no_row}
use Rattle.st_recrows.proofs.row.read_rows.Goals as goal

pub returns-then-rest-WIDTH : goal.returns-then-rest-WIDTH
returns-then-rest-WIDTH g c =
    let long : 0 < length c.loop-rest.rest.now = grind (arith, c.is_empty.ensures, c.loop-rest-test.true) in
    too_short g.R.Row.fits g.R.Row.text g.R.Row.WIDTH g.met.R.Row.has_width g.met.R.Row.is_positive c.args.bytes.now c.loop-rest.rows c.loop-rest.rest.now
    c.loop-rest.invariant.0 c.loop-rest.invariant.1 long (omega arith)

pub returns-in-Err : goal.returns-in-Err
returns-in-Err g c =
    let long : 0 < length c.loop-rest.rest.now = grind (arith, c.is_empty.ensures, c.loop-rest-test.true) in
    no_row g.R.Row.fits g.R.Row.text g.R.Row.WIDTH g.met.R.Row.has_width g.met.R.Row.is_positive c.args.bytes.now c.loop-rest.rows c.loop-rest.rest.now c.split_at.result.0.now c.in-Err.fault
    c.loop-rest.invariant.0 c.loop-rest.invariant.1 long (c.split_at.ensures.front ∙ ap (λ (n : ℕ). take n c.loop-rest.rest.now) c.WIDTH-in-loop-rest.ensures) c.in-Err.ensures
