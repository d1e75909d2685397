use Rattle.std.proofs.Common.{◌-◌, ◌≤◌, take, drop, ap₂, sym, ◌∙◌, rules, arith}
use Rattle.st_thinmap.proofs.Runs.{Run, run_is}
use Rattle.st_thinmap.proofs.order.own_rows.Goals as goal

run : (c : goal.After-run_of-start) → Run c.args.fs c.args.rows.now
run c = run_is c.args.fs 0 c.args.rows.now c.requires.order c.requires.blocks

starts : (c : goal.After-run_of-start) → c.run_of-start.result.0 ≤ c.run_of-start.result.1
starts c = omega (arith, (run c).order, c.run_of-start.ensures.start, c.run_of-start.ensures.end)

pub offset_bounds-rows-start : goal.offset_bounds-rows-start
offset_bounds-rows-start c = let le = starts c in search rules

pub slice_bounds-result-count : goal.slice_bounds-result-count
slice_bounds-result-count c = starts c

pub slice_bounds-result-start : goal.slice_bounds-result-start
slice_bounds-result-start c = let le = starts c in search rules

pub returns : goal.returns
returns c =
    ap₂ (λ e b. take (e - b) (drop b c.args.rows.now)) c.run_of-start.ensures.end c.run_of-start.ensures.start
    ∙ sym (run_is c.args.fs 0 c.args.rows.now c.requires.order c.requires.blocks).own
