use Rattle.std.proofs.Common.{arith, length-drop}
use Rattle.std.proofs.lemmas.List.{take_rest}
use Rattle.std.proofs.Math.Seq.{take-add}
use Rattle.st_lines.proofs.Known.{Appends-more}
use Rattle.st_lines.proofs.put.put_all.Goals as goal

pub loop-done-preserved : goal.loop-done-preserved
loop-done-preserved g c =
    record {
      within = omega (arith, c.in_ok-count.ensures.bound, length-drop c.loop-done.done c.args.bytes.now);
      put = rw take-add (Appends-more _ _ _ _ _ c.loop-done.invariant.put (rw take_rest at c.in_ok-count.ensures.bytes));
      later = omega (arith, c.in_ok-count.ensures.cause.later);
    }
