use Rattle.std.proofs.Common.{◌≡◌, ◌+◌, ◌≤◌, drop}
use Rattle.st_thinmap.specs.Thin.{Fits, with_fresh}
use Rattle.st_thinmap.proofs.map.ThinMap.apply.Given as goal

abbrev pub invariant-loop-i : goal.invariant-loop-i
invariant-loop-i l = record {
  rest : Fits l.plan.fs (drop l.i l.plan.fresh) l.self.rows l.self.next;
  rows : with_fresh l.plan.fs (drop l.i l.plan.fresh) l.self.rows ≡ with_fresh l.plan.fs l.plan.fresh l.fn.self.rows;
  next : l.self.next ≡ l.fn.self.next + l.i;
  room : l.fn.self.room ≤ l.self.room + l.i;
}
