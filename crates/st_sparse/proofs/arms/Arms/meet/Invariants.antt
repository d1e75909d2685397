use Rattle.std.proofs.Common.{◌≡◌, ◌&&◌, ◌||◌, ◌++◌, map, take, drop}
use Rattle.std.specs.List.{list_any}
use Rattle.st_sparse.specs.Arms.{after_call, is_due, stops}
use Rattle.st_sparse.proofs.arms.Arms.meet.Given as goal

abbrev pub invariant-loop-i : goal.invariant-loop-i
invariant-loop-i l = record {
  each : l.self.list.items ≡ map (after_call l.fn.kind l.fn.sector l.fn.sectors) (take l.i l.fn.self.list.items) ++ drop l.i l.fn.self.list.items;
  fires : l.met.fires ≡ (l.fn.self.stopped || list_any (is_due l.fn.kind l.fn.sector l.fn.sectors) (take l.i l.fn.self.list.items));
  stops : l.met.stops ≡ (l.fn.self.stopped || list_any (λ a. is_due l.fn.kind l.fn.sector l.fn.sectors a && stops a) (take l.i l.fn.self.list.items));
}
