use Rattle.std.proofs.Common.{◌≡◌, ◌||◌, drop}
use Rattle.st_model.specs.Look.{Text, has_path}
use Rattle.st_order.specs.Sorted.{IsRising}
use Rattle.st_table.proofs.sorted.in_order.Given as goal

abbrev pub invariant-loop-path : goal.invariant-loop-path
invariant-loop-path l = record {
  rising : IsRising l.list;
  same : (p : Text) → (has_path p l.list || has_path p (drop l.path-index l.paths)) ≡ has_path p l.paths;
}
