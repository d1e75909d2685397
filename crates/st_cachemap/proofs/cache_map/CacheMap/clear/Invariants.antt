use Rattle.std.proofs.Common.{◌≡◌, length}
use Rattle.st_cachemap.proofs.cache_map.CacheMap.clear.Given as goal

abbrev pub invariant-cells : goal.invariant-cells
invariant-cells l = l.self.capacity ≡ l.initial.self.capacity

abbrev pub decreases-cells : goal.decreases-cells
decreases-cells l = length l.self.entries
