use Rattle.std.proofs.Common.{length}
use Rattle.st_cachemap.specs.Cached.{Handed}
use Rattle.st_cachemap.proofs.cache_map.CacheMap.take_over.Given as goal

abbrev pub invariant-cells : goal.invariant-cells
invariant-cells l = Handed l.initial.self l.initial.other l.self l.other

abbrev pub decreases-cells : goal.decreases-cells
decreases-cells l = length l.other.entries
