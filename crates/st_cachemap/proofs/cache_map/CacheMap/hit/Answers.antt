use Rattle.std.proofs.Common.{refl}
use Rattle.st_cachemap.proofs.Calls.{IsCached-from}
use Rattle.st_cachemap.proofs.cache_map.CacheMap.hit.Goals as goal

pub returns-clause-valid : goal.returns-clause-valid
returns-clause-valid c = IsCached-from c.self.invariant refl
