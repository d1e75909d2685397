use Rattle.std.proofs.Common.{◌≤◌, ℕ, ap, subst}
use Rattle.st_cachemap.specs.Cached.{Cached}
use Rattle.st_cachemap.proofs.Keeps.{len_fits}
use Rattle.st_cachemap.proofs.cache_map.CacheMap.len.Goals as goal

pub returns-clause-fits : goal.returns-clause-fits
returns-clause-fits c = subst (λ (k : ℕ). c.self.inside.len ≤ k) (ap (λ (v : Cached). v.capacity) c.self.view_is) (len_fits c.self.invariant)
