use Rattle.std.proofs.Common.{◌≡◌, length, ap, arith}
use Rattle.st_cachemap.specs.Cached.{Cached}
use Rattle.st_cachemap.proofs.Calls.{IsCached-from}
use Rattle.st_cachemap.proofs.cache_map.CacheMap.grow.Goals as goal

pub make-requires : goal.make-requires
make-requires c =
    let cap : length c.self.inside.cells.items ≡ c.args.self.now.capacity = ap (λ (v : Cached). v.capacity) c.self.view_is in
    omega (arith, c.self.invariant.some, cap, c.requires)

pub take_over-requires-clause-valid : goal.take_over-requires-clause-valid
take_over-requires-clause-valid c = IsCached-from c.self.invariant c.self.view_is
