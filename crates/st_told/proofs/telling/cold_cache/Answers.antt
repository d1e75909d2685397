use Rattle.std.proofs.Common.{◌≡◌, Some, sym, ◌∙◌}
use Rattle.st_told.proofs.Small.{cached, uncached}
use Rattle.st_told.proofs.telling.cold_cache.Goals as goal

pub returns-then-has_cache : goal.returns-then-has_cache
returns-then-has_cache c =
    (λ i. Some (record { capacity = c.cache_capacity.ensures i; cells = c.make.ensures i; hits = 0; misses = 0 }))
    ∙ sym (cached c.args.rows.now (sym c.has_cache.ensures ∙ c.if-has_cache.true))

pub returns-else-has_cache : goal.returns-else-has_cache
returns-else-has_cache c = sym (uncached c.args.rows.now (sym c.has_cache.ensures ∙ c.if-has_cache.false))
