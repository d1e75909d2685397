use Rattle.std.proofs.Common.{◌≡◌, ℕ, true, length, slice_index, MatchOption}
use Rattle.st_limits.specs.Cache.{has}
use Rattle.st_links.specs.Arena.{row}
use Rattle.st_cachemap.proofs.Chain.{left_of}
use Rattle.st_cachemap.proofs.cache_map.CacheMap.peek.Given as goal

-- the place stands in the bucket, and the cell's place, if the bucket has it, is among those that are left
abbrev pub invariant-chain : goal.invariant-chain
invariant-chain l =
    let bucket = row l.self-inside.buckets.lists l.bucket in
    MatchOption l.at (Unit {0}) (λ p. has p bucket ≡ true)
    × ((q : ℕ) → has q bucket ≡ true → slice_index l.self-inside.cells.items q ≡ l.cell → has q (left_of l.at bucket) ≡ true)

abbrev pub decreases-chain : goal.decreases-chain
decreases-chain l = length (left_of l.at (row l.self-inside.buckets.lists l.bucket))
