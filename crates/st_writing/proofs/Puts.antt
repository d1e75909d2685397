-- what is carried from stretch to stretch is what the puts of a write make
use Rattle.std.proofs.Common.{◌≡◌, ℕ, ◌+◌, ◌*◌, ◌<◌, ◌≤◌, List, [], ◌∷◌, take, drop, get_or, slice_get, length, map, Bool, true, false, Option, Some, None, option_map, refl, sym, ap, ◌∙◌, arith}
use Rattle.std.proofs.lemmas.List.{drop_more}
use Rattle.std.specs.Ordering.{nat_cmp}
use Rattle.std.specs.BTreeMap.{insert_entry}
use Rattle.st_limits.specs.Sums.{takes_cell}
use Rattle.st_limits.specs.declared.TheConstants.{SECTOR_BYTES}
use Rattle.st_model.specs.declared.state.CacheState.{CacheState}
use Rattle.st_model.specs.declared.state.FsState.{FsState}
use Rattle.st_model.specs.declared.state.PoolState.{PoolState}
use Rattle.st_model.specs.Content.{Stretch, block_bytes, mapped_cells}
use Rattle.st_model.specs.InPlace.{over}
use Rattle.st_model.specs.Merged.{with_filesystems}
use Rattle.st_model.specs.steps.FsWrite.{Put, in_front, puts, with_blocks, with_cells, with_map, written}
use Rattle.st_writing.specs.declared.carried.Carried.{Carried}
use Rattle.st_writing.specs.inner.Carry.{begins, cache_put, carried, carried_on, cell_for, next_after, with_put}
use Rattle.st_writing.specs.inner.Plans.{taking}

abbrev pub cache_puts : List Put → CacheState → CacheState
cache_puts qs cache = record cache { cells = in_front qs cache.cells }

abbrev pub pool_puts : List Put → PoolState → PoolState
pool_puts qs p = record p { cells = with_cells qs p.cells; cache = option_map (cache_puts qs) p.cache }

no_puts : (cache : Option CacheState) → cache ≡ option_map (cache_puts []) cache
no_puts None = refl
no_puts (Some cache) = refl

put_first : (q : Put) (qs : List Put) (cache : Option CacheState) → option_map (cache_puts qs) (option_map (cache_put q.cell) cache) ≡ option_map (cache_puts (q ∷ qs)) cache
put_first q qs None = refl
put_first q qs (Some cache) = refl

pool_first : (q : Put) (qs : List Put) (p : PoolState) → pool_puts qs (with_put q.cell q.bytes p) ≡ pool_puts (q ∷ qs) p
pool_first q qs p = ap (λ (o : Option CacheState). record p { cells = with_cells (q ∷ qs) p.cells; cache = o }) (put_first q qs p.cache)

module _ (p : PoolState) (fs : FsState) where
  -- what a stretch puts
  abbrev put_of : Stretch → List ℕ → ℕ → Put
  put_of s bytes next = record {
    block = s.block;
    cell = cell_for fs (takes_cell fs.map (mapped_cells p.filesystems) s.block) s.block next;
    bytes = over (block_bytes p fs s.block) (SECTOR_BYTES * s.at) (take (SECTOR_BYTES * s.sectors) bytes);
  }

  pub carried_map : (ss : List Stretch) (bytes : List ℕ) (c : Carried) → (carried p fs ss bytes c).map ≡ with_blocks (puts p fs c.next bytes ss) c.map
  unfolding carried_on
  carried_map [] bytes c = refl
  carried_map (s ∷ ss) bytes c = carried_map ss (drop (SECTOR_BYTES * s.sectors) bytes) (carried_on p fs s (take (SECTOR_BYTES * s.sectors) bytes) c)

  pub carried_pool : (ss : List Stretch) (bytes : List ℕ) (c : Carried) → (carried p fs ss bytes c).pool ≡ pool_puts (puts p fs c.next bytes ss) c.pool
  unfolding carried_on
  carried_pool [] bytes c = ap (λ (o : Option CacheState). record c.pool { cache = o }) (no_puts c.pool.cache)
  carried_pool (s ∷ ss) bytes c =
      let next = next_after (takes_cell fs.map (mapped_cells p.filesystems) s.block) c.next in
      let left = drop (SECTOR_BYTES * s.sectors) bytes in
      carried_pool ss left (carried_on p fs s (take (SECTOR_BYTES * s.sectors) bytes) c)
      ∙ pool_first (put_of s bytes c.next) (puts p fs next left ss) c.pool

  next_most : (b : Bool) (n : ℕ) → next_after b n ≤ n + 1
  next_most true n = omega arith
  next_most false n = omega arith

  pub next_on : (s : Stretch) (bytes : List ℕ) (c : Carried) → (carried_on p fs s bytes c).next ≤ c.next + 1
  unfolding carried_on
  next_on s bytes c = next_most (takes_cell fs.map (mapped_cells p.filesystems) s.block) c.next

-- the pool after a write, from what was carried behind the last stretch
pub finished_so : (p : PoolState) (fs : FsState) (ss : List Stretch) (bytes : List ℕ) (taken : ℕ)
    → with_filesystems (map (with_map fs.row.serial (carried p fs ss bytes (begins p fs)).map) p.filesystems) (taking taken (carried p fs ss bytes (begins p fs)).pool)
    ≡ written fs (puts p fs p.next_cell bytes ss) taken p
finished_so p fs ss bytes taken =
    let qs = puts p fs p.next_cell bytes ss in
    ap (λ (m : List (ℕ × ℕ)). with_filesystems (map (with_map fs.row.serial m) p.filesystems) (taking taken (carried p fs ss bytes (begins p fs)).pool)) (carried_map p fs ss bytes (begins p fs))
    ∙ ap (λ (q : PoolState). with_filesystems (map (with_map fs.row.serial (with_blocks qs fs.map)) p.filesystems) (taking taken q)) (carried_pool p fs ss bytes (begins p fs))

-- what is carried keeps the counts of the pool
pub counts_stay : (p : PoolState) (fs : FsState) (ss : List Stretch) (bytes : List ℕ)
    → ((carried p fs ss bytes (begins p fs)).pool.next_cell ≡ p.next_cell) × ((carried p fs ss bytes (begins p fs)).pool.commits ≡ p.commits)
counts_stay p fs ss bytes =
    let same = carried_pool p fs ss bytes (begins p fs) in
    (ap (λ (q : PoolState). q.next_cell) same, ap (λ (q : PoolState). q.commits) same)

-- one stretch more is carried
pub more_carried : (p : PoolState) (fs : FsState) (ss : List Stretch) (i : ℕ) (s : Stretch) (left after : List ℕ) (c d : Carried) → i < length ss → s ≡ get_or ss i s
    → after ≡ drop (SECTOR_BYTES * s.sectors) left → d ≡ carried_on p fs s (take (SECTOR_BYTES * s.sectors) left) c
    → carried p fs (drop (i + 1) ss) after d ≡ carried p fs (drop i ss) left c
more_carried p fs ss i s left after c d lt is rest done =
    let parts : drop i ss ≡ s ∷ drop (i + 1) ss = drop_more ss i s lt ∙ ap (λ (x : Stretch). x ∷ drop (i + 1) ss) (sym is) in
    ap (λ (l : List ℕ). carried p fs (drop (i + 1) ss) l d) rest
    ∙ ap (λ (x : Carried). carried p fs (drop (i + 1) ss) (drop (SECTOR_BYTES * s.sectors) left) x) done
    ∙ ap (λ (l : List Stretch). carried p fs l left c) (sym parts)

-- a list of one
pub first_same : (p q : PoolState) → p ∷ [] ≡ q ∷ [] → p ≡ q
first_same p q e = cc

pub one_long : (cs : List Carried) (q : PoolState) → map (λ (c : Carried). c.pool) cs ≡ q ∷ [] → length cs ≡ 1
one_long [] q e = absurd cc
one_long (c ∷ []) q e = refl
one_long (c ∷ d ∷ cs) q e = absurd (let bad : d.pool ∷ map (λ (x : Carried). x.pool) cs ≡ [] = cc in cc)

pub only_one : (cs : List Carried) (c : Carried) → length cs ≡ 1 → slice_get cs 0 ≡ Some c → map (λ (x : Carried). x.pool) cs ≡ c.pool ∷ []
only_one [] c n h = absurd cc
only_one (d ∷ []) c n h = let same : d ≡ c = cc in ap (λ (x : Carried). x.pool ∷ []) same
only_one (d ∷ e ∷ cs) c n h = absurd (omega (arith, n))
