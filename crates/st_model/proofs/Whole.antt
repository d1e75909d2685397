-- a pool that is whole stays so where only other things change
use Rattle.std.proofs.Common.{◌≡◌, ℕ, ◌+◌, ◌<◌, ◌≤◌, ◌^◌, List, Option, Some, None, refl, sym, subst, arith}
use Rattle.std.specs.List.{AllByRecursion}
use Rattle.st_model.specs.declared.state.CacheState.{CacheState}
use Rattle.st_model.specs.declared.state.FsState.{FsState}
use Rattle.st_model.specs.declared.state.PoolMode.{PoolMode}
use Rattle.st_model.specs.declared.state.PoolState.{PoolState}
use Rattle.st_model.specs.ValidPool.{IsValidFs, IsCell, IsWhole, IsCacheOf, IsColdIfAny, IsHalted}
use Rattle.st_model.proofs.Lists.{All-weaker}
use Rattle.st_model.specs.Checks.{cold, cooled}

-- all that a map speaks of is the same
pub record IsAlike (p q : PoolState) : Type 0 where
  pub devices : q.devices ≡ p.devices
  pub filesystems : q.filesystems ≡ p.filesystems
  pub cells : q.cells ≡ p.cells
  pub next_cell : q.next_cell ≡ p.next_cell
  pub next_filesystem : q.next_filesystem ≡ p.next_filesystem
  pub allocated : q.allocated ≡ p.allocated

fs_alike : (p q : PoolState) → IsAlike p q → (fs : FsState) → IsValidFs p fs → IsValidFs q fs
fs_alike p q a fs h = record {
  from_one = h.from_one;
  below_next = rw a.next_filesystem h.below_next;
  size = h.size;
  limit = h.limit;
  origin = rw a.filesystems h.origin;
  mark = rw a.filesystems h.mark;
  map = h.map;
  mapped = All-weaker _ _ fs.map (λ entry m. record { within = m.within; from_one = m.from_one; below_next = rw a.next_cell m.below_next; kept = rw a.cells m.kept }) h.mapped;
}

pub whole-alike : (p q : PoolState) → IsAlike p q → p.commits ≤ q.commits → q.commits ≤ 2 ^ 48 → q.filesystem_limit ≤ 256 → IsCacheOf q q.cache → IsWhole p → IsWhole q
whole-alike p q a rise bounded limit cache h = record {
  devices = rw a.devices h.devices;
  ordered = rw a.filesystems h.ordered;
  filesystems = subst (λ (l : List FsState). AllByRecursion (IsValidFs q) l) (sym a.filesystems) (All-weaker _ _ p.filesystems (fs_alike p q a) h.filesystems);
  count = rw a.filesystems h.count;
  mappings = rw a.filesystems h.mappings;
  cell_map = rw a.cells h.cell_map;
  cells = subst (λ (l : List (ℕ × List ℕ)). AllByRecursion (λ (entry : ℕ × List ℕ). IsCell q entry.0 entry.1) l) (sym a.cells) (All-weaker _ _ p.cells (λ entry c. record { mapped = rw a.filesystems c.mapped; full = c.full }) h.cells);
  used = rw (a.cells, a.allocated) h.used;
  allocated = rw (a.allocated, a.devices) h.allocated;
  cell_from_one = rw a.next_cell h.cell_from_one;
  cell_bounded = rw a.next_cell (let old = h.cell_bounded in omega (arith, old, rise));
  filesystem_from_one = rw a.next_filesystem h.filesystem_from_one;
  filesystem_bounded = rw a.next_filesystem (let old = h.filesystem_bounded in omega (arith, old, rise));
  commits = bounded;
  limit = limit;
  cache = cache;
}

pub cache_alike : (p q : PoolState) → q.devices ≡ p.devices → q.cells ≡ p.cells → (o : Option CacheState) → IsCacheOf p o → IsCacheOf q o
cache_alike p q d c None h = rw d h
cache_alike p q d c (Some cache) h = record {
  on = rw d h.on;
  capacity = rw d h.capacity;
  few = h.few;
  distinct = h.distinct;
  kept = rw c h.kept;
  hits = h.hits;
  misses = h.misses;
}

cold_alike : (p q : PoolState) → IsAlike p q → (o : Option CacheState) → IsCacheOf p o → IsCacheOf q (cold o)
cold_alike p q a None h = rw a.devices h
cold_alike p q a (Some cache) h = record {
  on = rw a.devices h.on;
  capacity = rw a.devices h.capacity;
  few = omega arith;
  distinct = tt;
  kept = tt;
  hits = omega arith;
  misses = omega arith;
}

is_cold : (o : Option CacheState) → IsColdIfAny (cold o)
is_cold None = tt
is_cold (Some cache) = record { empty = refl; hits = refl; misses = refl }

pub same_parts : (p q : PoolState) → q.devices ≡ p.devices → q.filesystems ≡ p.filesystems → q.cells ≡ p.cells → q.next_cell ≡ p.next_cell → q.next_filesystem ≡ p.next_filesystem → q.allocated ≡ p.allocated → IsAlike p q
same_parts p q a b c d e f = record { devices = a; filesystems = b; cells = c; next_cell = d; next_filesystem = e; allocated = f }

pub cooled-halted : (p : PoolState) (mode : PoolMode) → IsWhole p → IsHalted (cooled mode p)
cooled-halted p mode h =
    let a = same_parts p (cooled mode p) refl refl refl refl refl refl in
    record {
      whole = whole-alike p (cooled mode p) a (omega arith) h.commits h.limit (cold_alike p (cooled mode p) a p.cache h.cache) h;
      cold = is_cold p.cache;
    }

-- another name, or another limit, with one commit more
pub whole-commit : (p q : PoolState) → IsAlike p q → q.commits ≡ p.commits + 1 → p.commits < 2 ^ 48 → q.filesystem_limit ≤ 256 → q.cache ≡ p.cache → IsWhole p → IsWhole q
whole-commit p q a one less limit same h =
    whole-alike p q a (rw one (omega arith)) (rw one (omega (arith, less))) limit (subst (λ (o : Option CacheState). IsCacheOf q o) (sym same) (cache_alike p q a.devices a.cells p.cache h.cache)) h

-- the same pool in another mode
pub moved-whole : (p : PoolState) (mode : PoolMode) → IsWhole p → IsWhole (record p { mode = mode })
moved-whole p mode h =
    let q : PoolState = record p { mode = mode } in
    whole-alike p q (same_parts p q refl refl refl refl refl refl) (omega arith) h.commits h.limit (cache_alike p q refl refl p.cache h.cache) h
