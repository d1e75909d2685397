-- a pool that is whole stays so with other filesystems, where these fit
use Rattle.std.proofs.Common.{◌≡◌, ℕ, ◌/◌, ◌<◌, ◌≤◌, ◌==◌, ◌||◌, List, [], ◌∷◌, length, Bool, true, false, cond, filter, Option, Some, None, refl, sym, ◌∙◌, subst, arith}
use Rattle.std.specs.List.{AllByRecursion, list_any, sum_by}
use Rattle.std.proofs.lemmas.Grind.{common_steps}
use Rattle.st_limits.specs.declared.TheConstants.{MAX_FILESYSTEMS, MAX_MAPPINGS, BLOCK_SECTORS}
use Rattle.st_model.specs.declared.state.CacheState.{CacheState}
use Rattle.st_model.specs.declared.state.FsState.{FsState}
use Rattle.st_model.specs.declared.state.PoolState.{PoolState}
use Rattle.st_model.specs.Merged.{is_mapped, with_filesystems}
use Rattle.st_model.specs.ValidPool.{EachPair, has_number, IsMap, IsSize, IsLimit, IsOrigin, IsMark, IsMapping, IsValidFs, AreFsPair, IsWhole, IsCacheOf}
use Rattle.st_model.proofs.Lists.{All-weaker, All-filter, EachPair-filter, filter-passes}
use Rattle.st_model.proofs.Among.{All-with}
use Rattle.st_model.proofs.Totals.{fewer}

-- all that is said of a filesystem among these, but that its cells are kept for it
pub record IsFitting (p : PoolState) (filesystems : List FsState) (fs : FsState) : Type 0 where
  pub from_one : 1 ≤ fs.row.serial
  pub below_next : fs.row.serial < p.next_filesystem
  pub size : IsSize fs.row.size
  pub limit : IsLimit fs.row.size fs.row.limit
  pub origin : IsOrigin filesystems fs.row.serial fs.row.origin
  pub mark : IsMark filesystems fs.row.merge fs.row.origin
  pub map : IsMap fs.map
  pub mapped : AllByRecursion (λ (entry : ℕ × ℕ). IsMapping p (fs.row.size / BLOCK_SECTORS) entry.0 entry.1) fs.map

or_left : (a b : Bool) → a ≡ true → (a || b) ≡ true
or_left true b h = refl
or_left false b h = absurd cc

or_right : (a b : Bool) → b ≡ true → (a || b) ≡ true
or_right true b h = refl
or_right false b h = h

same_number : (n : ℕ) → (n == n) ≡ true
same_number n = grind (arith, common_steps)

equal_numbers : (a b : ℕ) → (a == b) ≡ true → a ≡ b
equal_numbers a b h = grind (arith, common_steps)

own_cells : (entries : List (ℕ × ℕ)) → AllByRecursion (λ (entry : ℕ × ℕ). list_any (λ (e : ℕ × ℕ). e.1 == entry.1) entries ≡ true) entries
own_cells [] = tt
own_cells (e ∷ es) = (or_left (e.1 == e.1) _ (same_number e.1), All-weaker _ _ es (λ x h. or_right (e.1 == x.1) _ h) (own_cells es))

-- the cells of each filesystem are mapped
pub each_mapped : (filesystems : List FsState) → AllByRecursion (λ (fs : FsState). AllByRecursion (λ (entry : ℕ × ℕ). is_mapped filesystems entry.1 ≡ true) fs.map) filesystems
each_mapped [] = tt
each_mapped (fs ∷ filesystems) = (
  All-weaker _ _ fs.map (λ entry h. or_left (list_any (λ (e : ℕ × ℕ). e.1 == entry.1) fs.map) _ h) (own_cells fs.map),
  All-weaker _ _ filesystems (λ (other : FsState) h. All-weaker _ _ other.map (λ entry g. or_right (list_any (λ (e : ℕ × ℕ). e.1 == entry.1) fs.map) _ g) h) (each_mapped filesystems),
)

-- a number that passes keeps its entry
kept_number : (f : ℕ → Bool) (n : ℕ) (cells : List (ℕ × List ℕ)) → f n ≡ true → has_number n cells ≡ true → has_number n (filter (λ (entry : ℕ × List ℕ). f entry.0) cells) ≡ true
kept_number f n [] h g = absurd cc
kept_number f n (c ∷ cells) h g = here (c.0 == n) refl (f c.0) refl g (kept_number f n cells h)
  where
    rest : List (ℕ × List ℕ)
    rest = filter (λ (entry : ℕ × List ℕ). f entry.0) cells

    clash : (b : Bool) → b ≡ false → b ≡ true → true ≡ false
    clash b x y = sym y ∙ x

    here : (a : Bool) → (c.0 == n) ≡ a → (b : Bool) → f c.0 ≡ b → (a || has_number n cells) ≡ true → (has_number n cells ≡ true → has_number n rest ≡ true)
        → has_number n (cond b (c ∷ rest) rest) ≡ true
    here a e true k g t = here_kept a e g t
      where
        here_kept : (a : Bool) → (c.0 == n) ≡ a → (a || has_number n cells) ≡ true → (has_number n cells ≡ true → has_number n rest ≡ true) → ((c.0 == n) || has_number n rest) ≡ true
        here_kept true e g t = or_left (c.0 == n) _ e
        here_kept false e g t = or_right (c.0 == n) _ (t g)
    here true e false k g t = absurd (let same : c.0 ≡ n = equal_numbers c.0 n e in let off : f n ≡ false = subst (λ (m : ℕ). f m ≡ false) same k in let bad = clash (f n) off h in cc)
    here false e false k g t = t g

pub fitting-valid : (p : PoolState) (filesystems : List FsState) (fs : FsState) → IsFitting p filesystems fs → AllByRecursion (λ (entry : ℕ × ℕ). is_mapped filesystems entry.1 ≡ true) fs.map → IsValidFs (with_filesystems filesystems p) fs
fitting-valid p filesystems fs h m = record {
  from_one = h.from_one;
  below_next = h.below_next;
  size = h.size;
  limit = h.limit;
  origin = h.origin;
  mark = h.mark;
  map = h.map;
  mapped = All-with _ _ _ fs.map (λ entry a b. record { within = a.within; from_one = a.from_one; below_next = a.below_next; kept = kept_number (is_mapped filesystems) entry.1 p.cells b a.kept }) h.mapped m;
}

pub cache_kept : (p : PoolState) (filesystems : List FsState) (o : Option CacheState) → IsCacheOf p o
    → IsCacheOf (with_filesystems filesystems p) (Rattle.std.specs.Prelude.option_map (λ (cache : CacheState). record cache { cells = filter (is_mapped filesystems) cache.cells }) o)
cache_kept p filesystems None h = h
cache_kept p filesystems (Some cache) h =
    let less = fewer (is_mapped filesystems) cache.cells in
    let few = h.few in
    record {
      on = h.on;
      capacity = h.capacity;
      few = omega (arith, less, few);
      distinct = EachPair-filter _ (is_mapped filesystems) cache.cells h.distinct;
      kept = All-with _ _ _ (filter (is_mapped filesystems) cache.cells) (λ cell a b. kept_number (is_mapped filesystems) cell p.cells b a)
          (All-filter _ (is_mapped filesystems) cache.cells h.kept) (filter-passes (is_mapped filesystems) cache.cells);
      hits = h.hits;
      misses = h.misses;
    }

pub whole-replaced : (p : PoolState) (filesystems : List FsState) → EachPair AreFsPair filesystems → AllByRecursion (IsFitting p filesystems) filesystems → length filesystems ≤ MAX_FILESYSTEMS
    → sum_by (λ (fs : FsState). length fs.map) filesystems ≤ MAX_MAPPINGS → IsWhole p → IsWhole (with_filesystems filesystems p)
whole-replaced p filesystems ordered fits count maps h =
    let less = fewer (λ (entry : ℕ × List ℕ). is_mapped filesystems entry.0) p.cells in
    let few = h.used in
    record {
      devices = h.devices;
      ordered = ordered;
      filesystems = All-with _ _ _ filesystems (fitting-valid p filesystems) fits (each_mapped filesystems);
      count = count;
      mappings = maps;
      cell_map = EachPair-filter _ (λ (entry : ℕ × List ℕ). is_mapped filesystems entry.0) p.cells h.cell_map;
      cells = All-with _ _ _ (filter (λ (entry : ℕ × List ℕ). is_mapped filesystems entry.0) p.cells) (λ entry a b. record { mapped = b; full = a.full })
          (All-filter _ (λ (entry : ℕ × List ℕ). is_mapped filesystems entry.0) p.cells h.cells) (filter-passes (λ (entry : ℕ × List ℕ). is_mapped filesystems entry.0) p.cells);
      used = omega (arith, less, few);
      allocated = h.allocated;
      cell_from_one = h.cell_from_one;
      cell_bounded = h.cell_bounded;
      filesystem_from_one = h.filesystem_from_one;
      filesystem_bounded = h.filesystem_bounded;
      commits = h.commits;
      limit = h.limit;
      cache = cache_kept p filesystems p.cache h.cache;
    }
