-- FsRead keeps its pool whole, and is answered whatever the cache holds
use Rattle.std.proofs.Common.{◌≡◌, ℕ, ◌+◌, ◌^◌, ◌<◌, List, [], ◌∷◌, Bool, true, false, cond, Option, Some, None, option_map, refl, sym, subst, arith}
use Rattle.std.specs.Prelude.{nat_eq}
use Rattle.std.specs.List.{AllByRecursion, cons_option}
use Rattle.std.proofs.Math.Nat.{min-le_right}
use Rattle.st_limits.specs.Cache.{has, counted}
use Rattle.st_model.specs.declared.reply.Reply.{Reply}
use Rattle.st_model.specs.declared.state.CacheState.{CacheState}
use Rattle.st_model.specs.declared.state.FsState.{FsState}
use Rattle.st_model.specs.declared.state.PoolState.{PoolState}
use Rattle.st_model.specs.Answer.{first_answer, unless_answered}
use Rattle.st_model.specs.Checks.{fs_at, in_fs}
use Rattle.st_model.specs.Look.{Text}
use Rattle.st_model.specs.ValidPool.{has_number, IsCacheOf, IsValidCache, IsWhole}
use Rattle.st_model.proofs.Among.{IsIn}
use Rattle.st_model.proofs.Answers0.{whole_unless}
use Rattle.st_model.proofs.Lists.{All-weaker}
use Rattle.st_model.proofs.ValidFields.{in_whole}
use Rattle.st_model.proofs.Whole.{same_parts, whole-alike}
use Rattle.st_model.specs.Content.{cell_at, touched}
use Rattle.st_model.specs.steps.FsRead.{cells_read, fs_read, read_answers, read_fs, with_read, with_reads}
use Rattle.st_model.proofs.Inserted.{lookup-holds}
use Rattle.st_model.proofs.ValidMerge.{valid_in}
use Rattle.st_model.proofs.Promoted.{touched-all, touched-distinct, touched-length}

counted-few : (n : ℕ) → counted n < 2 ^ 64
counted-few n = let least = min-le_right (n + 1) 18446744073709551615 in omega (arith, least)

read-valid : (p : PoolState) (cell : ℕ) (cache : CacheState) → has_number cell p.cells ≡ true → IsValidCache p cache → IsValidCache p (with_read cell cache)
read-valid p cell cache there h = record {
  on = h.on;
  capacity = h.capacity;
  few = touched-length cache.capacity cell cache.cells;
  distinct = touched-distinct cache.capacity cell cache.cells h.distinct;
  kept = touched-all (λ c. has_number c p.cells ≡ true) cache.capacity cell cache.cells there h.kept;
  hits = if_hit (has cell cache.cells);
  misses = if_miss (has cell cache.cells);
}
  where
    if_hit : (b : Bool) → cond b (counted cache.hits) cache.hits < 2 ^ 64
    if_hit true = counted-few cache.hits
    if_hit false = h.hits

    if_miss : (b : Bool) → cond b cache.misses (counted cache.misses) < 2 ^ 64
    if_miss true = h.misses
    if_miss false = counted-few cache.misses

reads-valid : (p : PoolState) (cells : List ℕ) (cache : CacheState) → AllByRecursion (λ c. has_number c p.cells ≡ true) cells → IsValidCache p cache → IsValidCache p (with_reads cells cache)
reads-valid p [] cache there h = h
reads-valid p (cell ∷ cells) cache there h = reads-valid p cells (with_read cell cache) there.1 (read-valid p cell cache there.0 h)

cells_read-kept : (p : PoolState) (fs : FsState) (blocks : List ℕ) → AllByRecursion (λ (e : ℕ × ℕ). has_number e.1 p.cells ≡ true) fs.map → AllByRecursion (λ c. has_number c p.cells ≡ true) (cells_read fs blocks)
cells_read-kept p fs [] h = tt
cells_read-kept p fs (block ∷ blocks) h = here (cell_at block fs.map) refl (cells_read-kept p fs blocks h)
  where
    here : (o : Option ℕ) → cell_at block fs.map ≡ o → AllByRecursion (λ c. has_number c p.cells ≡ true) (cells_read fs blocks) → AllByRecursion (λ c. has_number c p.cells ≡ true) (cons_option o (cells_read fs blocks))
    here None e rest = rest
    here (Some cell) e rest = (lookup-holds (λ c. has_number c p.cells ≡ true) (nat_eq block) fs.map cell h e, rest)

read_cache : (p q : PoolState) (cells : List ℕ) (o : Option CacheState) → q.devices ≡ p.devices → q.cells ≡ p.cells → AllByRecursion (λ c. has_number c p.cells ≡ true) cells → IsCacheOf p o → IsCacheOf q (option_map (with_reads cells) o)
read_cache p q cells None d c there h = rw d h
read_cache p q cells (Some cache) d c there h = Rattle.st_model.proofs.Whole.cache_alike p q d c (Some (with_reads cells cache)) (reads-valid p cells cache there h)

read_fs-whole : (sector n : ℕ) (fs : FsState) (p : PoolState) → IsIn fs p.filesystems → IsWhole p → IsWhole (read_fs sector n fs p).1
read_fs-whole sector n fs p i h =
    let cells = cells_read fs (touched sector n) in
    let q : PoolState = record p { cache = option_map (with_reads cells) p.cache } in
    let v = valid_in p fs p.filesystems i h.filesystems in
    whole_unless (first_answer (read_answers fs sector n)) p (_, q) h (λ none.
    whole-alike p q (same_parts p q refl refl refl refl refl refl) (omega arith) h.commits h.limit
    (read_cache p q cells p.cache refl refl (cells_read-kept p fs (touched sector n) (All-weaker _ _ fs.map (λ (e : ℕ × ℕ) m. m.kept) v.mapped)) h.cache) h)

pub fs_read-whole : (name : Text) (sector n : ℕ) (p : PoolState) → IsWhole p → IsWhole (fs_read name sector n p).1
unfolding fs_read
fs_read-whole name sector n p h = in_whole (read_fs sector n) name p h (λ fs i. read_fs-whole sector n fs p i h)

-- the code that a pool of the same filesystems gives
pub fs_read-again : (name : Text) (sector n : ℕ) (p q : PoolState) → q.filesystems ≡ p.filesystems → (fs_read name sector n q).0.code ≡ (fs_read name sector n p).0.code
unfolding fs_read
fs_read-again name sector n p q e = subst (λ (l : List FsState). (in_fs (read_fs sector n) q (fs_at name l)).0.code ≡ (in_fs (read_fs sector n) p (fs_at name p.filesystems)).0.code) (sym e) (here (fs_at name p.filesystems))
  where
    code : (a : Option Reply) (r t : Reply) (u v : PoolState) → r.code ≡ t.code → (unless_answered a q (r, u)).0.code ≡ (unless_answered a p (t, v)).0.code
    code None r t u v same = same
    code (Some answer) r t u v same = refl

    here : (o : Option FsState) → (in_fs (read_fs sector n) q o).0.code ≡ (in_fs (read_fs sector n) p o).0.code
    here None = refl
    here (Some fs) = code (first_answer (read_answers fs sector n)) _ _ _ _ refl
