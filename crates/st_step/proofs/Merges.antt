-- a merge has no mark, and is its own merge
use Rattle.std.proofs.Common.{◌≡◌, ℕ, ◌&&◌, not, List, [], ◌∷◌, Bool, true, false, filter, map, Option, Some, None, option_map, refl, ap, ◌∙◌}
use Rattle.std.specs.List.{AllByRecursion}
use Rattle.st_model.specs.declared.state.CacheState.{CacheState}
use Rattle.st_model.specs.declared.state.FsState.{FsState}
use Rattle.st_model.specs.declared.state.PoolState.{PoolState}
use Rattle.st_model.specs.Merged.{is_mapped, leaving, merged, merged_filesystems, merged_fs, merged_origin, replaced_by, replacer, with_filesystems, with_origin}
use Rattle.st_model.proofs.Lists.{All-map, All-weaker, filter-passes}
use Rattle.st_model.proofs.Flights.{find_none, filter_all}
use Rattle.st_step.specs.Laws.{IsItsOwn, NoneIsMarked}

not_false : (b : Bool) → not b ≡ true → b ≡ false
not_false true h = absurd cc
not_false false h = refl

merge_kept : (fs : FsState) (r : Option FsState) (o : Option ℕ) → (with_origin o (replaced_by fs r)).row.merge ≡ fs.row.merge
merge_kept fs None o = refl
merge_kept fs (Some other) o = refl

unmarked : (fss : List FsState) → AllByRecursion (λ (fs : FsState). fs.row.merge ≡ false) (merged_filesystems fss)
unmarked fss =
    All-map _ (merged_fs fss) (filter (λ (fs : FsState). not fs.row.merge) fss)
    (All-weaker _ _ (filter (λ (fs : FsState). not fs.row.merge) fss) (λ fs h. merge_kept fs (replacer fs.row.serial fss) (merged_origin fss fs.row.origin) ∙ not_false fs.row.merge h) (filter-passes (λ (fs : FsState). not fs.row.merge) fss))

pub none-marked : NoneIsMarked
none-marked p = unmarked p.filesystems

no_and : (a b : Bool) → a ≡ false → (a && b) ≡ false
no_and a b h = rw h refl

-- where no filesystem is marked, none is replaced and none goes
none_replaces : (fss : List FsState) (serial : ℕ) → AllByRecursion (λ (fs : FsState). fs.row.merge ≡ false) fss → replacer serial fss ≡ None
none_replaces fss serial h = find_none _ fss (All-weaker _ _ fss (λ fs e. no_and fs.row.merge _ e) h)

none_leaves : (fss : List FsState) (serial : ℕ) → AllByRecursion (λ (fs : FsState). fs.row.merge ≡ false) fss → leaving serial fss ≡ None
none_leaves fss serial h = find_none _ fss (All-weaker _ _ fss (λ fs e. no_and fs.row.merge _ e) h)

same_origin : (fss : List FsState) → AllByRecursion (λ (fs : FsState). fs.row.merge ≡ false) fss → (o : Option ℕ) → merged_origin fss o ≡ o
same_origin fss h None = refl
same_origin fss h (Some x) = rw (none_leaves fss x h) refl

same_fs : (fss : List FsState) → AllByRecursion (λ (fs : FsState). fs.row.merge ≡ false) fss → (fs : FsState) → merged_fs fss fs ≡ fs
same_fs fss h fs = rw (none_replaces fss fs.row.serial h, same_origin fss h fs.row.origin) refl

map_self : (f : FsState → FsState) (xs : List FsState) → ((x : FsState) → f x ≡ x) → map f xs ≡ xs
map_self f [] h = refl
map_self f (x ∷ xs) h = rw (h x, map_self f xs h) refl

same_filesystems : (fss : List FsState) → AllByRecursion (λ (fs : FsState). fs.row.merge ≡ false) fss → merged_filesystems fss ≡ fss
same_filesystems fss h =
    let kept : filter (λ (fs : FsState). not fs.row.merge) fss ≡ fss = filter_all (λ (fs : FsState). not fs.row.merge) fss (All-weaker _ _ fss (λ fs e. rw e refl) h) in
    ap (map (merged_fs fss)) kept ∙ map_self (merged_fs fss) fss (same_fs fss h)

filter_twice : {X : Type 0} (p : X → Bool) (xs : List X) → filter p (filter p xs) ≡ filter p xs
filter_twice p xs = filter_all p (filter p xs) (filter-passes p xs)

cache_twice : (f : ℕ → Bool) (o : Option CacheState)
    → option_map (λ (cache : CacheState). record cache { cells = filter f cache.cells }) (option_map (λ (cache : CacheState). record cache { cells = filter f cache.cells }) o)
    ≡ option_map (λ (cache : CacheState). record cache { cells = filter f cache.cells }) o
cache_twice f None = refl
cache_twice f (Some cache) = ap (λ (l : List ℕ). Some (record cache { cells = l })) (filter_twice f cache.cells)

twice : (fss : List FsState) (p : PoolState) → with_filesystems fss (with_filesystems fss p) ≡ with_filesystems fss p
twice fss p =
    let once = with_filesystems fss p in
    ap (λ (l : List (ℕ × List ℕ)). record p { filesystems = fss; cells = l; cache = (with_filesystems fss once).cache }) (filter_twice (λ (entry : ℕ × List ℕ). is_mapped fss entry.0) p.cells)
    ∙ ap (λ (o : Option CacheState). record p { filesystems = fss; cells = once.cells; cache = o }) (cache_twice (is_mapped fss) p.cache)

pub own-merge : IsItsOwn
own-merge p =
    let fss = merged_filesystems p.filesystems in
    ap (λ (l : List FsState). with_filesystems l (merged p)) (same_filesystems fss (unmarked p.filesystems)) ∙ twice fss p
