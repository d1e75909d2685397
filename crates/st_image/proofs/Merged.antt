-- A merge leaves no mark, and so is its own merge.
use Rattle.std.proofs.Common.{◌≡◌, ℕ, Bool, true, false, not, ◌&&◌, cond, List, [], ◌∷◌, map, Option, Some, None, refl, ap, ◌∙◌}
use Rattle.std.specs.Prelude.{filter, option_map, ◌==◌}
use Rattle.st_model.specs.declared.state.CacheState.{CacheState}
use Rattle.st_model.specs.declared.state.FsState.{FsState}
use Rattle.st_model.specs.declared.state.PoolState.{PoolState}
use Rattle.st_model.specs.Merged.{is_mapped, is_origin, replacer, leaving, origin_for, merged_origin, replaced_by, with_origin, merged_fs, merged_filesystems, merged}

-- no filesystem bears a mark
abbrev pub Unmarked : List FsState → Type 0
Unmarked [] = Unit {0}
Unmarked (fs ∷ rest) = (fs.row.merge ≡ false) × Unmarked rest

replaced_mark : (fs : FsState) (o : Option FsState) (origin : Option ℕ) → (with_origin origin (replaced_by fs o)).row.merge ≡ fs.row.merge
replaced_mark fs None origin = refl
replaced_mark fs (Some other) origin = refl

none_marked : (all some : List FsState) → Unmarked (map (merged_fs all) (filter (λ (fs : FsState). not fs.row.merge) some))
none_marked all [] = tt
none_marked all (fs ∷ rest) = by fs.row.merge refl (none_marked all rest)
  where
    by : (b : Bool) → fs.row.merge ≡ b → Unmarked (map (merged_fs all) (filter (λ (fs : FsState). not fs.row.merge) rest))
        → Unmarked (map (merged_fs all) (cond (not b) (fs ∷ filter (λ (fs : FsState). not fs.row.merge) rest) (filter (λ (fs : FsState). not fs.row.merge) rest)))
    by true e later = later
    by false e later = (replaced_mark fs (replacer fs.row.serial all) (merged_origin all fs.row.origin) ∙ e, later)

none_replaces : (serial : ℕ) (all : List FsState) → Unmarked all → replacer serial all ≡ None
none_replaces serial [] un = refl
none_replaces serial (fs ∷ rest) un = ap (λ (b : Bool). cond (b && is_origin serial fs.row.origin) (Some fs) (replacer serial rest)) un.0 ∙ none_replaces serial rest un.1

none_leaves : (serial : ℕ) (all : List FsState) → Unmarked all → leaving serial all ≡ None
none_leaves serial [] un = refl
none_leaves serial (fs ∷ rest) un = ap (λ (b : Bool). cond (b && (fs.row.serial == serial)) (Some fs) (leaving serial rest)) un.0 ∙ none_leaves serial rest un.1

same_origin : (all : List FsState) (origin : Option ℕ) → Unmarked all → merged_origin all origin ≡ origin
same_origin all None un = refl
same_origin all (Some serial) un = ap (origin_for (Some serial)) (none_leaves serial all un)

same_fs : (all : List FsState) (fs : FsState) → Unmarked all → merged_fs all fs ≡ fs
same_fs all fs un = λ i. with_origin (same_origin all fs.row.origin un i) (replaced_by fs (none_replaces fs.row.serial all un i))

all_same : (all some : List FsState) → Unmarked all → Unmarked some → map (merged_fs all) (filter (λ (fs : FsState). not fs.row.merge) some) ≡ some
all_same all [] un of = refl
all_same all (fs ∷ rest) un of =
    ap (λ (b : Bool). map (merged_fs all) (cond (not b) (fs ∷ filter (λ (fs : FsState). not fs.row.merge) rest) (filter (λ (fs : FsState). not fs.row.merge) rest))) of.0
    ∙ (λ i. same_fs all fs un i ∷ all_same all rest un of.1 i)

module _ {A : Type 0} (p : A → Bool) where
  filter_twice : (xs : List A) → filter p (filter p xs) ≡ filter p xs
  filter_twice [] = refl
  filter_twice (x ∷ xs) = by (p x) refl (filter_twice xs)
    where
      by : (b : Bool) → p x ≡ b → filter p (filter p xs) ≡ filter p xs → filter p (cond b (x ∷ filter p xs) (filter p xs)) ≡ cond b (x ∷ filter p xs) (filter p xs)
      by true e later = ap (λ (t : Bool). cond t (x ∷ filter p (filter p xs)) (filter p (filter p xs))) e ∙ ap (λ (l : List A). x ∷ l) later
      by false e later = later

filtered_twice : (p : ℕ → Bool) (o : Option CacheState) → option_map (λ (cache : CacheState). record cache { cells = filter p cache.cells }) (option_map (λ (cache : CacheState). record cache { cells = filter p cache.cells }) o)
    ≡ option_map (λ (cache : CacheState). record cache { cells = filter p cache.cells }) o
filtered_twice p None = refl
filtered_twice p (Some cache) = ap (λ (l : List ℕ). Some (record cache { cells = l })) (filter_twice p cache.cells)

pub merged_twice : (pool : PoolState) → merged (merged pool) ≡ merged pool
merged_twice pool = λ i. record pool {
  filesystems = same i;
  cells = (ap (λ (fs : List FsState). filter (λ (entry : ℕ × List ℕ). is_mapped fs entry.0) (merged pool).cells) same ∙ filter_twice (λ (entry : ℕ × List ℕ). is_mapped (merged_filesystems pool.filesystems) entry.0) pool.cells) i;
  cache = (ap (λ (fs : List FsState). option_map (λ (cache : CacheState). record cache { cells = filter (is_mapped fs) cache.cells }) (merged pool).cache) same ∙ filtered_twice (is_mapped (merged_filesystems pool.filesystems)) pool.cache) i;
}
  where
    same : merged_filesystems (merged pool).filesystems ≡ merged_filesystems pool.filesystems
    same = all_same (merged_filesystems pool.filesystems) (merged_filesystems pool.filesystems) (none_marked pool.filesystems pool.filesystems) (none_marked pool.filesystems pool.filesystems)
