-- sizes before and after a check
use Rattle.std.proofs.Common.{◌≡◌, ℕ, zero, suc, ◌+◌, ◌-◌, ◌*◌, ◌/◌, ◌^◌, ◌<◌, ◌≤◌, List, [], ◌∷◌, length, map, take, drop, get_or, add-one, length-drop, slice_get, slice_set, Bool, Option, Some, None, refl, sym, ap, ◌∙◌, subst, arith}
use Rattle.std.specs.List.{AllByRecursion}
use Rattle.std.specs.Option.{ForSome}
use Rattle.std.proofs.lemmas.List.{drop_more}
use Rattle.std.proofs.lemmas.List.Sums.{sum_by-cons}
use Rattle.st_limits.specs.Growth.{Volume, all_grown, grown, volume_blocks}
use Rattle.st_model.specs.declared.state.FsState.{FsState}
use Rattle.st_model.specs.declared.state.PoolState.{PoolState}
use Rattle.st_model.specs.Checks.{sizes}
use Rattle.st_model.specs.Sums.{room}
use Rattle.st_model.specs.ValidPool.{IsLimit, IsWhole}
use Rattle.st_model.proofs.Among.{All-with}
use Rattle.st_model.proofs.Lists.{All-weaker}
use Rattle.st_model.proofs.Totals.{total, total-is, total-map}
use Rattle.st_model.specs.steps.Check.{new_sizes, resized, volume_of, with_size}
use Rattle.st_checking.specs.inner.Small.{IsSmallFs}

abbrev pub blocks_of : FsState → ℕ
blocks_of fs = fs.row.size / 128

-- no filesystem has more than 2 ^ 25 blocks
one_few : (size : ℕ) → size ≤ 2 ^ 32 → size / 128 ≤ 2 ^ 25
one_few size h = omega (arith, h)

total_few : (fss : List FsState) → AllByRecursion IsSmallFs fss → total blocks_of fss ≤ length fss * 2 ^ 25
total_few [] h = omega arith
total_few (fs ∷ fss) h =
    let first = one_few fs.row.size h.0.size in
    let rest = total_few fss h.1 in
    omega (arith, first, rest)

pub blocks_total : (fss : List FsState) → volume_blocks (map volume_of fss) ≡ total blocks_of fss
blocks_total fss = total-is (λ (v : Volume). v.size / 128) (map volume_of fss) ∙ total-map (λ (v : Volume). v.size / 128) volume_of fss

pub blocks_are : (fss : List FsState) → sizes fss ≡ volume_blocks (map volume_of fss)
blocks_are fss = total-is blocks_of fss ∙ sym (blocks_total fss)

pub blocks_few : (fss : List FsState) → AllByRecursion IsSmallFs fss → volume_blocks (map volume_of fss) ≤ length fss * 2 ^ 25
blocks_few fss h = let e = blocks_total fss in let few = total_few fss h in omega (arith, e, few)

pub blocks_cons : (fs : FsState) (fss : List FsState) → volume_blocks (map volume_of (fs ∷ fss)) ≡ fs.row.size / 128 + volume_blocks (map volume_of fss)
blocks_cons fs fss = sum_by-cons (λ (v : Volume). v.size / 128) (volume_of fs) (map volume_of fss)

-- each filesystem of a pool that is whole is small
each_most : (f : FsState → ℕ) (fss : List FsState) → AllByRecursion (λ (fs : FsState). f fs ≤ total f fss) fss
each_most f [] = tt
each_most f (fs ∷ fss) = (omega arith, All-weaker _ _ fss (λ x h. omega (arith, h)) (each_most f fss))

limit_known : (size : ℕ) (limit : Option ℕ) → IsLimit size limit → ForSome limit (λ most. size ≤ most)
limit_known size None h = λ x e. absurd cc
limit_known size (Some most) h = λ x e. let same : most ≡ x = cc in subst (λ (n : ℕ). size ≤ n) same h.1

pub all_small : (p : PoolState) → IsWhole p → AllByRecursion IsSmallFs p.filesystems
all_small p w =
    let sum = total-is (λ (fs : FsState). length fs.map) p.filesystems in
    let most = w.mappings in
    All-with _ _ _ p.filesystems
    (λ fs v (m : length fs.map ≤ total (λ (x : FsState). length x.map) p.filesystems). record { size = v.size.bounded; limit = limit_known fs.row.size fs.row.limit v.limit; mapped = omega (arith, sum, most, m) })
    w.filesystems (each_most (λ (fs : FsState). length fs.map) p.filesystems)

-- one more filesystem grows
pub grown_step : (room : ℕ) (over : Bool) (before : ℕ) (fs : FsState) (fss : List FsState) (size : ℕ)
    → size ≡ grown fs.row.size (length fs.map) fs.row.limit (before + volume_blocks (map volume_of fss)) room over
    → all_grown room over before (map volume_of (fs ∷ fss)) ≡ size ∷ all_grown room over (before + size / 128) (map volume_of fss)
grown_step room over before fs fss size e = rw e refl

-- there is a size for each
as_many : (room : ℕ) (over : Bool) (fss : List FsState) (before : ℕ) → length (all_grown room over before (map volume_of fss)) ≡ length fss
as_many room over [] before = refl
as_many room over (fs ∷ fss) before =
    let size = grown fs.row.size (length fs.map) fs.row.limit (before + volume_blocks (map volume_of fss)) room over in
    ap suc (as_many room over fss (before + size / 128))

pub sizes_many : (p : PoolState) → length (new_sizes p) ≡ length p.filesystems
sizes_many p = as_many (room p) p.overprovisioning p.filesystems 0

-- the blocks behind a filesystem
pub behind_few : (fss : List FsState) (i : ℕ) (fs : FsState) → i < length fss → fs ≡ get_or fss i fs → AllByRecursion IsSmallFs (drop i fss)
    → volume_blocks (map volume_of (drop i fss)) - fs.row.size / 128 ≤ (length fss - (i + 1)) * 2 ^ 25
behind_few fss i fs lt is h =
    let parts : drop i fss ≡ fs ∷ drop (i + 1) fss = drop_more fss i fs lt ∙ ap (λ (x : FsState). x ∷ drop (i + 1) fss) (sym is) in
    let all : AllByRecursion IsSmallFs (fs ∷ drop (i + 1) fss) = subst (λ (l : List FsState). AllByRecursion IsSmallFs l) parts h in
    let few = blocks_few (drop (i + 1) fss) all.1 in
    let sum = ap (λ (l : List FsState). volume_blocks (map volume_of l)) parts ∙ blocks_cons fs (drop (i + 1) fss) in
    let long = length-drop (i + 1) fss in
    omega (arith, few, sum, long)

none_resized : (fss : List FsState) → resized fss [] ≡ fss
none_resized [] = refl
none_resized (fs ∷ fss) = refl

pub begins : (fss : List FsState) → fss ≡ resized fss []
begins fss = sym (none_resized fss)

-- one more filesystem is resized in its place
resized_next : (fss : List FsState) (ns : List ℕ) (i : ℕ) (fs : FsState) → i < length ns → slice_get (resized fss (take i ns)) i ≡ Some fs
    → slice_set (resized fss (take i ns)) i (with_size (get_or ns i 0) fs) ≡ resized fss (take (suc i) ns)
resized_next [] [] i fs l h = absurd (omega (arith, l))
resized_next [] (n ∷ ns) zero fs l h = absurd cc
resized_next [] (n ∷ ns) (suc i) fs l h = absurd cc
resized_next (x ∷ fss) [] i fs l h = absurd (omega (arith, l))
resized_next (x ∷ fss) (n ∷ ns) zero fs l h =
    let same : x ≡ fs = cc in
    ap (λ (y : FsState). with_size n y ∷ fss) (sym same) ∙ ap (λ (t : List FsState). with_size n x ∷ t) (begins fss)
resized_next (x ∷ fss) (n ∷ ns) (suc i) fs l h = ap (λ (t : List FsState). with_size n x ∷ t) (resized_next fss ns i fs (omega (arith, l)) h)

pub resized_step : (fss : List FsState) (ns : List ℕ) (i : ℕ) (fs : FsState) → i < length ns → slice_get (resized fss (take i ns)) i ≡ Some fs
    → slice_set (resized fss (take i ns)) i (with_size (get_or ns i 0) fs) ≡ resized fss (take (i + 1) ns)
resized_step fss ns i fs l h = resized_next fss ns i fs l h ∙ ap (λ (k : ℕ). resized fss (take k ns)) (sym (add-one i))
