-- the blocks of filesystems with those that are made, and the sizes that a list of them may have
use Rattle.std.proofs.Common.{◌≡◌, ℕ, ◌+◌, ◌/◌, ◌≤◌, ◌^◌, ◌||◌, not, List, [], ◌∷◌, ◌++◌, Bool, true, false, Option, Some, None, find, fold, get_or, drop, length, unwrap_or, refl, sym, ap, subst, ◌∙◌, ◌<◌, arith}
use Rattle.std.specs.List.{AllByRecursion}
use Rattle.std.proofs.lemmas.List.{at_drop_more}
use Rattle.std.proofs.lemmas.List.Sums.{sum_by-append, sum_by-cons, sum_by_from}
use Rattle.st_limits.specs.declared.TheConstants.{BLOCK_SECTORS}
use Rattle.st_units.specs.declared.rows.FsSpec.{FsSpec}
use Rattle.st_model.specs.declared.state.FsState.{FsState}
use Rattle.st_model.specs.declared.state.PoolState.{PoolState}
use Rattle.st_model.specs.Checks.{is_no_size, is_size, sizes}
use Rattle.st_model.specs.Look.{Text}
use Rattle.st_model.specs.steps.CreateFilesystems.{new_filesystems, size_of}
use Rattle.st_model.specs.steps.SnapshotFilesystem.{snapshot_of, with_snapshot}
use Rattle.st_model.specs.ValidPool.{IsWhole}
use Rattle.st_model.proofs.Lists.{All-weaker, none_found}
use Rattle.st_model.proofs.ValidCreateFs.{size_is}
use Rattle.st_filesystems.specs.inner.Creating.{spec_blocks}

not_true : (b : Bool) → not b ≡ false → b ≡ true
not_true true h = refl
not_true false h = absurd cc

either : (a b : Bool) → (a || b) ≡ false → a ≡ false
either true b h = absurd cc
either false b h = refl

small_size : (o : Option ℕ) → is_no_size o ≡ false → unwrap_or o 32768 ≤ 2 ^ 32
small_size None h = omega arith
small_size (Some n) h = (size_is n (not_true (is_size n) h)).bounded

-- where none has a size that it may not have, all are small
pub small_specs : (specs : List FsSpec) → find (λ (spec : FsSpec). is_no_size spec.size || is_no_size spec.limit) specs ≡ None → AllByRecursion (λ (spec : FsSpec). size_of spec ≤ 2 ^ 32) specs
small_specs specs h =
    All-weaker _ _ specs (λ (spec : FsSpec) e. small_size spec.size (either (is_no_size spec.size) (is_no_size spec.limit) e)) (none_found _ specs h)

abbrev blocks : FsState → ℕ
blocks fs = fs.row.size / BLOCK_SECTORS

abbrev made : ℕ → FsSpec → FsState
made serial spec = record { row = record { serial = serial; name = spec.name; size = size_of spec; limit = spec.limit; origin = None; merge = false }; map = [] }

sizes_new : (serial : ℕ) (specs : List FsSpec) → sizes (new_filesystems serial specs) ≡ spec_blocks specs
sizes_new serial [] = refl
sizes_new serial (spec ∷ specs) =
    sum_by-cons blocks (made serial spec) (new_filesystems (serial + 1) specs)
    ∙ ap (λ n. size_of spec / BLOCK_SECTORS + n) (sizes_new (serial + 1) specs)
    ∙ sym (sum_by-cons (λ (s : FsSpec). size_of s / BLOCK_SECTORS) spec specs)

pub sizes_with : (fss : List FsState) (serial : ℕ) (specs : List FsSpec) → sizes (fss ++ new_filesystems serial specs) ≡ sizes fss + spec_blocks specs
sizes_with fss serial specs = sum_by-append blocks fss (new_filesystems serial specs) ∙ ap (λ n. sizes fss + n) (sizes_new serial specs)

and_none : (n : ℕ) → n + 0 ≡ n
and_none n = omega arith

pub sizes_snapshot : (origin : FsState) (name : Text) (p : PoolState) → sizes (with_snapshot origin name p) ≡ sizes p.filesystems + origin.row.size / BLOCK_SECTORS
sizes_snapshot origin name p =
    let new = snapshot_of origin name p.next_filesystem in
    sum_by-append blocks p.filesystems (new ∷ []) ∙ ap (λ n. sizes p.filesystems + n) (sum_by-cons blocks new [] ∙ and_none (origin.row.size / BLOCK_SECTORS))

pub small_sizes : (p : PoolState) → IsWhole p → AllByRecursion (λ (fs : FsState). fs.row.size ≤ 2 ^ 32) p.filesystems
small_sizes p w = All-weaker _ _ p.filesystems (λ (fs : FsState) v. v.size.bounded) w.filesystems

within_whole : (xs : List FsState) (x : FsState) (sum whole : ℕ) → fold (λ a (fs : FsState). a + length fs.map) sum (x ∷ xs) ≡ whole → sum + length x.map ≤ whole
within_whole xs x sum whole h =
    let all = sum_by_from (λ (fs : FsState). length fs.map) (sum + length x.map) xs in
    omega (arith, all, h)

-- what is summed so far, and one more, is no more than the whole
pub next_within : (xs fss : List FsState) (i sum whole : ℕ) (x : FsState) → xs ≡ fss → i < length xs → x ≡ get_or xs i x
    → fold (λ a (fs : FsState). a + length fs.map) sum (drop i fss) ≡ whole → sum + length x.map ≤ whole
next_within xs fss i sum whole x same within is h =
    let f : List FsState → ℕ = λ rest. fold (λ a (fs : FsState). a + length fs.map) sum rest in
    let more : f (drop i xs) ≡ f (get_or xs i x ∷ drop (i + 1) xs) = at_drop_more f xs i x within in
    let split : f (drop i xs) ≡ f (x ∷ drop (i + 1) xs) = subst (λ (y : FsState). f (drop i xs) ≡ f (y ∷ drop (i + 1) xs)) (sym is) more in
    within_whole (drop (i + 1) xs) x sum whole (sym split ∙ ap (λ (l : List FsState). f (drop i l)) same ∙ h)
