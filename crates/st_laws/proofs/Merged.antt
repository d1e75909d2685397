-- what a pool reads once it is merged
use Rattle.std.proofs.Common.{◌≡◌, ℕ, ◌*◌, ◌/◌, ◌%◌, ◌==◌, ◌&&◌, ◌||◌, ◌⊎◌, not, inl, inr, List, [], ◌∷◌, filter, take, drop, replicate, Bool, true, false, cond, Option, Some, None, option_map, unwrap_or, bytes_eq, refl, sym, ap, ◌∙◌, subst, arith}
use Rattle.std.specs.List.{AllByRecursion, find}
use Rattle.std.proofs.lemmas.Grind.{common_steps}
use Rattle.st_model.specs.declared.state.FsState.{FsState}
use Rattle.st_model.specs.declared.state.PoolState.{PoolState}
use Rattle.st_model.specs.Checks.{fs_at}
use Rattle.st_model.specs.Content.{block_bytes, bytes_at, cell_at, sector_bytes}
use Rattle.st_model.specs.Look.{Text}
use Rattle.st_model.specs.Merged.{is_origin, merged, merged_filesystems, merged_fs, merged_origin, replaced_by, replacer, with_origin}
use Rattle.st_model.specs.ValidPool.{EachPair, is_marked, IsMark, AreFsPair, IsWhole}
use Rattle.st_model.proofs.Among.{IsIn, All-in, all_beside}
use Rattle.st_model.proofs.Flights.{found-holds}
use Rattle.st_model.proofs.Lists.{All-weaker}
use Rattle.st_model.proofs.Mapped.{find_map}
use Rattle.st_model.proofs.ValidMerge.{valid_in}
use Rattle.st_laws.specs.Reads.{reads_in}
use Rattle.st_laws.proofs.Blocks.{in_map, mapped_by, stays}
use Rattle.st_laws.proofs.Destroyed.{in_filter}

clash : (b : Bool) → b ≡ false → b ≡ true → ⊥
clash b f t = absurd cc

same_number : (n : ℕ) → (n == n) ≡ true
same_number n = grind (arith, common_steps)

equal_numbers : (a b : ℕ) → (a == b) ≡ true → a ≡ b
equal_numbers a b h = grind (arith, common_steps)

both : (a b : Bool) → (a && b) ≡ true → (a ≡ true) × (b ≡ true)
both true true h = (refl, refl)
both true false h = absurd cc
both false b h = absurd cc

-- the first that passes stays the first, where it is kept
pub first_kept : {X : Type 0} (p q : X → Bool) (xs : List X) (x : X) → find p xs ≡ Some x → q x ≡ true → find p (filter q xs) ≡ Some x
first_kept {X} p q [] x h k = absurd cc
first_kept {X} p q (y ∷ xs) x h k = here (p y) refl h (q y) refl (first_kept p q xs x)
  where
    here : (a : Bool) → p y ≡ a → cond a (Some y) (find p xs) ≡ Some x → (b : Bool) → q y ≡ b → (find p xs ≡ Some x → q x ≡ true → find p (filter q xs) ≡ Some x) → find p (cond b (y ∷ filter q xs) (filter q xs)) ≡ Some x
    here true e h true f rest = rw e h
    here true e h false f rest = absurd (let same : y ≡ x = cc in clash (q x) (subst (λ (z : X). q z ≡ false) same f) k)
    here false e h true f rest = rw e (rest h k)
    here false e h false f rest = rest h k

-- the only one that passes is found
only_found : (p : FsState → Bool) (fss : List FsState) (x : FsState) → IsIn x fss → p x ≡ true → AllByRecursion (λ (y : FsState). p y ≡ true → y ≡ x) fss → find p fss ≡ Some x
only_found p [] x i h a = absurd i
only_found p (y ∷ fss) x i h a = here (p y) refl i (λ j. only_found p fss x j h a.1)
  where
    here : (b : Bool) → p y ≡ b → (y ≡ x) ⊎ IsIn x fss → (IsIn x fss → find p fss ≡ Some x) → cond b (Some y) (find p fss) ≡ Some x
    here true e i rest = ap (λ (z : FsState). Some z) (a.0 e)
    here false e (inl same) rest = absurd (clash (p x) (subst (λ (z : FsState). p z ≡ false) same e) h)
    here false e (inr j) rest = rest j

-- no other filesystem is marked and has this origin
same_mark : (fss : List FsState) (f : FsState) (o : ℕ) → EachPair AreFsPair fss → IsIn f fss → f.row.merge ≡ true → f.row.origin ≡ Some o → AllByRecursion (λ (y : FsState). (y.row.merge && is_origin o y.row.origin) ≡ true → y ≡ f) fss
same_mark fss f o h i m e = All-weaker _ _ fss one (of_in fss (all_beside AreFsPair fss h) i)
  where
    of_in : (xs : List FsState) → AllByRecursion (λ (x : FsState). AllByRecursion (λ (y : FsState). (y ≡ x) ⊎ (AreFsPair x y ⊎ AreFsPair y x)) fss) xs → IsIn f xs → AllByRecursion (λ (y : FsState). (y ≡ f) ⊎ (AreFsPair f y ⊎ AreFsPair y f)) fss
    of_in [] a i = absurd i
    of_in (x ∷ xs) a (inl same) = subst (λ (z : FsState). AllByRecursion (λ (y : FsState). (y ≡ z) ⊎ (AreFsPair z y ⊎ AreFsPair y z)) fss) same a.0
    of_in (x ∷ xs) a (inr i) = of_in xs a.1 i

    origin_of : (z : Option ℕ) → is_origin o z ≡ true → z ≡ Some o
    origin_of None h = absurd cc
    origin_of (Some n) h = ap (λ (q : ℕ). Some q) (equal_numbers n o h)

    one : (y : FsState) → (y ≡ f) ⊎ (AreFsPair f y ⊎ AreFsPair y f) → (y.row.merge && is_origin o y.row.origin) ≡ true → y ≡ f
    one y (inl same) t = same
    one y (inr (inl r)) t = let b = both y.row.merge (is_origin o y.row.origin) t in absurd (r.marks m b.0 (e ∙ sym (origin_of y.row.origin b.1)))
    one y (inr (inr r)) t = let b = both y.row.merge (is_origin o y.row.origin) t in absurd (r.marks b.0 m (origin_of y.row.origin b.1 ∙ sym e))

-- the origin of a mark isn't marked
unmarked : (fss : List FsState) (x : FsState) → IsIn x fss → is_marked x.row.serial fss ≡ false → x.row.merge ≡ false
unmarked [] x i h = absurd i
unmarked (y ∷ fss) x (inl e) h = here x.row.merge (x.row.serial == x.row.serial) (same_number x.row.serial) (subst (λ (z : FsState). ((z.row.merge && (z.row.serial == x.row.serial)) || is_marked x.row.serial fss) ≡ false) e h)
  where
    here : (m b : Bool) → b ≡ true → ((m && b) || is_marked x.row.serial fss) ≡ false → m ≡ false
    here false b t h = refl
    here true true t h = absurd cc
    here true false t h = absurd cc
unmarked (y ∷ fss) x (inr i) h = unmarked fss x i (second (y.row.merge && (y.row.serial == x.row.serial)) h)
  where
    second : (a : Bool) → (a || is_marked x.row.serial fss) ≡ false → is_marked x.row.serial fss ≡ false
    second true h = absurd cc
    second false h = h

-- the filesystem with another's size, limit and map keeps its name
kept_name : (fss : List FsState) (file : Text) (x : FsState) → bytes_eq (merged_fs fss x).row.name file ≡ bytes_eq x.row.name file
kept_name fss file x = here (replacer x.row.serial fss)
  where
    here : (o : Option FsState) → bytes_eq (with_origin (merged_origin fss x.row.origin) (replaced_by x o)).row.name file ≡ bytes_eq x.row.name file
    here None = refl
    here (Some y) = refl

-- where one is to be replaced, it reads as what replaces it did
pub merged-reads : (p : PoolState) → IsWhole p → (snapshot origin : Text) (f o : FsState) → fs_at snapshot p.filesystems ≡ Some f → fs_at origin p.filesystems ≡ Some o → f.row.merge ≡ true → f.row.origin ≡ Some o.row.serial
    → (k : ℕ) → reads_in origin k (merged p) ≡ reads_in snapshot k p
merged-reads p h snapshot origin f o ef eo m e k =
    ap (option_map (λ (x : FsState). sector_bytes (merged p) x k)) found
    ∙ ap (λ (l : List ℕ). Some (take 512 (drop (512 * (k % 128)) l))) (same_block (k / 128))
    ∙ sym (ap (option_map (λ (x : FsState). sector_bytes p x k)) ef)
  where
    fss : List FsState
    fss = p.filesystems

    in_f : IsIn f p.filesystems
    in_f = found-holds (λ (y : FsState). IsIn y p.filesystems) (λ (y : FsState). bytes_eq y.row.name snapshot) p.filesystems f (All-in p.filesystems) ef

    in_o : IsIn o p.filesystems
    in_o = found-holds (λ (y : FsState). IsIn y p.filesystems) (λ (y : FsState). bytes_eq y.row.name origin) p.filesystems o (All-in p.filesystems) eo

    mark : (b : Bool) (z : Option ℕ) → b ≡ true → z ≡ Some o.row.serial → IsMark p.filesystems b z → is_marked o.row.serial p.filesystems ≡ false
    mark false z t s i = absurd cc
    mark true None t s i = absurd i
    mark true (Some n) t s i = let same : n ≡ o.row.serial = cc in subst (λ (q : ℕ). is_marked q p.filesystems ≡ false) same i

    o_stays : o.row.merge ≡ false
    o_stays = unmarked p.filesystems o in_o (mark f.row.merge f.row.origin m e (valid_in p f p.filesystems in_f h.filesystems).mark)

    replaces : replacer o.row.serial p.filesystems ≡ Some f
    replaces =
        only_found (λ (y : FsState). y.row.merge && is_origin o.row.serial y.row.origin) p.filesystems f in_f (rw (m, e) (same_number o.row.serial)) (same_mark p.filesystems f o.row.serial h.ordered in_f m e)

    found : fs_at origin (merged p).filesystems ≡ Some (merged_fs p.filesystems o)
    found =
        find_map (λ (x : FsState). bytes_eq x.row.name origin) (merged_fs p.filesystems) (filter (λ (x : FsState). not x.row.merge) p.filesystems) (kept_name p.filesystems origin)
        ∙ ap (option_map (merged_fs p.filesystems)) (first_kept (λ (x : FsState). bytes_eq x.row.name origin) (λ (x : FsState). not x.row.merge) p.filesystems o eo (ap not o_stays))

    new_map : (merged_fs p.filesystems o).map ≡ f.map
    new_map = ap (λ (r : Option FsState). (with_origin (merged_origin p.filesystems o.row.origin) (replaced_by o r)).map) replaces

    there : IsIn (merged_fs p.filesystems o) (merged_filesystems p.filesystems)
    there = in_map (merged_fs p.filesystems) o (filter (λ (x : FsState). not x.row.merge) p.filesystems) (in_filter (λ (x : FsState). not x.row.merge) o p.filesystems in_o (ap not o_stays))

    same_block : (block : ℕ) → block_bytes (merged p) (merged_fs p.filesystems o) block ≡ block_bytes p f block
    same_block block = ap (λ n. bytes_at (merged p).cells (cell_at block n)) new_map ∙ by (cell_at block f.map) refl
      where
        by : (z : Option ℕ) → cell_at block f.map ≡ z → bytes_at (merged p).cells z ≡ bytes_at p.cells z
        by None g = refl
        by (Some c) g =
            ap (λ z. unwrap_or z (replicate 65536 0))
            (stays (merged_filesystems p.filesystems) c p.cells (mapped_by c block (merged_fs p.filesystems o) (merged_filesystems p.filesystems) there (ap (cell_at block) new_map ∙ g)))
