-- what a read of a pool gives
use Rattle.std.proofs.Common.{◌≡◌, ℕ, zero, suc, ◌+◌, ◌-◌, ◌*◌, ◌/◌, ◌%◌, ◌<◌, ◌≤◌, List, [], ◌∷◌, ◌++◌, length, take, drop, Bool, true, false, Option, Some, None, option_map, refl, sym, ap, ◌∙◌, subst, arith, length-take, length-drop}
use Rattle.std.specs.Prelude.{flat_map}
use Rattle.std.specs.List.{AllByRecursion, range_with_len}
use Rattle.std.proofs.Math.Nat.{min-eq_left}
use Rattle.std.proofs.Math.Seq.{drop-append-add, take-append_seam}
use Rattle.st_units.specs.declared.cause.Cause.{Cause}
use Rattle.st_units.specs.declared.cause.Cause.TheVariants.{BadSize, OutOfRange}
use Rattle.st_model.specs.declared.reply.Given.TheVariants.{Read}
use Rattle.st_model.specs.declared.reply.Reply.{Reply}
use Rattle.st_model.specs.declared.state.CacheState.{CacheState}
use Rattle.st_model.specs.declared.state.FsState.{FsState}
use Rattle.st_model.specs.declared.state.PoolState.{PoolState}
use Rattle.st_model.specs.Answer.{accepted, first_answer, refused_where, unless_answered}
use Rattle.st_model.specs.Checks.{fs_at, in_fs}
use Rattle.st_model.specs.Content.{block_bytes, cell_at, sector_bytes}
use Rattle.st_model.specs.Look.{Text}
use Rattle.st_model.specs.ValidPool.{IsWhole}
use Rattle.st_model.specs.steps.FsRead.{fs_read, read_answers, read_fs}
use Rattle.st_model.proofs.Lists.{All-weaker}
use Rattle.st_model.proofs.Putting.{bytes_at-length}
use Rattle.st_laws.specs.Reads.{reads_in}
use Rattle.st_laws.proofs.Sectors.{is_place}

-- pieces of 512 bytes each, one after the other
pieces : (f : ℕ → List ℕ) → ((x : ℕ) → length (f x) ≡ 512) → (a n k : ℕ) → k < n → take 512 (drop (512 * k) (flat_map f (range_with_len a n))) ≡ f (a + k)
pieces f h a zero k low = absurd (let no : ⊥ = omega (arith, low) in no)
pieces f h a (suc n) zero low =
    let rest = flat_map f (range_with_len (a + 1) n) in
    subst (λ (m : ℕ). take m (f a ++ rest) ≡ f a) (h a) (take-append_seam (f a) rest) ∙ ap f (let same : a ≡ a + 0 = omega arith in same)
pieces f h a (suc n) (suc k) low =
    let rest = flat_map f (range_with_len (a + 1) n) in
    let less : k < n = omega (arith, low) in
    let place : 512 * suc k ≡ 512 + 512 * k = omega arith in
    let next : a + 1 + k ≡ a + suc k = omega arith in
    ap (λ m. take 512 (drop m (f a ++ rest))) place
    ∙ ap (take 512) (subst (λ (m : ℕ). drop (m + 512 * k) (f a ++ rest) ≡ drop (512 * k) rest) (h a) (drop-append-add (f a) rest (512 * k)))
    ∙ pieces f h (a + 1) n k less
    ∙ ap f next

sector-long : (p : PoolState) → IsWhole p → (fs : FsState) (sector : ℕ) → length (sector_bytes p fs sector) ≡ 512
sector-long p h fs sector =
    let whole = bytes_at-length p.cells (cell_at (sector / 128) fs.map) (All-weaker _ _ p.cells (λ (e : ℕ × List ℕ) c. c.full) h.cells) in
    cut (block_bytes p fs (sector / 128)) (sector % 128) whole (is_place sector).1
  where
    cut : (block : List ℕ) (at : ℕ) → length block ≡ 65536 → at < 128 → length (take 512 (drop (512 * at) block)) ≡ 512
    cut block at whole low =
        let rest : length (drop (512 * at) block) ≡ length block - 512 * at = length-drop (512 * at) block in
        let more : 512 ≤ length (drop (512 * at) block) = omega (arith, rest, whole, low) in
        length-take 512 (drop (512 * at) block) ∙ min-eq_left more

abbrev IsMute : Option Reply → Type 0
IsMute None = Unit {0}
IsMute (Some r) = r.result ≡ None

mute_where : (b : Bool) (c : Cause) → IsMute (refused_where b c)
mute_where true c = refl
mute_where false c = tt

mute_first : (answers : List (Option Reply)) → AllByRecursion IsMute answers → IsMute (first_answer answers)
mute_first [] h = tt
mute_first (None ∷ answers) h = mute_first answers h.1
mute_first (Some r ∷ answers) h = h.0

mute_answers : (fs : FsState) (sector n : ℕ) → AllByRecursion IsMute (read_answers fs sector n)
mute_answers fs sector n = (mute_where _ (BadSize fs.row.name), (mute_where _ OutOfRange, tt))

pub pool-tells : (name : Text) (sector n : ℕ) (p : PoolState) → IsWhole p → (bytes : List ℕ) → (fs_read name sector n p).0.result ≡ Some (Read bytes) → (k : ℕ) → k < n → reads_in name (sector + k) p ≡ Some (take 512 (drop (512 * k) bytes))
unfolding fs_read
pool-tells name sector n p h bytes ok k less = here (fs_at name p.filesystems) refl ok
  where
    in_one : (fs : FsState) (q : PoolState) (a : Option Reply) → IsMute a → (unless_answered a p (accepted (Read (flat_map (sector_bytes p fs) (range_with_len sector n))), q)).0.result ≡ Some (Read bytes)
        → option_map (λ (x : FsState). sector_bytes p x (sector + k)) (Some fs) ≡ Some (take 512 (drop (512 * k) bytes))
    in_one fs q (Some r) mute ok = absurd (let bad : None ≡ Some (Read bytes) = sym mute ∙ ok in cc)
    in_one fs q None mute ok =
        let same : flat_map (sector_bytes p fs) (range_with_len sector n) ≡ bytes = cc in
        ap (λ (l : List ℕ). Some l) (sym (pieces (sector_bytes p fs) (sector-long p h fs) sector n k less) ∙ ap (λ (l : List ℕ). take 512 (drop (512 * k) l)) same)

    here : (o : Option FsState) → fs_at name p.filesystems ≡ o → (in_fs (read_fs sector n) p o).0.result ≡ Some (Read bytes) → reads_in name (sector + k) p ≡ Some (take 512 (drop (512 * k) bytes))
    here None e ok = absurd cc
    here (Some fs) e ok = ap (option_map (λ (x : FsState). sector_bytes p x (sector + k))) e ∙ in_one fs _ (first_answer (read_answers fs sector n)) (mute_first (read_answers fs sector n) (mute_answers fs sector n)) ok

pub read-keeps : (name : Text) (sector n : ℕ) (p : PoolState) (file : Text) (k : ℕ) → reads_in file k (fs_read name sector n p).1 ≡ reads_in file k p
unfolding fs_read
read-keeps name sector n p file k = here (fs_at name p.filesystems)
  where
    one : (fs : FsState) (a : Option Reply) (r : Reply) (c : Option CacheState) → reads_in file k (unless_answered a p (r, (record p { cache = c }))).1 ≡ reads_in file k p
    one fs (Some answer) r c = refl
    one fs None r c = refl

    here : (o : Option FsState) → reads_in file k (in_fs (read_fs sector n) p o).1 ≡ reads_in file k p
    here None = refl
    here (Some fs) = one fs (first_answer (read_answers fs sector n)) _ _
