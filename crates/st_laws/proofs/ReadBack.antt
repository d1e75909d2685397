-- what a pool reads after a write
use Rattle.std.proofs.Common.{◌≡◌, ℕ, ◌+◌, ◌-◌, ◌*◌, ◌/◌, ◌%◌, ◌<◌, ◌≤◌, ◌==◌, ◌||◌, inl, inr, List, [], ◌∷◌, length, map, take, drop, Bool, true, false, cond, Option, Some, None, option_map, nat_lt, min, bytes_eq, replicate, refl, sym, ap, ◌∙◌, subst, arith}
use Rattle.std.specs.List.{AllByRecursion}
use Rattle.std.proofs.lemmas.Grind.{common_steps}
use Rattle.std.proofs.lemmas.List.{length-replicate}
use Rattle.std.proofs.Math.Nat.{div-mul-le_self}
use Rattle.std.proofs.lemmas.Slice.Eq.{bytes_eq-Decides}
use Rattle.st_units.specs.declared.cause.Cause.{Cause}
use Rattle.st_units.specs.declared.cause.Cause.TheVariants.{BadSize, OutOfRange, MappingFull, NoSpace, Worn}
use Rattle.st_model.specs.declared.call.Payload.{Payload}
use Rattle.st_model.specs.declared.call.Payload.TheVariants.{Fill, Given}
use Rattle.st_model.specs.declared.reply.Given.TheVariants.{Written}
use Rattle.st_model.specs.declared.reply.Reply.{Reply}
use Rattle.st_model.specs.declared.state.FsState.{FsState}
use Rattle.st_model.specs.declared.state.PoolState.{PoolState}
use Rattle.st_model.specs.Answer.{accepted, first_answer, refused_where, unless_answered}
use Rattle.st_model.specs.Checks.{fs_at, in_fs, worn}
use Rattle.st_model.specs.Content.{Stretch, block_bytes, cell_at, sector_bytes, stretches}
use Rattle.st_model.specs.InPlace.{sectors_in}
use Rattle.st_model.specs.Look.{Text}
use Rattle.st_model.specs.ValidPool.{EachPair, IsWhole}
use Rattle.st_model.specs.steps.FsWrite.{Put, bytes_in, cells_needed, fs_write, puts, with_blocks, with_map, write_answers, write_fs, written}
use Rattle.st_model.proofs.Among.{IsIn, All-in}
use Rattle.st_model.proofs.Answers0.{none_answers, so_not}
use Rattle.st_model.proofs.Flights.{found-holds}
use Rattle.st_model.proofs.Lists.{All-weaker, found_passes}
use Rattle.st_model.proofs.Mapped.{find_map}
use Rattle.st_model.proofs.Putting.{bytes_at-length}
use Rattle.st_model.proofs.ValidFields.{same_serial}
use Rattle.st_model.proofs.ValidMerge.{valid_in}
use Rattle.st_laws.specs.Reads.{reads_in}
use Rattle.st_laws.proofs.Blocks.{after, change, touched, untouched}
use Rattle.st_laws.proofs.Puts.{AreApart, IsFrom, puts-apart, puts-blocks, puts-from}
use Rattle.st_laws.proofs.TwoBlocks as two

stretches-apart : (sector n : ℕ) → EachPair (λ (a b : Stretch). a.block ≡ b.block → ⊥) (stretches sector n)
stretches-apart sector n = here (min n (128 - sector % 128) == n)
  where
    no : sector / 128 ≡ sector / 128 + 1 → ⊥
    no e = omega (arith, e)

    here : (b : Bool) → EachPair (λ (a b : Stretch). a.block ≡ b.block → ⊥)
        (record { block = sector / 128; at = sector % 128; sectors = min n (128 - sector % 128) } ∷ cond b [] (record { block = sector / 128 + 1; at = 0; sectors = min (n - min n (128 - sector % 128)) 128 } ∷ []))
    here true = (tt, tt)
    here false = ((no, tt), (tt, tt))

module _ (p : PoolState) (h : IsWhole p) (fs : FsState) (i : IsIn fs p.filesystems) (sector : ℕ) (payload : Payload) (long : 512 * sectors_in payload ≤ length (bytes_in payload)) (some : 1 ≤ sectors_in payload) (most : sectors_in payload ≤ 128) (taken : ℕ) where
  abbrev n : ℕ
  n = sectors_in payload

  abbrev qs : List Put
  qs = puts p fs p.next_cell (bytes_in payload) (stretches sector n)

  from : AllByRecursion (IsFrom p fs p.next_cell) qs
  from = puts-from p fs p.next_cell (bytes_in payload) (stretches sector n)

  apart : EachPair AreApart qs
  apart = puts-apart p fs p.next_cell (bytes_in payload) (stretches sector n) i (All-weaker _ _ fs.map (λ (e : ℕ × ℕ) m. m.below_next) (valid_in p fs p.filesystems i h.filesystems).mapped) (stretches-apart sector n)

  full : (block : ℕ) → length (block_bytes p fs block) ≡ 65536
  full block = bytes_at-length p.cells (cell_at block fs.map) (All-weaker _ _ p.cells (λ (e : ℕ × List ℕ) c. c.full) h.cells)

  abbrev new : ℕ → List ℕ
  new block = block_bytes (after p h fs i qs taken from apart) (change p h fs i qs taken from apart fs) block

  abbrev old : ℕ → List ℕ
  old block = block_bytes p fs block

  is_first : two.IsFirst new old full sector n (bytes_in payload) long some most
  is_first = (touched p h fs i qs taken from apart).0

  is_second : two.IsSecond new old full sector n (bytes_in payload) long some most
  is_second e = here (min n (128 - sector % 128) == n) e (touched p h fs i qs taken from apart).1
    where
      here : (b : Bool) → b ≡ false
          → AllByRecursion (λ (q : Put). new q.block ≡ q.bytes) (puts p fs (cond (Rattle.st_limits.specs.Sums.takes_cell fs.map (Rattle.st_model.specs.Content.mapped_cells p.filesystems) (sector / 128)) (p.next_cell + 1) p.next_cell) (drop (512 * min n (128 - sector % 128)) (bytes_in payload)) (cond b [] (record { block = sector / 128 + 1; at = 0; sectors = min (n - min n (128 - sector % 128)) 128 } ∷ [])))
          → new (sector / 128 + 1) ≡ Rattle.st_model.specs.InPlace.over (old (sector / 128 + 1)) (512 * 0) (take (512 * min (n - min n (128 - sector % 128)) 128) (drop (512 * min n (128 - sector % 128)) (bytes_in payload)))
      here false e t = t.0
      here true e t = absurd cc

  off_blocks : (block : ℕ) → (block ≡ sector / 128 → ⊥) → ((min n (128 - sector % 128) == n) ≡ false → block ≡ sector / 128 + 1 → ⊥) → AllByRecursion (λ (s : Stretch). block ≡ s.block → ⊥) (stretches sector n)
  off_blocks block first second = (first, here (min n (128 - sector % 128) == n) second)
    where
      here : (b : Bool) → (b ≡ false → block ≡ sector / 128 + 1 → ⊥) → AllByRecursion (λ (s : Stretch). block ≡ s.block → ⊥) (cond b [] (record { block = sector / 128 + 1; at = 0; sectors = min (n - min n (128 - sector % 128)) 128 } ∷ []))
      here true k = tt
      here false k = (k refl, tt)

  is_rest : two.IsRest new old full sector n (bytes_in payload) long some most
  is_rest block first second = untouched p h fs i qs taken from apart fs i block (λ same. (refl, puts-blocks p fs (λ b. block ≡ b → ⊥) p.next_cell (bytes_in payload) (stretches sector n) (off_blocks block first second)))

  written-reads : (k : ℕ) → k < n → sector_bytes (after p h fs i qs taken from apart) (change p h fs i qs taken from apart fs) (sector + k) ≡ take 512 (drop (512 * k) (bytes_in payload))
  written-reads k less = two.read-back new old full sector n (bytes_in payload) long some most is_first is_second k less

  other-reads : (x : FsState) → IsIn x p.filesystems → (k : ℕ) → (x ≡ fs → sector ≤ k → k < sector + n → ⊥) → sector_bytes (after p h fs i qs taken from apart) (change p h fs i qs taken from apart x) k ≡ sector_bytes p x k
  other-reads x j k out = here (x.row.serial == fs.row.serial) refl
    where
      is_fs : (xs : List FsState) → AllByRecursion (λ (y : FsState). (y.row.serial == fs.row.serial) ≡ true → y ≡ fs) xs → IsIn x xs → (x.row.serial == fs.row.serial) ≡ true → x ≡ fs
      is_fs [] a j = absurd j
      is_fs (y ∷ ys) a (inl e) = subst (λ (z : FsState). (z.row.serial == fs.row.serial) ≡ true → z ≡ fs) e a.0
      is_fs (y ∷ ys) a (inr j) = is_fs ys a.1 j

      own : x ≡ fs → sector_bytes (after p h fs i qs taken from apart) (change p h fs i qs taken from apart x) k ≡ sector_bytes p x k
      own same =
          subst (λ (y : FsState). sector_bytes (after p h fs i qs taken from apart) (change p h fs i qs taken from apart y) k ≡ sector_bytes p y k) (sym same)
          (two.read-other new old full sector n (bytes_in payload) long some most is_first is_second is_rest k (out same))

      here : (b : Bool) → (x.row.serial == fs.row.serial) ≡ b → sector_bytes (after p h fs i qs taken from apart) (change p h fs i qs taken from apart x) k ≡ sector_bytes p x k
      here true e = own (is_fs p.filesystems (same_serial p.filesystems fs h.ordered i) j e)
      here false e = ap (λ (l : List ℕ). take 512 (drop (512 * (k % 128)) l)) (untouched p h fs i qs taken from apart x j (k / 128) (λ same. absurd (clash (x.row.serial == fs.row.serial) e same)))
        where
          clash : (b : Bool) → b ≡ false → b ≡ true → ⊥
          clash b f t = absurd cc

-- the answers of a write are refusals
abbrev IsRefusal : Option Reply → Type 0
IsRefusal None = Unit {0}
IsRefusal (Some r) = (r.code == 0) ≡ false

first_refusal : (answers : List (Option Reply)) → AllByRecursion IsRefusal answers → IsRefusal (first_answer answers)
first_refusal [] h = tt
first_refusal (None ∷ answers) h = first_refusal answers h.1
first_refusal (Some r ∷ answers) h = h.0

where_refused : (b : Bool) (c : Cause) → (Rattle.st_model.specs.Answer.code_of c == 0) ≡ false → IsRefusal (refused_where b c)
where_refused true c h = h
where_refused false c h = tt

if_refused : (b : Bool) (p : PoolState) → IsRefusal (cond b None (worn p))
if_refused true p = tt
if_refused false p = where_refused _ Worn refl

refusals : (fs : FsState) (sector n : ℕ) (p : PoolState) → AllByRecursion IsRefusal (write_answers fs sector n p)
refusals fs sector n p = (where_refused _ (BadSize fs.row.name) refl, (where_refused _ OutOfRange refl, (where_refused _ (MappingFull _ _) refl, (where_refused _ (NoSpace _ _) refl, (if_refused _ p, tt)))))

-- the sectors of a write that isn't refused are from 1 to 128
few_of : (n : ℕ) → ((n == 0) || nat_lt 128 n) ≡ false → (1 ≤ n) × (n ≤ 128)
few_of n h = (grind (arith, common_steps), grind (arith, common_steps))

few : (fs : FsState) (sector n : ℕ) (p : PoolState) → first_answer (write_answers fs sector n p) ≡ None → (1 ≤ n) × (n ≤ 128)
few fs sector n p none = few_of n (so_not _ (BadSize fs.row.name) (none_answers (write_answers fs sector n p) none).0)

same_name : (serial : ℕ) (m : List (ℕ × ℕ)) (file : Text) (x : FsState) → bytes_eq (with_map serial m x).row.name file ≡ bytes_eq x.row.name file
same_name serial m file x = here (x.row.serial == serial)
  where
    here : (b : Bool) → bytes_eq (cond b (record x { map = m }) x).row.name file ≡ bytes_eq x.row.name file
    here true = refl
    here false = refl

named : (file : Text) (p : PoolState) (x : FsState) → fs_at file p.filesystems ≡ Some x → IsIn x p.filesystems × (x.row.name ≡ file)
named file p x e = (found-holds (λ (y : FsState). IsIn y p.filesystems) _ p.filesystems x (All-in p.filesystems) e, (bytes_eq-Decides x.row.name file).0 (found_passes (λ (y : FsState). bytes_eq y.row.name file) p.filesystems x e))

-- a payload has the bytes of its sectors
pub bytes-long : (payload : Payload) → 512 * sectors_in payload ≤ length (bytes_in payload)
bytes-long (Fill byte n) = let is : length (replicate (512 * n) byte) ≡ 512 * n = length-replicate (512 * n) byte in omega (arith, is)
bytes-long (Given bytes) = let less = div-mul-le_self (length bytes) 512 in omega (arith, less)

-- a pool that is up
module _ (name : Text) (sector : ℕ) (payload : Payload) (p : PoolState) (h : IsWhole p) where
  pub pool-written : (fs_write name sector payload p).0.code ≡ 0 → (k : ℕ) → k < sectors_in payload → reads_in name (sector + k) (fs_write name sector payload p).1 ≡ Some (take 512 (drop (512 * k) (bytes_in payload)))
  unfolding fs_write
  pool-written ok k less = here (fs_at name p.filesystems) refl ok
    where
      none_zero : (c : ℕ) → c ≡ 0 → (c == 0) ≡ false → ⊥
      none_zero c e f = clash (c == 0) f (let same : (c == 0) ≡ true = grind (arith, common_steps) in same)
        where
          clash : (b : Bool) → b ≡ false → b ≡ true → ⊥
          clash b f t = absurd cc

      in_one : (fs : FsState) → fs_at name p.filesystems ≡ Some fs → (a : Option Reply) → first_answer (write_answers fs sector (sectors_in payload) p) ≡ a → IsRefusal a
          → (unless_answered a p (accepted (Written (sectors_in payload)), written fs (puts p fs p.next_cell (bytes_in payload) (stretches sector (sectors_in payload))) (cells_needed fs sector (sectors_in payload) p) p)).0.code ≡ 0
          → reads_in name (sector + k) (unless_answered a p (accepted (Written (sectors_in payload)), written fs (puts p fs p.next_cell (bytes_in payload) (stretches sector (sectors_in payload))) (cells_needed fs sector (sectors_in payload) p) p)).1 ≡ Some (take 512 (drop (512 * k) (bytes_in payload)))
      in_one fs e (Some r) is refused ok = absurd (none_zero r.code ok refused)
      in_one fs e None is refused ok =
          let f = few fs sector (sectors_in payload) p is in
          let taken = cells_needed fs sector (sectors_in payload) p in
          let qs = puts p fs p.next_cell (bytes_in payload) (stretches sector (sectors_in payload)) in
          let q = written fs qs taken p in
          let c = with_map fs.row.serial (with_blocks qs fs.map) in
          let found : fs_at name (map c p.filesystems) ≡ Some (c fs) = find_map (λ (x : FsState). bytes_eq x.row.name name) c p.filesystems (same_name fs.row.serial (with_blocks qs fs.map) name) ∙ ap (option_map c) e in
          ap (option_map (λ (x : FsState). sector_bytes q x (sector + k))) found
          ∙ ap (λ (l : List ℕ). Some l) (written-reads p h fs (named name p fs e).0 sector payload (bytes-long payload) f.0 f.1 taken k less)

      here : (o : Option FsState) → fs_at name p.filesystems ≡ o → (in_fs (write_fs sector payload) p o).0.code ≡ 0 → reads_in name (sector + k) (in_fs (write_fs sector payload) p o).1 ≡ Some (take 512 (drop (512 * k) (bytes_in payload)))
      here None e ok = absurd cc
      here (Some fs) e ok = in_one fs e (first_answer (write_answers fs sector (sectors_in payload) p)) refl (first_refusal (write_answers fs sector (sectors_in payload) p) (refusals fs sector (sectors_in payload) p)) ok

  pub pool-other : (file : Text) (k : ℕ) → (file ≡ name → sector ≤ k → k < sector + sectors_in payload → ⊥) → reads_in file k (fs_write name sector payload p).1 ≡ reads_in file k p
  unfolding fs_write
  pool-other file k out = here (fs_at name p.filesystems) refl
    where
      in_one : (fs : FsState) → fs_at name p.filesystems ≡ Some fs → (a : Option Reply) → first_answer (write_answers fs sector (sectors_in payload) p) ≡ a
          → reads_in file k (unless_answered a p (accepted (Written (sectors_in payload)), written fs (puts p fs p.next_cell (bytes_in payload) (stretches sector (sectors_in payload))) (cells_needed fs sector (sectors_in payload) p) p)).1 ≡ reads_in file k p
      in_one fs e (Some r) is = refl
      in_one fs e None is =
          let qs = puts p fs p.next_cell (bytes_in payload) (stretches sector (sectors_in payload)) in
          let c = with_map fs.row.serial (with_blocks qs fs.map) in
          let found : fs_at file (map c p.filesystems) ≡ option_map c (fs_at file p.filesystems) = find_map (λ (x : FsState). bytes_eq x.row.name file) c p.filesystems (same_name fs.row.serial (with_blocks qs fs.map) file) in
          ap (option_map (λ (x : FsState). sector_bytes (written fs qs (cells_needed fs sector (sectors_in payload) p) p) x k)) found ∙ by (fs_at file p.filesystems) refl
        where
          by : (o : Option FsState) → fs_at file p.filesystems ≡ o
              → option_map (λ (x : FsState). sector_bytes (written fs (puts p fs p.next_cell (bytes_in payload) (stretches sector (sectors_in payload))) (cells_needed fs sector (sectors_in payload) p) p) x k)
              (option_map (with_map fs.row.serial (with_blocks (puts p fs p.next_cell (bytes_in payload) (stretches sector (sectors_in payload))) fs.map)) o)
              ≡ option_map (λ (x : FsState). sector_bytes p x k) o
          by None g = refl
          by (Some x) g =
              let f = few fs sector (sectors_in payload) p is in
              let mine = named name p fs e in
              let other = named file p x g in
              ap (λ (l : List ℕ). Some l)
              (other-reads p h fs mine.0 sector payload (bytes-long payload) f.0 f.1 (cells_needed fs sector (sectors_in payload) p) x other.0 k
              (λ same. out (sym other.1 ∙ ap (λ (y : FsState). y.row.name) same ∙ mine.1)))

      here : (o : Option FsState) → fs_at name p.filesystems ≡ o → reads_in file k (in_fs (write_fs sector payload) p o).1 ≡ reads_in file k p
      here None e = refl
      here (Some fs) e = in_one fs e (first_answer (write_answers fs sector (sectors_in payload) p)) refl
