-- FsWrite keeps its pool whole
use Rattle.std.proofs.Common.{◌≡◌, ℕ, ◌+◌, ◌-◌, ◌*◌, ◌/◌, ◌%◌, ◌<◌, ◌≤◌, ◌==◌, ◌&&◌, ◌||◌, List, [], ◌∷◌, length, map, Bool, true, false, cond, None, nat_lt, min, refl, ap, arith}
use Rattle.std.specs.List.{AllByRecursion}
use Rattle.std.proofs.lemmas.Grind.{common_steps}
use Rattle.std.proofs.lemmas.List.Sums.{count_by-le-length}
use Rattle.std.proofs.Math.Nat.{div-mul-le_self, lt-div-mul-add, mod-eq-sub-div-mul, min-le_right, min-eq_left}
use Rattle.st_limits.specs.Sums.{takes_cell, more}
use Rattle.st_units.specs.declared.cause.Cause.TheVariants.{BadSize, OutOfRange, MappingFull, NoSpace, Worn}
use Rattle.st_model.specs.declared.call.Payload.{Payload}
use Rattle.st_model.specs.declared.state.FsState.{FsState}
use Rattle.st_model.specs.declared.state.PoolState.{PoolState}
use Rattle.st_model.specs.Answer.{first_answer}
use Rattle.st_model.specs.Checks.{worn}
use Rattle.st_model.specs.Look.{Text}
use Rattle.st_model.specs.Step.{changes}
use Rattle.st_model.specs.Sums.{free, mappings}
use Rattle.st_model.specs.ValidPool.{IsWhole}
use Rattle.st_model.proofs.Among.{IsIn}
use Rattle.st_model.proofs.Answers0.{IsNoChange, changed-unanswered, no_change_where, none_answers, not_worn, so_not, whole_unless}
use Rattle.st_model.proofs.Lists.{All-weaker}
use Rattle.st_model.proofs.ValidFields.{in_again, in_whole}
use Rattle.st_model.specs.Content.{Stretch, stretches, mapped_cells, touched}
use Rattle.st_model.specs.InPlace.{sectors_in}
use Rattle.st_model.specs.steps.FsWrite.{bytes_in, cells_needed, fs_write, puts, write_answers, write_fs}
use Rattle.st_model.proofs.Putting.{Fits, blocks-length, cells-length, puts-sound}
use Rattle.st_model.proofs.Written.{IsPaid, written-whole}
use Rattle.st_model.proofs.ValidMerge.{valid_in}

-- a stretch lies in its block
pub stretches-inside : (sector n : ℕ) → AllByRecursion (λ (s : Stretch). s.at + s.sectors ≤ 128) (stretches sector n)
stretches-inside sector n = (first, rest (min n (128 - sector % 128) == n))
  where
    first : sector % 128 + min n (128 - sector % 128) ≤ 128
    first =
        let less = min-le_right n (128 - sector % 128) in
        let low = lt-div-mul-add {a = sector} {b = 128} (omega arith) in
        let is = mod-eq-sub-div-mul sector 128 in
        omega (arith, less, low, is)

    rest : (b : Bool) → AllByRecursion (λ (s : Stretch). s.at + s.sectors ≤ 128) (cond b [] (record { block = sector / 128 + 1; at = 0; sectors = min (n - min n (128 - sector % 128)) 128 } ∷ []))
    rest true = tt
    rest false = (let less = min-le_right (n - min n (128 - sector % 128)) 128 in omega (arith, less), tt)

pub stretches-few : (sector n : ℕ) → length (touched sector n) ≤ 2
stretches-few sector n = here (min n (128 - sector % 128) == n)
  where
    here : (b : Bool) → length (map (λ (s : Stretch). s.block) (record { block = sector / 128; at = sector % 128; sectors = min n (128 - sector % 128) } ∷ cond b [] (record { block = sector / 128 + 1; at = 0; sectors = min (n - min n (128 - sector % 128)) 128 } ∷ []))) ≤ 2
    here true = omega arith
    here false = omega arith

-- and in the filesystem, where the sectors do
pub stretches-fit : (sector n size : ℕ) → 1 ≤ n → sector + n ≤ size → size % 128 ≡ 0 → AllByRecursion (Fits (size / 128)) (stretches sector n)
stretches-fit sector n size some fits whole =
    let inside = stretches-inside sector n in
    (record { within = first; inside = inside.0 }, rest (min n (128 - sector % 128) == n) refl inside.1)
  where
    size_is : size / 128 * 128 ≡ size
    size_is = let is = mod-eq-sub-div-mul size 128 in let low = div-mul-le_self size 128 in omega (arith, whole, is, low)

    first : sector / 128 < size / 128
    first = let low = div-mul-le_self sector 128 in let is = size_is in omega (arith, low, is, some, fits)

    second : (min n (128 - sector % 128) == n) ≡ false → sector / 128 + 1 < size / 128
    second e =
        let at = mod-eq-sub-div-mul sector 128 in
        let low = div-mul-le_self sector 128 in
        let high = lt-div-mul-add {a = sector} {b = 128} (omega arith) in
        let is = size_is in
        let long : 128 - sector % 128 < n = above (128 - sector % 128) e in
        omega (arith, at, low, high, is, long, fits)
      where
        above : (m : ℕ) → (min n m == n) ≡ false → m < n
        above m e = grind (arith, common_steps, min-eq_left)

    rest : (b : Bool) → (min n (128 - sector % 128) == n) ≡ b → AllByRecursion (λ (s : Stretch). s.at + s.sectors ≤ 128) (cond b [] (record { block = sector / 128 + 1; at = 0; sectors = min (n - min n (128 - sector % 128)) 128 } ∷ []))
        → AllByRecursion (Fits (size / 128)) (cond b [] (record { block = sector / 128 + 1; at = 0; sectors = min (n - min n (128 - sector % 128)) 128 } ∷ []))
    rest true e inside = tt
    rest false e inside = (record { within = second e; inside = inside.0 }, tt)

some_of : (n : ℕ) → ((n == 0) || nat_lt 128 n) ≡ false → 1 ≤ n
some_of n h = grind (arith, common_steps)

not_less : (a b : ℕ) → nat_lt a b ≡ false → b ≤ a
not_less a b h = grind (arith, common_steps)

is_paid : (p : PoolState) (taken : ℕ) → taken ≤ 2 → p.next_cell ≤ 2 * p.commits → p.commits ≤ 281474976710656 → cond (taken == 0) None (worn p) ≡ None → IsPaid p taken (cond (taken == 0) p.commits (p.commits + 1))
is_paid p taken few bounded most h = here (taken == 0) refl h
  where
    is_none : (taken == 0) ≡ true → taken ≡ 0
    is_none e = grind (arith, common_steps)

    here : (b : Bool) → (taken == 0) ≡ b → cond b None (worn p) ≡ None → IsPaid p taken (cond b p.commits (p.commits + 1))
    here true e h = let none = is_none e in record { cells = omega (arith, none, bounded); no_less = omega arith; bounded = most }
    here false e h = let less = not_worn p h most in record { cells = omega (arith, few, bounded); no_less = omega arith; bounded = omega (arith, less) }

write_fs-whole : (sector : ℕ) (payload : Payload) (fs : FsState) (p : PoolState) → IsIn fs p.filesystems → IsWhole p → IsWhole (write_fs sector payload fs p).1
write_fs-whole sector payload fs p i h =
    whole_unless (first_answer (write_answers fs sector n p)) p _ h (λ none.
    let all = none_answers (write_answers fs sector n p) none in
    let v = valid_in p fs p.filesystems i h.filesystems in
    let some = some_of n (so_not _ (BadSize fs.row.name) all.0) in
    let fits = not_less fs.row.size (sector + n) (so_not _ OutOfRange all.1.0) in
    let maps = not_less 32768 (mappings p + more fs.map (touched sector n)) (so_not _ (MappingFull _ _) all.1.1.0) in
    let space = not_less (free p) taken (so_not _ (NoSpace _ _) all.1.1.1.0) in
    let few : taken ≤ 2 = (let most = count_by-le-length (λ block. takes_cell fs.map (mapped_cells p.filesystems) block) (touched sector n) in let two = stretches-few sector n in omega (arith, most, two)) in
    let used = h.used in
    let cells = cells-length p fs p.next_cell (bytes_in payload) (stretches sector n) p.cells h.cell_map (All-weaker _ _ fs.map (λ (e : ℕ × ℕ) m. m.kept) v.mapped) in
    written-whole fs (puts p fs p.next_cell (bytes_in payload) (stretches sector n)) taken p
    (puts-sound p fs (fs.row.size / 128) p.next_cell (p.next_cell + taken) (bytes_in payload) (stretches sector n) p.cells
    (All-weaker _ _ fs.map (λ (e : ℕ × ℕ) m. record { from_one = m.from_one; below = m.below_next; kept = m.kept }) v.mapped) h.cell_from_one (omega arith)
    (All-weaker _ _ p.cells (λ (e : ℕ × List ℕ) c. c.full) h.cells) (stretches-fit sector n fs.row.size some fits v.size.whole))
    (more fs.map (touched sector n)) i h (omega (arith, cells, space, used))
    (blocks-length p fs p.next_cell (bytes_in payload) (stretches sector n) fs.map v.map) maps
    (is_paid p taken few h.cell_bounded h.commits all.1.1.1.1.0))
  where
    n : ℕ
    n = sectors_in payload

    taken : ℕ
    taken = cells_needed fs sector n p

pub fs_write-whole : (name : Text) (sector : ℕ) (payload : Payload) (p : PoolState) → IsWhole p → IsWhole (fs_write name sector payload p).1
unfolding fs_write
fs_write-whole name sector payload p h = in_whole (write_fs sector payload) name p h (λ fs i. write_fs-whole sector payload fs p i h)

no_change_paid : (b : Bool) (p : PoolState) → IsNoChange (cond b None (worn p))
no_change_paid true p = tt
no_change_paid false p = no_change_where _ Worn

write_fs-again : (sector : ℕ) (payload : Payload) (fs : FsState) (p q : PoolState) → first_answer (write_answers fs sector (sectors_in payload) q) ≡ first_answer (write_answers fs sector (sectors_in payload) p)
    → (((write_fs sector payload fs p).0.code == 0) && changes (write_fs sector payload fs p).0.result) ≡ true → (write_fs sector payload fs q).0.code ≡ 0
write_fs-again sector payload fs p q same h =
    let n = sectors_in payload in
    let none : first_answer (write_answers fs sector n p) ≡ None =
    changed-unanswered (write_answers fs sector n p) p _
    (no_change_where _ (BadSize fs.row.name), (no_change_where _ OutOfRange, (no_change_where _ (MappingFull _ _), (no_change_where _ (NoSpace _ _), (no_change_paid _ p, tt))))) h in
    rw (same, none) refl

-- the same in a pool that differs in its mode and its cache alone
pub fs_write-again : (name : Text) (sector : ℕ) (payload : Payload) (p q : PoolState) → q.filesystems ≡ p.filesystems → ((fs : FsState) → write_answers fs sector (sectors_in payload) q ≡ write_answers fs sector (sectors_in payload) p)
    → (((fs_write name sector payload p).0.code == 0) && changes (fs_write name sector payload p).0.result) ≡ true → (fs_write name sector payload q).0.code ≡ 0
unfolding fs_write
fs_write-again name sector payload p q e same = in_again (write_fs sector payload) name p q e (λ fs. write_fs-again sector payload fs p q (ap first_answer (same fs)))
