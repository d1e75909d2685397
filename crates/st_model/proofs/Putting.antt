-- what a write puts: cells that the pool may have, and no more of them than it needs
use Rattle.std.proofs.Common.{◌≡◌, ◌≢◌, ℕ, ◌+◌, ◌*◌, ◌<◌, ◌≤◌, List, [], ◌∷◌, length, map, take, drop, replicate, Bool, true, false, cond, Option, Some, None, is_none, unwrap_or, refl, ◌∙◌, arith}
use Rattle.std.proofs.lemmas.List.{length-replicate}
use Rattle.std.specs.Prelude.{nat_eq}
use Rattle.std.specs.List.{AllByRecursion}
use Rattle.std.specs.Map.{lookup}
use Rattle.std.specs.BTreeMap.{insert_entry}
use Rattle.std.specs.Ordering.{nat_cmp}
use Rattle.std.proofs.lemmas.Grind.{common_steps}
use Rattle.std.proofs.lemmas.List.Sums.{sum_by-cons, sum_by-le-sum_by}
use Rattle.st_limits.specs.Sums.{takes_cell, needed, more}
use Rattle.st_model.specs.declared.state.FsState.{FsState}
use Rattle.st_model.specs.declared.state.PoolState.{PoolState}
use Rattle.st_model.specs.ValidPool.{EachPair, IsMap, has_number}
use Rattle.st_model.proofs.Lists.{All-weaker}
use Rattle.st_model.specs.Content.{Stretch, cell_at, mapped_cells, bytes_at, block_bytes}
use Rattle.st_model.specs.InPlace.{over}
use Rattle.st_model.specs.steps.FsWrite.{Put, puts, with_blocks, with_cells, in_front}
use Rattle.st_model.proofs.Inserted.{insert-all, insert-map, insert-length, insert-has, insert-there, lookup-insert, has-lookup, lookup-holds}
use Rattle.st_model.proofs.Promoted.{promoted-all, promoted-distinct, promoted-length}

-- lengths of bytes
pub over-length : (old : List ℕ) (at n : ℕ) (piece : List ℕ) → length piece ≤ n → at + n ≤ length old → length (over old at piece) ≡ length old
over-length old at n piece few fits = grind (arith, common_steps)

pub bytes_at-length : (cells : List (ℕ × List ℕ)) (o : Option ℕ) → AllByRecursion (λ (e : ℕ × List ℕ). length e.1 ≡ 65536) cells → length (bytes_at cells o) ≡ 65536
bytes_at-length cells None h = length-replicate {A = ℕ} 65536 0
bytes_at-length cells (Some cell) h = here (lookup (nat_eq cell) cells) refl
  where
    here : (o : Option (List ℕ)) → lookup (nat_eq cell) cells ≡ o → length (unwrap_or o (replicate 65536 0)) ≡ 65536
    here None e = length-replicate {A = ℕ} 65536 0
    here (Some bytes) e = lookup-holds (λ (x : List ℕ). length x ≡ 65536) (nat_eq cell) cells bytes h e

-- a block that takes no cell has one of its own
record HasOwn (fs : FsState) (block : ℕ) : Type 0 where
  cell : ℕ
  is : cell_at block fs.map ≡ Some cell

unmapped_takes : (entries : List (ℕ × ℕ)) (cells : List ℕ) (block : ℕ) → cell_at block entries ≡ None → takes_cell entries cells block ≡ true
unmapped_takes entries cells block e = rw e refl

own_cell : (fs : FsState) (cells : List ℕ) (block : ℕ) → takes_cell fs.map cells block ≡ false → HasOwn fs block
own_cell fs cells block h = here (cell_at block fs.map) refl
  where
    clash : (b : Bool) → b ≡ false → b ≡ true → ⊥
    clash b f t = absurd cc

    here : (o : Option ℕ) → cell_at block fs.map ≡ o → HasOwn fs block
    here None e = absurd (clash (takes_cell fs.map cells block) h (unmapped_takes fs.map cells block e))
    here (Some cell) e = record { cell = cell; is = e }

abbrev pub blocks_of : List Stretch → List ℕ
blocks_of ss = map (λ (s : Stretch). s.block) ss

-- what is known of the cells of a filesystem's map
pub record IsOwned (top : ℕ) (cells : List (ℕ × List ℕ)) (cell : ℕ) : Type 0 where
  pub from_one : 1 ≤ cell
  pub below : cell < top
  pub kept : has_number cell cells ≡ true

-- what is put is a cell of the pool, or a fresh one
pub record IsSound (blocks top : ℕ) (q : Put) : Type 0 where
  pub within : q.block < blocks
  pub from_one : 1 ≤ q.cell
  pub below : q.cell < top
  pub full : length q.bytes ≡ 65536

-- a stretch of a filesystem of so many blocks
pub record Fits (blocks : ℕ) (s : Stretch) : Type 0 where
  pub within : s.block < blocks
  pub inside : s.at + s.sectors ≤ 128

module _ (p : PoolState) (fs : FsState) where
  abbrev takes : ℕ → Bool
  takes block = takes_cell fs.map (mapped_cells p.filesystems) block

  abbrev pub needs : List Stretch → ℕ
  needs ss = needed fs.map (mapped_cells p.filesystems) (blocks_of ss)

  needs_step : (s : Stretch) (ss : List Stretch) → needs (s ∷ ss) ≡ cond (takes s.block) 1 0 + needs ss
  needs_step s ss = sum_by-cons (λ block. cond (takes block) 1 0) s.block (blocks_of ss)

  -- the cell that a block gets
  abbrev given : ℕ → ℕ → ℕ
  given next block = cond (takes block) next (unwrap_or (cell_at block fs.map) next)

  abbrev after : ℕ → ℕ → ℕ
  after next block = cond (takes block) (next + 1) next

  given-owned : (next top : ℕ) (s : Stretch) (ss : List Stretch) (cells : List (ℕ × List ℕ)) → AllByRecursion (λ (e : ℕ × ℕ). IsOwned next cells e.1) fs.map → 1 ≤ next → next + needs (s ∷ ss) ≤ top
      → (1 ≤ given next s.block) × ((given next s.block < top) × ((next ≤ after next s.block) × (after next s.block + needs ss ≤ top)))
  given-owned next top s ss cells own one room = here (takes s.block) refl (needs_step s ss)
    where
      here : (b : Bool) → takes s.block ≡ b → needs (s ∷ ss) ≡ cond b 1 0 + needs ss
          → (1 ≤ cond b next (unwrap_or (cell_at s.block fs.map) next)) × ((cond b next (unwrap_or (cell_at s.block fs.map) next) < top) × ((next ≤ cond b (next + 1) next) × (cond b (next + 1) next + needs ss ≤ top)))
      here true e step = (one, (omega (arith, room, step), (omega arith, omega (arith, room, step))))
      here false e step =
          let mine = own_cell fs (mapped_cells p.filesystems) s.block e in
          let o = lookup-holds (λ (c : ℕ). IsOwned next cells c) (nat_eq s.block) fs.map mine.cell own mine.is in
          let low = o.below in
          rw mine.is (o.from_one, (omega (arith, low, room, step), (omega arith, omega (arith, room, step))))

  -- all that is put is sound
  pub puts-sound : (blocks next top : ℕ) (bytes : List ℕ) (ss : List Stretch) (cells : List (ℕ × List ℕ)) → AllByRecursion (λ (e : ℕ × ℕ). IsOwned next cells e.1) fs.map → 1 ≤ next → next + needs ss ≤ top
      → AllByRecursion (λ (e : ℕ × List ℕ). length e.1 ≡ 65536) p.cells → AllByRecursion (Fits blocks) ss → AllByRecursion (IsSound blocks top) (puts p fs next bytes ss)
  puts-sound blocks next top bytes [] cells own one room full fits = tt
  puts-sound blocks next top bytes (s ∷ ss) cells own one room full fits =
      let g = given-owned next top s ss cells own one room in
      let inside = fits.0.inside in
      let whole = bytes_at-length p.cells (cell_at s.block fs.map) full in
      let piece = take (512 * s.sectors) bytes in
      let few : length piece ≤ 512 * s.sectors = grind (arith, common_steps) in (
        record { within = fits.0.within; from_one = g.0; below = g.1.0; full = over-length (block_bytes p fs s.block) (512 * s.at) (512 * s.sectors) piece few (omega (arith, inside, whole)) ∙ whole },
        puts-sound blocks (after next s.block) top (drop (512 * s.sectors) bytes) ss cells
            (All-weaker _ _ fs.map (λ (e : ℕ × ℕ) o. record { from_one = o.from_one; below = further e.1 (after next s.block) o.below g.1.1.0; kept = o.kept }) own)
            (at_least (after next s.block) one g.1.1.0) g.1.1.1 full fits.1,
      )
    where
      further : (n m : ℕ) → n < next → next ≤ m → n < m
      further n m a b = omega (arith, a, b)

      at_least : (m : ℕ) → 1 ≤ next → next ≤ m → 1 ≤ m
      at_least m a b = omega (arith, a, b)

  -- no more cells are kept than were, and those that are needed
  pub cells-length : (next : ℕ) (bytes : List ℕ) (ss : List Stretch) (cells : List (ℕ × List ℕ)) → IsMap cells → AllByRecursion (λ (e : ℕ × ℕ). has_number e.1 cells ≡ true) fs.map
      → length (with_cells (puts p fs next bytes ss) cells) ≤ length cells + needs ss
  cells-length next bytes [] cells ordered kept = omega arith
  cells-length next bytes (s ∷ ss) cells ordered kept =
      let new = over (block_bytes p fs s.block) (512 * s.at) (take (512 * s.sectors) bytes) in
      let more = insert_entry nat_cmp cells (given next s.block) new in
      let rest = cells-length (after next s.block) (drop (512 * s.sectors) bytes) ss more (insert-map (given next s.block) new cells ordered) (All-weaker _ _ fs.map (λ (e : ℕ × ℕ) h. insert-has e.1 (given next s.block) new cells h) kept) in
      let one : length more ≡ length cells + cond (is_none (lookup (nat_eq (given next s.block)) cells)) 1 0 = insert-length (given next s.block) new cells ordered in
      let most : cond (is_none (lookup (nat_eq (given next s.block)) cells)) 1 0 ≤ cond (takes s.block) 1 0 = here (takes s.block) refl in
      let step = needs_step s ss in
      omega (arith, rest, one, most, step)
    where
      up_to : (b : Bool) → cond b 1 0 ≤ 1
      up_to true = omega arith
      up_to false = omega arith

      none : (b : Bool) → b ≡ false → cond b 1 0 ≤ 0
      none b e = rw e (omega arith)

      here : (b : Bool) → takes s.block ≡ b → cond (is_none (lookup (nat_eq (cond b next (unwrap_or (cell_at s.block fs.map) next))) cells)) 1 0 ≤ cond b 1 0
      here true e = up_to _
      here false e =
          let mine = own_cell fs (mapped_cells p.filesystems) s.block e in
          let there = lookup-holds (λ (c : ℕ). has_number c cells ≡ true) (nat_eq s.block) fs.map mine.cell kept mine.is in
          rw mine.is (none _ (has-lookup mine.cell cells there))

  more_step : (entries : List (ℕ × ℕ)) (s : Stretch) (ss : List Stretch) → more entries (blocks_of (s ∷ ss)) ≡ cond (is_none (lookup (nat_eq s.block) entries)) 1 0 + more entries (blocks_of ss)
  more_step entries s ss = sum_by-cons (λ block. cond (is_none (lookup (nat_eq block) entries)) 1 0) s.block (blocks_of ss)

  fewer_more : (entries : List (ℕ × ℕ)) (k v : ℕ) (blocks : List ℕ) → more (insert_entry nat_cmp entries k v) blocks ≤ more entries blocks
  fewer_more entries k v blocks = sum_by-le-sum_by _ (λ block. cond (is_none (lookup (nat_eq block) entries)) 1 0) blocks (λ block. rw (lookup-insert block k v entries) (here (nat_eq block k) (lookup (nat_eq block) entries)))
    where
      here : (b : Bool) (o : Option ℕ) → cond (is_none (cond b (Some v) o)) 1 0 ≤ cond (is_none o) 1 0
      here true o = omega arith
      here false o = omega arith

  -- no more blocks are mapped than were, and those that are new
  pub blocks-length : (next : ℕ) (bytes : List ℕ) (ss : List Stretch) (entries : List (ℕ × ℕ)) → IsMap entries → length (with_blocks (puts p fs next bytes ss) entries) ≤ length entries + more entries (blocks_of ss)
  blocks-length next bytes [] entries ordered = omega arith
  blocks-length next bytes (s ∷ ss) entries ordered =
      let cell = given next s.block in
      let put = insert_entry nat_cmp entries s.block cell in
      let rest = blocks-length (after next s.block) (drop (512 * s.sectors) bytes) ss put (insert-map s.block cell entries ordered) in
      let one = insert-length s.block cell entries ordered in
      let less = fewer_more entries s.block cell (blocks_of ss) in
      let step = more_step entries s ss in
      omega (arith, rest, one, less, step)

-- what was put
pub with_blocks-all : (P : ℕ × ℕ → Type 0) (qs : List Put) (entries : List (ℕ × ℕ)) → AllByRecursion P entries → AllByRecursion (λ (q : Put). P (q.block, q.cell)) qs → AllByRecursion P (with_blocks qs entries)
with_blocks-all P [] entries h g = h
with_blocks-all P (q ∷ qs) entries h g = with_blocks-all P qs (insert_entry nat_cmp entries q.block q.cell) (insert-all P q.block q.cell entries h g.0) g.1

pub with_blocks-map : (qs : List Put) (entries : List (ℕ × ℕ)) → IsMap entries → IsMap (with_blocks qs entries)
with_blocks-map [] entries h = h
with_blocks-map (q ∷ qs) entries h = with_blocks-map qs (insert_entry nat_cmp entries q.block q.cell) (insert-map q.block q.cell entries h)

pub with_cells-all : (P : ℕ × List ℕ → Type 0) (qs : List Put) (cells : List (ℕ × List ℕ)) → AllByRecursion P cells → AllByRecursion (λ (q : Put). P (q.cell, q.bytes)) qs → AllByRecursion P (with_cells qs cells)
with_cells-all P [] cells h g = h
with_cells-all P (q ∷ qs) cells h g = with_cells-all P qs (insert_entry nat_cmp cells q.cell q.bytes) (insert-all P q.cell q.bytes cells h g.0) g.1

pub with_cells-map : (qs : List Put) (cells : List (ℕ × List ℕ)) → IsMap cells → IsMap (with_cells qs cells)
with_cells-map [] cells h = h
with_cells-map (q ∷ qs) cells h = with_cells-map qs (insert_entry nat_cmp cells q.cell q.bytes) (insert-map q.cell q.bytes cells h)

pub with_cells-has : (n : ℕ) (qs : List Put) (cells : List (ℕ × List ℕ)) → has_number n cells ≡ true → has_number n (with_cells qs cells) ≡ true
with_cells-has n [] cells h = h
with_cells-has n (q ∷ qs) cells h = with_cells-has n qs (insert_entry nat_cmp cells q.cell q.bytes) (insert-has n q.cell q.bytes cells h)

pub with_cells-there : (qs : List Put) (cells : List (ℕ × List ℕ)) → AllByRecursion (λ (q : Put). has_number q.cell (with_cells qs cells) ≡ true) qs
with_cells-there [] cells = tt
with_cells-there (q ∷ qs) cells =
    let more = insert_entry nat_cmp cells q.cell q.bytes in
    (with_cells-has q.cell qs more (insert-there q.cell q.bytes cells), with_cells-there qs more)

pub in_front-all : (P : ℕ → Type 0) (qs : List Put) (cells : List ℕ) → AllByRecursion (λ (q : Put). P q.cell) qs → AllByRecursion P cells → AllByRecursion P (in_front qs cells)
in_front-all P [] cells g h = h
in_front-all P (q ∷ qs) cells g h = in_front-all P qs _ g.1 (promoted-all P q.cell cells g.0 h)

pub in_front-length : (qs : List Put) (cells : List ℕ) → length (in_front qs cells) ≤ length cells
in_front-length [] cells = omega arith
in_front-length (q ∷ qs) cells =
    let rest = in_front-length qs (Rattle.st_limits.specs.Cache.promoted q.cell cells) in
    let one = promoted-length q.cell cells in
    omega (arith, rest, one)

pub in_front-distinct : (qs : List Put) (cells : List ℕ) → EachPair (λ (a b : ℕ). a ≢ b) cells → EachPair (λ (a b : ℕ). a ≢ b) (in_front qs cells)
in_front-distinct [] cells h = h
in_front-distinct (q ∷ qs) cells h = in_front-distinct qs (Rattle.st_limits.specs.Cache.promoted q.cell cells) (promoted-distinct q.cell cells h)
