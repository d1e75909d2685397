-- a pool stays whole where bytes of its cells change in place
use Rattle.std.proofs.Common.{◌≡◌, ℕ, ◌+◌, ◌*◌, ◌<◌, ◌≤◌, ◌||◌, List, [], ◌∷◌, length, map, take, drop, Bool, true, false, cond, Option, Some, None, refl, ap, ◌∙◌, arith}
use Rattle.std.specs.Prelude.{nat_eq, flat_map}
use Rattle.std.specs.List.{AllByRecursion, list_any}
use Rattle.std.proofs.lemmas.List.{length-map}
use Rattle.st_limits.specs.Sums.{is_shared}
use Rattle.st_model.specs.declared.call.Call.TheVariants.{FsWrite}
use Rattle.st_model.specs.declared.call.Payload.{Payload}
use Rattle.st_model.specs.declared.state.CacheState.{CacheState}
use Rattle.st_model.specs.declared.state.FsState.{FsState}
use Rattle.st_model.specs.declared.state.PoolState.{PoolState}
use Rattle.st_model.specs.Checks.{fs_at}
use Rattle.st_model.specs.Look.{Text}
use Rattle.st_model.specs.ValidPool.{IsMap, has_number, IsCell, IsWhole, IsCacheOf}
use Rattle.st_model.proofs.Lists.{All-map, All-weaker, EachPair-map}
use Rattle.st_model.proofs.Mapped.{any_map}
use Rattle.std.proofs.ByRecursion.{All-append}
use Rattle.st_model.proofs.ValidRename.{EachPair-with}
use Rattle.st_model.specs.Content.{Stretch, cell_at, mapped_cells, stretches}
use Rattle.st_model.specs.InPlace.{Piece, in_place, over, piece_in, pieces_at, put_cell, put_pieces, sectors_in, with_bytes}
use Rattle.st_model.proofs.Promoted.{take-most}
use Rattle.st_model.proofs.Putting.{over-length}
use Rattle.st_model.proofs.ValidWrite.{stretches-inside}

-- the cell keeps its number, and its bytes their length
record KeepsCell (a b : ℕ × List ℕ) : Type 0 where
  number : b.0 ≡ a.0
  bytes : length b.1 ≡ length a.1

any_same : (f g : ℕ × List ℕ → Bool) (xs : List (ℕ × List ℕ)) → ((x : ℕ × List ℕ) → f x ≡ g x) → list_any f xs ≡ list_any g xs
any_same f g [] h = refl
any_same f g (x ∷ xs) h = rw (h x) (ap (λ b. g x || b) (any_same f g xs h))

module _ (c : ℕ × List ℕ → ℕ × List ℕ) (k : (e : ℕ × List ℕ) → (c e).0 ≡ e.0) where
  numbers_stay : (n : ℕ) (cells : List (ℕ × List ℕ)) → has_number n (map c cells) ≡ has_number n cells
  numbers_stay n cells = any_map _ c cells ∙ any_same _ _ cells (λ e. rw (k e) refl)

  map_stays : (cells : List (ℕ × List ℕ)) → IsMap cells → IsMap (map c cells)
  map_stays cells h = EachPair-map (λ (a b : ℕ × List ℕ). a.0 < b.0) c cells (EachPair-with (λ e. Unit {0}) (λ (a b : ℕ × List ℕ). a.0 < b.0) _ cells (λ x y a b r. rw (k x, k y) r) (all cells) h)
    where
      all : (xs : List (ℕ × List ℕ)) → AllByRecursion (λ e. Unit {0}) xs
      all [] = tt
      all (x ∷ xs) = (tt, all xs)

  cache_stays : (p : PoolState) (o : Option CacheState) → IsCacheOf p o → IsCacheOf (record p { cells = map c p.cells }) o
  cache_stays p None h = h
  cache_stays p (Some cache) h = record {
    on = h.on;
    capacity = h.capacity;
    few = h.few;
    distinct = h.distinct;
    kept = All-weaker _ _ cache.cells (λ n there. numbers_stay n p.cells ∙ there) h.kept;
    hits = h.hits;
    misses = h.misses;
  }

  recoded-whole : (p : PoolState) → AllByRecursion (λ (e : ℕ × List ℕ). length e.1 ≡ 65536 → length (c e).1 ≡ 65536) p.cells → IsWhole p → IsWhole (record p { cells = map c p.cells })
  recoded-whole p full h = record {
    devices = h.devices;
    ordered = h.ordered;
    filesystems = All-weaker _ _ p.filesystems (λ (fs : FsState) v. record {
      from_one = v.from_one;
      below_next = v.below_next;
      size = v.size;
      limit = v.limit;
      origin = v.origin;
      mark = v.mark;
      map = v.map;
      mapped = All-weaker _ _ fs.map (λ (e : ℕ × ℕ) m. record { within = m.within; from_one = m.from_one; below_next = m.below_next; kept = numbers_stay e.1 p.cells ∙ m.kept }) v.mapped;
    }) h.filesystems;
    count = h.count;
    mappings = h.mappings;
    cell_map = map_stays p.cells h.cell_map;
    cells = All-map _ c p.cells (All-weaker _ _ p.cells (λ (e : ℕ × List ℕ) i. record { mapped = rw (k e) i.0.mapped; full = i.1 i.0.full }) (both p.cells h.cells full));
    used = rw (length-map p.cells c) h.used;
    allocated = h.allocated;
    cell_from_one = h.cell_from_one;
    cell_bounded = h.cell_bounded;
    filesystem_from_one = h.filesystem_from_one;
    filesystem_bounded = h.filesystem_bounded;
    commits = h.commits;
    limit = h.limit;
    cache = cache_stays p p.cache h.cache;
  }
    where
      both : (xs : List (ℕ × List ℕ)) → AllByRecursion (λ (e : ℕ × List ℕ). IsCell p e.0 e.1) xs → AllByRecursion (λ (e : ℕ × List ℕ). length e.1 ≡ 65536 → length (c e).1 ≡ 65536) xs
          → AllByRecursion (λ (e : ℕ × List ℕ). IsCell p e.0 e.1 × (length e.1 ≡ 65536 → length (c e).1 ≡ 65536)) xs
      both [] a b = tt
      both (x ∷ xs) a b = ((a.0, b.0), both xs a.1 b.1)

put_number : (cell at : ℕ) (h : List ℕ) (b : Bool) (e : ℕ × List ℕ) → (cond b (e.0, over e.1 at h) e).0 ≡ e.0
put_number cell at h true e = refl
put_number cell at h false e = refl

put_cell-whole : (p : PoolState) (cell at : ℕ) (h : List ℕ) → at + length h ≤ 65536 → IsWhole p → IsWhole (record p { cells = put_cell cell at h p.cells })
put_cell-whole p cell at h fits w = recoded-whole (λ (e : ℕ × List ℕ). cond (nat_eq e.0 cell) (e.0, over e.1 at h) e) (λ e. put_number cell at h (nat_eq e.0 cell) e) p (all p.cells) w
  where
    one : (b : Bool) (e : ℕ × List ℕ) → length e.1 ≡ 65536 → length (cond b (e.0, over e.1 at h) e).1 ≡ 65536
    one true e full = over-length e.1 at (length h) h (omega arith) (omega (arith, full, fits)) ∙ full
    one false e full = full

    all : (xs : List (ℕ × List ℕ)) → AllByRecursion (λ (e : ℕ × List ℕ). length e.1 ≡ 65536 → length (cond (nat_eq e.0 cell) (e.0, over e.1 at h) e).1 ≡ 65536) xs
    all [] = tt
    all (x ∷ xs) = (one (nat_eq x.0 cell) x, all xs)

pub put_pieces-whole : (qs : List Piece) (h : List ℕ) (p : PoolState) → AllByRecursion (λ (q : Piece). q.1 + q.2 ≤ 65536) qs → IsWhole p → IsWhole (record p { cells = put_pieces qs h p.cells })
put_pieces-whole [] h p fits w = w
put_pieces-whole (q ∷ qs) h p fits w =
    let few = take-most q.2 h in
    let room : q.1 + q.2 ≤ 65536 = fits.0 in
    put_pieces-whole qs (drop q.2 h) (record p { cells = put_cell q.0 q.1 (take q.2 h) p.cells }) fits.1 (put_cell-whole p q.0 q.1 (take q.2 h) (omega (arith, few, room)) w)

pieces-fit : (cells : List ℕ) (map : List (ℕ × ℕ)) (ss : List Stretch) → AllByRecursion (λ (s : Stretch). s.at + s.sectors ≤ 128) ss
    → AllByRecursion (λ (q : Piece). q.1 + q.2 ≤ 65536) (flat_map (λ (s : Stretch). piece_in cells s (cell_at s.block map)) ss)
pieces-fit cells map [] h = tt
pieces-fit cells map (s ∷ ss) h = All-append _ (piece_in cells s (cell_at s.block map)) _ (here (cell_at s.block map)) (pieces-fit cells map ss h.1)
  where
    if_sole : (b : Bool) (cell : ℕ) → AllByRecursion (λ (q : Piece). q.1 + q.2 ≤ 65536) (cond b [] ((cell, 512 * s.at, 512 * s.sectors) ∷ []))
    if_sole true cell = tt
    if_sole false cell = (let inside = h.0 in omega (arith, inside), tt)

    here : (o : Option ℕ) → AllByRecursion (λ (q : Piece). q.1 + q.2 ≤ 65536) (piece_in cells s o)
    here None = tt
    here (Some cell) = if_sole (is_shared cells cell) cell

-- whatever is found in the sectors in place of a write, the pool is whole
pub in_place-whole : (p : PoolState) (pool name : Text) (sector : ℕ) (payload : Payload) (h : List ℕ) → IsWhole p → IsWhole (with_bytes p (FsWrite pool name sector payload) h)
in_place-whole p pool name sector payload h w = put_pieces-whole (in_place p (FsWrite pool name sector payload)) h p (here (fs_at name p.filesystems)) w
  where
    here : (o : Option FsState) → AllByRecursion (λ (q : Piece). q.1 + q.2 ≤ 65536) (pieces_at p.filesystems o (stretches sector (sectors_in payload)))
    here None = tt
    here (Some fs) = pieces-fit (mapped_cells p.filesystems) fs.map (stretches sector (sectors_in payload)) (stretches-inside sector (sectors_in payload))
