-- a pool stays whole where a filesystem gets another map, with sound cells for it
use Rattle.std.proofs.Common.{◌≡◌, ℕ, ◌+◌, ◌*◌, ◌/◌, ◌^◌, ◌<◌, ◌≤◌, ◌==◌, ◌||◌, List, [], ◌∷◌, length, map, Bool, true, false, cond, filter, Option, Some, None, option_map, refl, sym, ap, ◌∙◌, subst, arith}
use Rattle.std.specs.List.{AllByRecursion, list_any, sum_by}
use Rattle.std.proofs.lemmas.Grind.{common_steps}
use Rattle.std.proofs.lemmas.List.{length-map}
use Rattle.st_model.specs.declared.state.CacheState.{CacheState}
use Rattle.st_model.specs.declared.state.FsState.{FsState}
use Rattle.st_model.specs.declared.state.PoolState.{PoolState}
use Rattle.st_model.specs.Merged.{is_mapped}
use Rattle.st_model.specs.ValidPool.{EachPair, has_serial, is_marked, has_number, IsOrigin, IsMark, IsMapping, IsValidFs, AreFsPair, IsWhole, IsCacheOf}
use Rattle.st_model.proofs.Among.{IsIn, All-with}
use Rattle.st_model.proofs.Lists.{All-weaker, All-map, All-filter, EachPair-map, EachPair-filter, filter-passes}
use Rattle.st_model.proofs.Mapped.{any_map}
use Rattle.st_model.proofs.Replacing.{IsFitting, each_mapped, fitting-valid, cache_kept}
use Rattle.st_model.proofs.Totals.{total, total-is, fewer}
use Rattle.st_model.proofs.ValidFields.{same_serial}
use Rattle.st_model.proofs.ValidMerge.{valid_in}
use Rattle.st_model.proofs.ValidRename.{EachPair-with}
use Rattle.st_model.specs.steps.FsWrite.{Put, with_blocks, with_cells, in_front, with_map, written}
use Rattle.st_model.proofs.Putting.{IsSound, with_blocks-all, with_blocks-map, with_cells-all, with_cells-map, with_cells-has, with_cells-there, in_front-all, in_front-length, in_front-distinct}

abbrev mapped_so : List (ℕ × ℕ) → Bool → FsState → FsState
mapped_so m b x = cond b (record x { map = m }) x

any_same : (f g : FsState → Bool) (xs : List FsState) → ((x : FsState) → f x ≡ g x) → list_any f xs ≡ list_any g xs
any_same f g [] h = refl
any_same f g (x ∷ xs) h = rw (h x) (ap (λ b. g x || b) (any_same f g xs h))

module _ (serial : ℕ) (m : List (ℕ × ℕ)) where
  abbrev change : FsState → FsState
  change = with_map serial m

  same_row : (b : Bool) (x : FsState) → (mapped_so m b x).row ≡ x.row
  same_row true x = refl
  same_row false x = refl

  serials_stay : (n : ℕ) (fss : List FsState) → has_serial n (map change fss) ≡ has_serial n fss
  serials_stay n fss = any_map _ change fss ∙ any_same _ _ fss (λ x. rw (same_row (x.row.serial == serial) x) refl)

  marks_stay : (n : ℕ) (fss : List FsState) → is_marked n (map change fss) ≡ is_marked n fss
  marks_stay n fss = any_map _ change fss ∙ any_same _ _ fss (λ x. rw (same_row (x.row.serial == serial) x) refl)

  pair_stays : (x y : FsState) → AreFsPair x y → AreFsPair (change x) (change y)
  pair_stays x y h = here (x.row.serial == serial) (y.row.serial == serial)
    where
      here : (a b : Bool) → AreFsPair (mapped_so m a x) (mapped_so m b y)
      here true true = record { serials = h.serials; names = h.names; marks = h.marks }
      here true false = record { serials = h.serials; names = h.names; marks = h.marks }
      here false true = record { serials = h.serials; names = h.names; marks = h.marks }
      here false false = h

  pairs_stay : (fss : List FsState) → EachPair AreFsPair fss → EachPair AreFsPair (map change fss)
  pairs_stay fss h = EachPair-map AreFsPair change fss (EachPair-with (λ (x : FsState). Unit {0}) AreFsPair _ fss (λ x y a b. pair_stays x y) (all fss) h)
    where
      all : (xs : List FsState) → AllByRecursion (λ (x : FsState). Unit {0}) xs
      all [] = tt
      all (x ∷ xs) = (tt, all xs)

  -- only one filesystem has the serial, so the entries of all maps rise by those of its own
  none_rise : (fss : List FsState) → AllByRecursion (λ (x : FsState). (x.row.serial == serial) ≡ false) fss → total (λ (x : FsState). length x.map) (map change fss) ≡ total (λ (x : FsState). length x.map) fss
  none_rise [] h = refl
  none_rise (x ∷ fss) h = rw h.0 (ap (λ n. length x.map + n) (none_rise fss h.1))

  one_rises : (adds : ℕ) (fss : List FsState) → EachPair AreFsPair fss → AllByRecursion (λ (x : FsState). (x.row.serial == serial) ≡ true → length m ≤ length x.map + adds) fss
      → total (λ (x : FsState). length x.map) (map change fss) ≤ total (λ (x : FsState). length x.map) fss + adds
  one_rises adds [] pairs h = omega arith
  one_rises adds (x ∷ fss) pairs h = here (x.row.serial == serial) refl (one_rises adds fss pairs.1 h.1)
    where
      others : (x.row.serial == serial) ≡ true → AllByRecursion (λ (y : FsState). (y.row.serial == serial) ≡ false) fss
      others e = All-weaker _ _ fss (λ (y : FsState) r. no x.row.serial y.row.serial r.serials e) pairs.0
        where
          no : (a b : ℕ) → a < b → (a == serial) ≡ true → (b == serial) ≡ false
          no a b r e = grind (arith, common_steps)

      here : (b : Bool) → (x.row.serial == serial) ≡ b → total (λ (y : FsState). length y.map) (map change fss) ≤ total (λ (y : FsState). length y.map) fss + adds → length (mapped_so m b x).map + total (λ (y : FsState). length y.map) (map change fss) ≤ (length x.map + total (λ (y : FsState). length y.map) fss) + adds
      here true e rest =
          let same = none_rise fss (others e) in
          let most : length m ≤ length x.map + adds = h.0 e in
          omega (arith, same, most)
      here false e rest = omega (arith, rest)

-- the number of commits pays for the fresh cells
pub record IsPaid (p : PoolState) (taken commits : ℕ) : Type 0 where
  pub cells : p.next_cell + taken ≤ 2 * commits
  pub no_less : p.commits ≤ commits
  pub bounded : commits ≤ 2 ^ 48

module _ (fs : FsState) (qs : List Put) (taken : ℕ) (p : PoolState) (sound : AllByRecursion (IsSound (fs.row.size / 128) (p.next_cell + taken)) qs) where
  abbrev before : PoolState
  before = record p {
    cells = with_cells qs p.cells;
    next_cell = p.next_cell + taken;
    commits = cond (taken == 0) p.commits (p.commits + 1);
    cache = option_map (λ (cache : CacheState). record cache { cells = in_front qs cache.cells }) p.cache;
  }

  abbrev entries : List (ℕ × ℕ)
  entries = with_blocks qs fs.map

  abbrev filesystems : List FsState
  filesystems = map (with_map fs.row.serial entries) p.filesystems

  old_mapping : (blocks : ℕ) (e : ℕ × ℕ) → IsMapping p blocks e.0 e.1 → IsMapping before blocks e.0 e.1
  old_mapping blocks e m =
      let low = m.below_next in
      record { within = m.within; from_one = m.from_one; below_next = omega (arith, low); kept = with_cells-has e.1 qs p.cells m.kept }

  new_mapped : IsValidFs p fs → AllByRecursion (λ (e : ℕ × ℕ). IsMapping before (fs.row.size / 128) e.0 e.1) entries
  new_mapped v =
      with_blocks-all (λ (e : ℕ × ℕ). IsMapping before (fs.row.size / 128) e.0 e.1) qs fs.map (All-weaker _ _ fs.map (old_mapping (fs.row.size / 128)) v.mapped)
      (All-with _ _ _ qs (λ (q : Put) s t. record { within = s.within; from_one = s.from_one; below_next = s.below; kept = t }) sound (with_cells-there qs p.cells))

  fit : IsValidFs p fs → (x : FsState) → ((x.row.serial == fs.row.serial) ≡ true → x ≡ fs) → IsValidFs p x → IsFitting before filesystems (with_map fs.row.serial entries x)
  fit w x same v = here (x.row.serial == fs.row.serial) refl
    where
      of_origin : (o : Option ℕ) → IsOrigin p.filesystems x.row.serial o → IsOrigin filesystems x.row.serial o
      of_origin None h = tt
      of_origin (Some n) h = (h.0, serials_stay fs.row.serial entries n p.filesystems ∙ h.1)

      of_mark : (b : Bool) (o : Option ℕ) → IsMark p.filesystems b o → IsMark filesystems b o
      of_mark false o h = tt
      of_mark true None h = h
      of_mark true (Some n) h = marks_stay fs.row.serial entries n p.filesystems ∙ h

      here : (b : Bool) → (x.row.serial == fs.row.serial) ≡ b → IsFitting before filesystems (mapped_so entries b x)
      here true e = record {
        from_one = v.from_one;
        below_next = v.below_next;
        size = v.size;
        limit = v.limit;
        origin = of_origin x.row.origin v.origin;
        mark = of_mark x.row.merge x.row.origin v.mark;
        map = with_blocks-map qs fs.map w.map;
        mapped = subst (λ (y : FsState). AllByRecursion (λ (e : ℕ × ℕ). IsMapping before (y.row.size / 128) e.0 e.1) entries) (sym (same e)) (new_mapped w);
      }
      here false e = record {
        from_one = v.from_one;
        below_next = v.below_next;
        size = v.size;
        limit = v.limit;
        origin = of_origin x.row.origin v.origin;
        mark = of_mark x.row.merge x.row.origin v.mark;
        map = v.map;
        mapped = All-weaker _ _ x.map (old_mapping (x.row.size / 128)) v.mapped;
      }

  new_cache : (o : Option CacheState) → IsCacheOf p o → IsCacheOf before (option_map (λ (cache : CacheState). record cache { cells = in_front qs cache.cells }) o)
  new_cache None h = h
  new_cache (Some cache) h =
      let less = in_front-length qs cache.cells in
      let few = h.few in
      record {
        on = h.on;
        capacity = h.capacity;
        few = omega (arith, less, few);
        distinct = in_front-distinct qs cache.cells h.distinct;
        kept = in_front-all (λ c. has_number c (with_cells qs p.cells) ≡ true) qs cache.cells (with_cells-there qs p.cells) (All-weaker _ _ cache.cells (λ c k. with_cells-has c qs p.cells k) h.kept);
        hits = h.hits;
        misses = h.misses;
      }

  pub written-whole : (adds : ℕ) → IsIn fs p.filesystems → IsWhole p → length (with_cells qs p.cells) ≤ p.allocated → length entries ≤ length fs.map + adds
      → sum_by (λ (x : FsState). length x.map) p.filesystems + adds ≤ 32768 → IsPaid p taken (cond (taken == 0) p.commits (p.commits + 1)) → IsWhole (written fs qs taken p)
  written-whole adds i h few longer most paid =
      let same = same_serial p.filesystems fs h.ordered i in
      let w = valid_in p fs p.filesystems i h.filesystems in
      let fits = All-map _ (with_map fs.row.serial entries) p.filesystems (All-with _ _ _ p.filesystems (fit w) same h.filesystems) in
      let less = fewer (λ (e : ℕ × List ℕ). is_mapped filesystems e.0) (with_cells qs p.cells) in
      let was = total-is (λ (x : FsState). length x.map) p.filesystems in
      let is = total-is (λ (x : FsState). length x.map) filesystems in
      let rise = one_rises fs.row.serial entries adds p.filesystems h.ordered (All-weaker _ _ p.filesystems (λ (x : FsState) s e. subst (λ (y : FsState). length entries ≤ length y.map + adds) (sym (s e)) longer) same) in
      let one = h.cell_from_one in
      let serials = h.filesystem_bounded in
      let no_less = paid.no_less in
      record {
        devices = h.devices;
        ordered = pairs_stay fs.row.serial entries p.filesystems h.ordered;
        filesystems = All-with _ _ _ filesystems (fitting-valid before filesystems) fits (each_mapped filesystems);
        count = rw (length-map p.filesystems (with_map fs.row.serial entries)) h.count;
        mappings = omega (arith, was, is, rise, most);
        cell_map = EachPair-filter _ (λ (e : ℕ × List ℕ). is_mapped filesystems e.0) (with_cells qs p.cells) (with_cells-map qs p.cells h.cell_map);
        cells = All-with _ _ _ (filter (λ (e : ℕ × List ℕ). is_mapped filesystems e.0) (with_cells qs p.cells)) (λ (e : ℕ × List ℕ) a b. record { mapped = b; full = a })
            (All-filter (λ (e : ℕ × List ℕ). length e.1 ≡ 65536) (λ (e : ℕ × List ℕ). is_mapped filesystems e.0) (with_cells qs p.cells)
            (with_cells-all (λ (e : ℕ × List ℕ). length e.1 ≡ 65536) qs p.cells (All-weaker _ _ p.cells (λ (e : ℕ × List ℕ) c. c.full) h.cells) (All-weaker _ _ qs (λ (q : Put) s. s.full) sound)))
            (filter-passes (λ (e : ℕ × List ℕ). is_mapped filesystems e.0) (with_cells qs p.cells));
        used = omega (arith, less, few);
        allocated = h.allocated;
        cell_from_one = omega (arith, one);
        cell_bounded = paid.cells;
        filesystem_from_one = h.filesystem_from_one;
        filesystem_bounded = omega (arith, serials, no_less);
        commits = paid.bounded;
        limit = h.limit;
        cache = cache_kept before filesystems before.cache (new_cache p.cache h.cache);
      }
