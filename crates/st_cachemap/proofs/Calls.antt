-- what the calls have to show, from what the fields were and what the arenas' calls ensure
use Rattle.std.proofs.Common.{◌≡◌, ℕ, ◌+◌, ◌<◌, ◌≤◌, suc, Bool, true, false, List, [], ◌∷◌, length, get_or, set, Some, refl, sym, ◌∙◌, ap, subst}
use Rattle.std.specs.Map.{keys_of, values_of}
use Rattle.std.proofs.lemmas.Bool.{both_ways}
use Rattle.std.proofs.lemmas.List.{length-set, get_or-set_same}
use Rattle.st_limits.specs.Cache.{has, without, AreDistinct}
use Rattle.st_links.specs.Arena.{Arena, unlinked, fronted, pushed_front, pushed_back, IsArena}
use Rattle.st_cachemap.specs.Cached.{Cached, cells_of, places_of, place_in, without_cell, without_place, fronted_at, IsCached}
use Rattle.st_cachemap.specs.Sound.{Sound, used, bucket_of, entries_at}
use Rattle.st_cachemap.proofs.Entries.{places_at, cell_in, entries-without, entries-without_cell, entries-set, cells_differ_at, found_cell}
use Rattle.st_cachemap.proofs.Keeps.{used_within, len_fits, released, released_used, occupied, occupied_used, moved_front, fronted_used}

abbrev pub seen : ℕ → List (ℕ × ℕ) → ℕ → ℕ → Cached
seen n es h m = record { capacity = n; entries = es; hits = h; misses = m }

module _ {order buckets : Arena} {cells : List ℕ} {len : ℕ} {h m : ℕ} {now : Cached} where
  -- a place of the entries is in use
  pub in_use : Sound order buckets cells len → seen (length cells) (entries_at cells (used order)) h m ≡ now → (p : ℕ) (b : Bool) → has p (places_of now) ≡ b → has p (used order) ≡ b
  in_use s view p b there = sym (ap (has p) (places_at cells (used order))) ∙ ap (λ (v : Cached). has p (places_of v)) view ∙ there

  -- where a look-up of the entries finds a cell
  pub at_cell : Sound order buckets cells len → seen (length cells) (entries_at cells (used order)) h m ≡ now → (cell p : ℕ) → place_in now.entries cell ≡ Some p → (get_or cells p 0 ≡ cell) × (has p (used order) ≡ true)
  at_cell s view cell p found = found_cell cells (used order) cell p (ap (λ (v : Cached). place_in v.entries cell) view ∙ found)

  -- a cell that the entries lack is at no place in use
  pub not_at : Sound order buckets cells len → seen (length cells) (entries_at cells (used order)) h m ≡ now → (cell : ℕ) → has cell (cells_of now) ≡ false → (q : ℕ) → has q (used order) ≡ true → get_or cells q 0 ≡ cell → ⊥
  not_at s view cell lacks q there e =
      both_ways (has cell (cells_of now)) lacks
      (sym (ap (λ (v : Cached). has cell (cells_of v)) view) ∙ ap (λ (c : ℕ). has c (keys_of (entries_at cells (used order)))) (sym e) ∙ cell_in cells (used order) q there)

  -- what callers may rely on
  pub IsCached-from : Sound order buckets cells len → seen (length cells) (entries_at cells (used order)) h m ≡ now → IsCached now
  IsCached-from s view =
      subst IsCached view
      (record {
        cells_differ = cells_differ_at cells (used order) s.unique (s.order_arena.once 0);
        places_differ = subst AreDistinct (sym (places_at cells (used order))) (s.order_arena.once 0);
        within = λ (p : ℕ) (t : has p (values_of (entries_at cells (used order))) ≡ true). used_within s p (sym (ap (has p) (places_at cells (used order))) ∙ t);
        fits = subst (λ (k : ℕ). k ≤ length cells) (s.counted ∙ sym (long (used order))) (len_fits s);
        some = s.some;
      })
    where
      long : (xs : List ℕ) → length (entries_at cells xs) ≡ length xs
      long [] = refl
      long (x ∷ xs) = ap (λ (k : ℕ). suc k) (long xs)

  pub release_done : Sound order buckets cells len → seen (length cells) (entries_at cells (used order)) h m ≡ now → (p : ℕ) → has p (places_of now) ≡ true → (order1 order2 buckets2 : Arena) (len2 : ℕ) → order1 ≡ record order { lists = unlinked order.lists p } → order2 ≡ record order1 { lists = pushed_back order1.lists 1 p } → IsArena order2.lists order2.places → buckets2 ≡ record buckets { lists = unlinked buckets.lists p } → IsArena buckets2.lists buckets2.places → len2 + 1 ≡ len → Sound order2 buckets2 cells len2 × (seen (length cells) (entries_at cells (used order2)) h m ≡ record now { entries = without_place p now.entries })
  release_done s view p there order1 order2 buckets2 len2 e1 e2 a2 eb ab fewer =
      let t : has p (used order) ≡ true = in_use s view p true there in
      let lists2 = ap (λ (a : Arena). a.lists) e2 ∙ ap (λ (a : Arena). pushed_back a.lists 1 p) e1 in (
        released s p t order2 buckets2 len2 lists2 (ap (λ (a : Arena). a.places) e2 ∙ ap (λ (a : Arena). a.places) e1) a2 (ap (λ (a : Arena). a.lists) eb) (ap (λ (a : Arena). a.places) eb) ab fewer,
        ap (λ (xs : List ℕ). seen (length cells) (entries_at cells xs) h m) (released_used s p order2 lists2)
            ∙ ap (λ (es : List (ℕ × ℕ)). seen (length cells) es h m) (entries-without cells p (used order))
            ∙ ap (λ (v : Cached). record v { entries = without_place p v.entries }) view,
      )

  pub occupy_done : Sound order buckets cells len → seen (length cells) (entries_at cells (used order)) h m ≡ now → (p cell : ℕ) → p < now.capacity → has p (places_of now) ≡ false → has cell (cells_of now) ≡ false → (order1 order2 buckets2 : Arena) → order1 ≡ record order { lists = unlinked order.lists p } → order2 ≡ record order1 { lists = pushed_front order1.lists 0 p } → IsArena order2.lists order2.places → (b : ℕ) → b ≡ bucket_of cell (length cells) → b < length cells → buckets2 ≡ record buckets { lists = pushed_front buckets.lists b p } → IsArena buckets2.lists buckets2.places → Sound order2 buckets2 (set cells p cell) (len + 1) × (seen (length (set cells p cell)) (entries_at (set cells p cell) (used order2)) h m ≡ record now { entries = (cell, p) ∷ now.entries })
  occupy_done s view p cell below free absent order1 order2 buckets2 e1 e2 a2 b b_is b_below eb ab =
      let lacks : has p (used order) ≡ false = in_use s view p false free in
      let p_below : p < length cells = subst (λ (k : ℕ). p < k) (sym (ap (λ (v : Cached). v.capacity) view)) below in
      let lists2 = ap (λ (a : Arena). a.lists) e2 ∙ ap (λ (a : Arena). pushed_front a.lists 0 p) e1 in
      let cells2 : List ℕ = set cells p cell in
      let here : get_or cells2 p 0 ≡ cell = get_or-set_same cells p cell 0 p_below in (
        occupied s p cell p_below lacks (not_at s view cell absent) order2 buckets2 lists2 (ap (λ (a : Arena). a.places) e2 ∙ ap (λ (a : Arena). a.places) e1) a2
            (ap (λ (a : Arena). a.lists) eb ∙ ap (λ (k : ℕ). pushed_front buckets.lists k p) b_is) (ap (λ (a : Arena). a.places) eb) ab (subst (λ (k : ℕ). k < length cells) b_is b_below),
        ap (λ (xs : List ℕ). seen (length cells2) (entries_at cells2 xs) h m) (occupied_used s p lacks order2 lists2)
            ∙ ap (λ (c : ℕ). seen (length cells2) ((c, p) ∷ entries_at cells2 (used order)) h m) here
            ∙ ap (λ (es : List (ℕ × ℕ)). seen (length cells2) ((cell, p) ∷ es) h m) (entries-set cells p cell (used order) lacks)
            ∙ ap (λ (k : ℕ). seen k ((cell, p) ∷ entries_at cells (used order)) h m) (length-set cells p cell)
            ∙ ap (λ (v : Cached). record v { entries = (cell, p) ∷ v.entries }) view,
      )

  pub front_done : Sound order buckets cells len → seen (length cells) (entries_at cells (used order)) h m ≡ now → (p cell : ℕ) → place_in now.entries cell ≡ Some p → (order2 : Arena) → order2 ≡ record order { lists = fronted order.lists p } → IsArena order2.lists order2.places → Sound order2 buckets cells len × (seen (length cells) (entries_at cells (used order2)) h m ≡ record now { entries = fronted_at cell p now.entries })
  front_done s view p cell found order2 e a2 =
      let at = at_cell s view cell p found in
      let lists2 = ap (λ (a : Arena). a.lists) e in
      let rest : entries_at cells (without p (used order)) ≡ without_cell cell (entries_at cells (used order)) =
      sym (entries-without_cell cells p (used order) (λ (q : ℕ) (t : has q (used order) ≡ true). s.unique p q at.1 t))
      ∙ ap (λ (c : ℕ). without_cell c (entries_at cells (used order))) at.0 in (
        moved_front s p at.1 order2 lists2 (ap (λ (a : Arena). a.places) e) a2,
        ap (λ (xs : List ℕ). seen (length cells) (entries_at cells xs) h m) (fronted_used s p at.1 order2 lists2)
            ∙ ap (λ (c : ℕ). seen (length cells) ((c, p) ∷ entries_at cells (without p (used order))) h m) at.0
            ∙ ap (λ (es : List (ℕ × ℕ)). seen (length cells) ((cell, p) ∷ es) h m) rest
            ∙ ap (λ (v : Cached). record v { entries = fronted_at cell p v.entries }) view,
      )
