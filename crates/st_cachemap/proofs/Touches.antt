-- what touch and its parts leave
use Rattle.std.proofs.Common.{◌≡◌, ℕ, zero, suc, ◌+◌, ◌-◌, ◌<◌, ◌≤◌, true, false, List, [], ◌∷◌, ◌++◌, length, get_or, take, eqb, Option, Some, None, inl, inr, refl, sym, ◌∙◌, ap, subst, arith}
use Rattle.std.specs.List.{slice_get}
use Rattle.std.specs.Map.{keys_of, values_of}
use Rattle.std.proofs.lemmas.Bool.{cases_eq, both_ways, or_left, eq-eqb, ne_eqb, cond-true, cond-false, false≢true, false_from_ne_true}
use Rattle.std.proofs.lemmas.Map.Steps.{le-length_from_below}
use Rattle.st_limits.specs.Cache.{has, without, touched, hits_after, misses_after, counted, promoted, AreDistinct}
use Rattle.st_limits.proofs.Members.{has_head, has_tail, has_cases, differ_by_list, lacks_parts, without_here, without_there}
use Rattle.st_links.specs.Arena.{Arena, row, first_of, last_of}
use Rattle.st_links.proofs.Moves.{linked_in}
use Rattle.st_cachemap.specs.declared.answer.Touch.{Touch}
use Rattle.st_cachemap.specs.declared.answer.Touch.TheVariants.{Hit, Miss}
use Rattle.st_cachemap.specs.Cached.{Cached, cells_of, places_of, place_in, without_cell, without_place, fronted_at, touch_place, IsTouch, IsCached, Missed, MissedAt}
use Rattle.st_cachemap.specs.Sound.{Sound, used, entries_at}
use Rattle.st_cachemap.proofs.Entries.{skipped, kept, places_at, entries-without, found_place, keys-without_cell, without_cell_absent, without_cell_shorter}
use Rattle.st_cachemap.proofs.Calls.{seen, in_use}

pub last_none : (xs : List ℕ) → last_of xs ≡ None → xs ≡ []
last_none [] e = refl
last_none (x ∷ xs) e = absurd (some_last x xs e)
  where
    some_last : (x : ℕ) (xs : List ℕ) → last_of (x ∷ xs) ≡ None → ⊥
    some_last x [] e = let bad : Some x ≡ None = e in cc
    some_last x (y ∷ ys) e =
        some_last y ys (sym (ap (slice_get (x ∷ y ∷ ys)) (let k : length (x ∷ y ∷ ys) - 1 ≡ suc (length (y ∷ ys) - 1) = omega arith in k)) ∙ e)

pub last_some : (p : ℕ) (xs : List ℕ) → AreDistinct xs → last_of xs ≡ Some p → (has p xs ≡ true) × (xs ≡ without p xs ++ p ∷ [])
last_some p [] dist e = absurd (let bad : None ≡ Some p = e in cc)
last_some p (x ∷ []) dist e =
    let is : x ≡ p = (let same : Some x ≡ Some p = e in cc) in (
      ap (λ (z : ℕ). has z (x ∷ [])) (sym is) ∙ has_head x [],
      ap (λ (z : ℕ). z ∷ []) is ∙ ap (λ (ys : List ℕ). ys ++ p ∷ []) (sym (subst (λ (z : ℕ). without p (z ∷ []) ≡ []) (sym is) (without_here p []))),
    )
last_some p (x ∷ y ∷ ys) dist e =
    let rest = last_some p (y ∷ ys) dist.1 (sym (ap (slice_get (x ∷ y ∷ ys)) (let k : length (x ∷ y ∷ ys) - 1 ≡ suc (length (y ∷ ys) - 1) = omega arith in k)) ∙ e) in
    let ne : p ≡ x → ⊥ = differ_by_list p x (y ∷ ys) rest.0 dist.0 in (
      has_tail p x (y ∷ ys) rest.0,
      ap (λ (zs : List ℕ). x ∷ zs) rest.1 ∙ ap (λ (zs : List ℕ). zs ++ p ∷ []) (sym (without_there p x (y ∷ ys) ne)),
    )

entries_append : (cells : List ℕ) (xs : List ℕ) (p : ℕ) → entries_at cells (xs ++ p ∷ []) ≡ entries_at cells xs ++ (get_or cells p 0, p) ∷ []
entries_append cells [] p = refl
entries_append cells (x ∷ xs) p = ap (λ (es : List (ℕ × ℕ)). (get_or cells x 0, x) ∷ es) (entries_append cells xs p)

module _ {order buckets : Arena} {cells : List ℕ} {len : ℕ} {h m : ℕ} {now : Cached} where
  pub popped : Sound order buckets cells len → seen (length cells) (entries_at cells (used order)) h m ≡ now → (p cell : ℕ) → last_of (used order) ≡ Some p → cell ≡ get_or cells p 0 → (new : Cached) → new ≡ record now { entries = without_place p now.entries } → (now.entries ≡ new.entries ++ (cell, p) ∷ []) × (new ≡ record now { entries = new.entries })
  popped s view p cell last cell_is new new_is =
      let at = last_some p (used order) (s.order_arena.once 0) last in
      let now_is : entries_at cells (used order) ≡ now.entries = ap (λ (v : Cached). v.entries) view in
      let rest : new.entries ≡ without_place p now.entries = ap (λ (v : Cached). v.entries) new_is in (
        sym now_is
            ∙ ap (entries_at cells) at.1
            ∙ entries_append cells (without p (used order)) p
            ∙ ap (λ (es : List (ℕ × ℕ)). es ++ (get_or cells p 0, p) ∷ []) (entries-without cells p (used order) ∙ ap (without_place p) now_is ∙ sym rest)
            ∙ ap (λ (c : ℕ). new.entries ++ (c, p) ∷ []) (sym cell_is),
        new_is ∙ ap (λ (es : List (ℕ × ℕ)). record now { entries = es }) (sym rest),
      )

module _ {order buckets : Arena} {cells : List ℕ} {len : ℕ} where
  -- where no place is free all are in use
  pub all_used : Sound order buckets cells len → first_of (row order.lists 1) ≡ None → length cells ≤ length (used order)
  all_used s none =
      le-length_from_below (used order) (length cells)
      (λ (q : ℕ) (b : q < length cells).
      let at = linked_in order.lists q (s.known q b) in
      let k_two : at.0 < 2 = omega (arith, s.order_lists, at.1) in
      elim (cases_eq at.0 0) [
        | inl e ↦ ap (λ (i : ℕ). has q (row order.lists i)) (sym e) ∙ at.2
        | inr ne ↦
            let one : at.0 ≡ 1 = omega (arith, ne) in
            absurd (false≢true (sym (ap (has q) (empty (row order.lists 1) none)) ∙ ap (λ (i : ℕ). has q (row order.lists i)) (sym one) ∙ at.2))
      ])
    where
      empty : (xs : List ℕ) → first_of xs ≡ None → xs ≡ []
      empty [] e = refl
      empty (x ∷ xs) e = absurd (let bad : Some x ≡ None = e in cc)

-- the keys of a part, and a part that is all
keys-take : (n : ℕ) (es : List (ℕ × ℕ)) → keys_of (take n es) ≡ take n (keys_of es)
keys-take zero es = refl
keys-take (suc n) [] = refl
keys-take (suc n) (e ∷ es) = ap (λ (ks : List ℕ). e.0 ∷ ks) (keys-take n es)

take_whole : {X : Type 0} (n : ℕ) (xs : List X) → length xs ≤ n → take n xs ≡ xs
take_whole zero [] h = refl
take_whole zero (x ∷ xs) h = absurd (omega arith)
take_whole (suc n) [] h = refl
take_whole (suc n) (x ∷ xs) h = ap (λ ys. x ∷ ys) (take_whole n xs (omega arith))

-- everything that a touch promises
pub record Touched (old new : Cached) (cell : ℕ) (r : Touch) : Type 0 where
  pub answer : IsTouch old cell r
  pub entries : new.entries ≡ take old.capacity (fronted_at cell (touch_place r) old.entries)
  pub cells : cells_of new ≡ touched old.capacity cell (cells_of old)
  pub hits : new.hits ≡ hits_after cell (cells_of old) old.hits
  pub misses : new.misses ≡ misses_after cell (cells_of old) old.misses
  pub capacity : new.capacity ≡ old.capacity

cells_touched : (n cell p : ℕ) (es : List (ℕ × ℕ)) → keys_of (take n (fronted_at cell p es)) ≡ touched n cell (keys_of es)
cells_touched n cell p es = keys-take n (fronted_at cell p es) ∙ ap (λ (ks : List ℕ). take n (cell ∷ ks)) (keys-without_cell cell es)

pub hit_touched : (old new : Cached) (cell p : ℕ) → IsCached old → place_in old.entries cell ≡ Some p → new ≡ record old { entries = fronted_at cell p old.entries; hits = counted old.hits } → Touched old new cell (Hit p)
hit_touched old new cell p valid found new_is =
    let there : has cell (cells_of old) ≡ true = (found_place old.entries cell p found).0 in
    let es_is : new.entries ≡ take old.capacity (fronted_at cell p old.entries) =
    ap (λ (v : Cached). v.entries) new_is
    ∙ sym (take_whole old.capacity (fronted_at cell p old.entries) (omega (arith, without_cell_shorter cell old.entries there, valid.fits))) in
    record {
      answer = found;
      entries = es_is;
      cells = ap (λ (es : List (ℕ × ℕ)). keys_of es) es_is ∙ cells_touched old.capacity cell p old.entries;
      hits = ap (λ (v : Cached). v.hits) new_is ∙ sym (cond-true (has cell (cells_of old)) (counted old.hits) old.hits there);
      misses = ap (λ (v : Cached). v.misses) new_is ∙ sym (cond-true (has cell (cells_of old)) old.misses (counted old.misses) there);
      capacity = ap (λ (v : Cached). v.capacity) new_is;
    }

pub miss_touched : (old new : Cached) (cell p : ℕ) (out : Option ℕ) → place_in old.entries cell ≡ None → has cell (cells_of old) ≡ false → Missed old new cell p out → Touched old new cell (Miss p out)
miss_touched old new cell p out none lacks missed =
    let es_is : new.entries ≡ take old.capacity (fronted_at cell p old.entries) =
    missed.entries ∙ ap (λ (es : List (ℕ × ℕ)). take old.capacity ((cell, p) ∷ es)) (sym (without_cell_absent cell old.entries lacks)) in
    record {
      answer = (none, missed.out_is);
      entries = es_is;
      cells = ap (λ (es : List (ℕ × ℕ)). keys_of es) es_is ∙ cells_touched old.capacity cell p old.entries;
      hits = ap (λ (v : Cached). v.hits) missed.rest ∙ sym (cond-false (has cell (cells_of old)) (counted old.hits) old.hits lacks);
      misses = ap (λ (v : Cached). v.misses) missed.rest ∙ sym (cond-false (has cell (cells_of old)) old.misses (counted old.misses) lacks);
      capacity = ap (λ (v : Cached). v.capacity) missed.rest;
    }

first_has : (p : ℕ) (xs : List ℕ) → first_of xs ≡ Some p → has p xs ≡ true
first_has p [] e = absurd (let bad : None ≡ Some p = e in cc)
first_has p (x ∷ xs) e = let is : p ≡ x = (let same : Some x ≡ Some p = e in cc) in ap (λ (z : ℕ). has z (x ∷ xs)) is ∙ has_head x xs

le_lt_absurd : (n u e cap : ℕ) → n ≤ u → u ≡ e → n ≡ cap → e < cap → ⊥
le_lt_absurd n u e cap a b c d = let bad : n < n = omega arith in absurd (omega arith)

entries_long : (cells xs : List ℕ) → length (entries_at cells xs) ≡ length xs
entries_long cells [] = refl
entries_long cells (x ∷ xs) = ap (λ (k : ℕ). suc k) (entries_long cells xs)

module _ {order buckets : Arena} {cells : List ℕ} {len : ℕ} {h m : ℕ} {now : Cached} where
  pub entry_count : Sound order buckets cells len → seen (length cells) (entries_at cells (used order)) h m ≡ now → len ≡ length now.entries
  entry_count s view = s.counted ∙ sym (entries_long cells (used order)) ∙ ap (λ (v : Cached). length v.entries) view

  pub has_room : Sound order buckets cells len → seen (length cells) (entries_at cells (used order)) h m ≡ now → first_of (row order.lists 1) ≡ None → length now.entries < now.capacity → ⊥
  has_room s view none fewer =
      let cap : length cells ≡ now.capacity = ap (λ (v : Cached). v.capacity) view in
      le_lt_absurd (length cells) (length (used order)) (length now.entries) now.capacity (all_used s none) (sym s.counted ∙ entry_count s view) cap fewer

  pub free_within : Sound order buckets cells len → seen (length cells) (entries_at cells (used order)) h m ≡ now → (p : ℕ) → first_of (row order.lists 1) ≡ Some p → p < now.capacity
  free_within s view p first =
      subst (λ (k : ℕ). p < k) (s.order_places ∙ ap (λ (v : Cached). v.capacity) view) (s.order_arena.within 1 p (first_has p (row order.lists 1) first))

  pub free_unused : Sound order buckets cells len → seen (length cells) (entries_at cells (used order)) h m ≡ now → (p : ℕ) → first_of (row order.lists 1) ≡ Some p → has p (places_of now) ≡ false
  free_unused s view p first =
      false_from_ne_true (has p (places_of now))
      (λ (t : has p (places_of now) ≡ true).
      let same : 0 ≡ 1 = s.order_arena.apart 0 1 p (omega (arith, s.order_lists)) (omega (arith, s.order_lists)) (in_use s view p true t) (first_has p (row order.lists 1) first) in
      absurd (omega arith))

  pub listed : Sound order buckets cells len → seen (length cells) (entries_at cells (used order)) h m ≡ now → (p : ℕ) → has p (used order) ≡ true → has p (places_of now) ≡ true
  listed s view p t = sym (ap (λ (v : Cached). has p (places_of v)) view) ∙ ap (has p) (places_at cells (used order)) ∙ t

end_key : (mid : List (ℕ × ℕ)) (e : ℕ × ℕ) → slice_get (keys_of (mid ++ e ∷ [])) (length mid) ≡ Some e.0
end_key [] e = refl
end_key (f ∷ mid) e = end_key mid e

take_front : (mid : List (ℕ × ℕ)) (e : ℕ × ℕ) → take (length mid) (mid ++ e ∷ []) ≡ mid
take_front [] e = refl
take_front (f ∷ mid) e = ap (λ (es : List (ℕ × ℕ)). f ∷ es) (take_front mid e)

longer : (mid : List (ℕ × ℕ)) (e : ℕ × ℕ) → length (mid ++ e ∷ []) ≡ length mid + 1
longer [] e = omega arith
longer (f ∷ mid) e = omega (arith, longer mid e)

pub room_made : (es mid : List (ℕ × ℕ)) (cell p cap : ℕ) → es ≡ mid ++ (cell, p) ∷ [] → length es ≡ cap → (Some cell ≡ slice_get (keys_of es) (cap - 1)) × (mid ≡ take (cap - 1) es) × (length mid < cap)
room_made es mid cell p cap es_is full =
    let long : length es ≡ length mid + 1 = ap (λ (xs : List (ℕ × ℕ)). length xs) es_is ∙ longer mid (cell, p) in
    let k : cap - 1 ≡ length mid = omega arith in (
      sym (ap (slice_get (keys_of es)) k ∙ ap (λ (xs : List (ℕ × ℕ)). slice_get (keys_of xs) (length mid)) es_is ∙ end_key mid (cell, p)),
      sym (ap (λ (n : ℕ). take n es) k ∙ ap (take (length mid)) es_is ∙ take_front mid (cell, p)),
      omega arith,
    )

has_take : (x n : ℕ) (xs : List ℕ) → has x (take n xs) ≡ true → has x xs ≡ true
has_take x zero xs h = absurd (false≢true h)
has_take x (suc n) [] h = h
has_take x (suc n) (y ∷ ys) h =
    elim (has_cases x y (take n ys) h) [ inl e ↦ or_left (eqb x y) (has x ys) (eq-eqb x y e) | inr t ↦ has_tail x y ys (has_take x n ys t) ]

pub lacks_take : (cell n : ℕ) (es fs : List (ℕ × ℕ)) → fs ≡ take n es → has cell (keys_of es) ≡ false → has cell (keys_of fs) ≡ false
lacks_take cell n es fs is lacks =
    ap (λ (xs : List (ℕ × ℕ)). has cell (keys_of xs)) is
    ∙ ap (has cell) (keys-take n es)
    ∙ false_from_ne_true (has cell (take n (keys_of es))) (λ (t : has cell (take n (keys_of es)) ≡ true). both_ways (has cell (keys_of es)) lacks (has_take cell n (keys_of es) t))

take_step : (cap : ℕ) (e : ℕ × ℕ) (es : List (ℕ × ℕ)) → 0 < cap → e ∷ take (cap - 1) es ≡ take cap (e ∷ es)
take_step zero e es pos = absurd (omega arith)
take_step (suc n) e es pos = ap (λ (k : ℕ). e ∷ take k es) (omega arith)

pub missed : (old mid occ : Cached) (n : ℕ) (es : List (ℕ × ℕ)) (h m x cell p : ℕ) (out : Option ℕ) → out ≡ slice_get (cells_of old) (old.capacity - 1) → has cell (cells_of old) ≡ false → mid.entries ≡ take (old.capacity - 1) old.entries → mid ≡ record old { entries = mid.entries } → occ ≡ record mid { entries = (cell, p) ∷ mid.entries } → seen n es h m ≡ occ → x ≡ counted m → 0 < old.capacity → Missed old (seen n es h x) cell p out
missed old mid occ n es h m x cell p out out_is lacks kept mid_is occ_is view x_is pos =
    let m_is : m ≡ old.misses = ap (λ (v : Cached). v.misses) view ∙ ap (λ (v : Cached). v.misses) occ_is ∙ ap (λ (v : Cached). v.misses) mid_is in
    record {
      out_is = out_is ∙ sym (cond-false (has cell (cells_of old)) None (slice_get (cells_of old) (old.capacity - 1)) lacks);
      entries =
          ap (λ (v : Cached). v.entries) view
          ∙ ap (λ (v : Cached). v.entries) occ_is
          ∙ ap (λ (xs : List (ℕ × ℕ)). (cell, p) ∷ xs) kept
          ∙ take_step old.capacity (cell, p) old.entries pos;
      rest =
          ap (λ (k : ℕ). seen k es h x) (ap (λ (v : Cached). v.capacity) view ∙ ap (λ (v : Cached). v.capacity) occ_is ∙ ap (λ (v : Cached). v.capacity) mid_is)
          ∙ ap (λ (k : ℕ). seen old.capacity es k x) (ap (λ (v : Cached). v.hits) view ∙ ap (λ (v : Cached). v.hits) occ_is ∙ ap (λ (v : Cached). v.hits) mid_is)
          ∙ ap (λ (k : ℕ). seen old.capacity es old.hits k) (x_is ∙ ap counted m_is);
    }

pub miss_all : (old new : Cached) (cell : ℕ) (r : Touch) → place_in old.entries cell ≡ None → has cell (cells_of old) ≡ false → MissedAt old new cell r → Touched old new cell r
miss_all old new cell (Hit p) none lacks bad = absurd bad
miss_all old new cell (Miss p out) none lacks missed = miss_touched old new cell p out none lacks missed

pub promoted_cells : (cell p : ℕ) (es : List (ℕ × ℕ)) → has cell (keys_of es) ≡ true → keys_of (fronted_at cell p es) ≡ promoted cell (keys_of es)
promoted_cells cell p es there =
    ap (λ (ks : List ℕ). cell ∷ ks) (keys-without_cell cell es) ∙ sym (cond-true (has cell (keys_of es)) (cell ∷ without cell (keys_of es)) (keys_of es) there)

without_place_absent : (p : ℕ) (es : List (ℕ × ℕ)) → has p (values_of es) ≡ false → without_place p es ≡ es
without_place_absent p [] lacks = refl
without_place_absent p (e ∷ es) lacks =
    let parts = lacks_parts p e.1 (values_of es) lacks in
    kept (eqb p e.1) e (without_place p es) (ne_eqb p e.1 parts.0) ∙ ap (λ (fs : List (ℕ × ℕ)). e ∷ fs) (without_place_absent p es parts.1)

-- without a cell is without its place
pub without_same : (cell p : ℕ) (es : List (ℕ × ℕ)) → AreDistinct (keys_of es) → AreDistinct (values_of es) → place_in es cell ≡ Some p → without_place p es ≡ without_cell cell es
without_same cell p [] dk dv found = refl
without_same cell p (e ∷ es) dk dv found =
    elim (cases_eq cell e.0) [
      | inl same ↦
          let is : p ≡ e.1 = (let both : Some e.1 ≡ Some p = sym (cond-true (eqb cell e.0) (Some e.1) (place_in es cell) (eq-eqb cell e.0 same)) ∙ found in cc) in
          skipped (eqb p e.1) e (without_place p es) (eq-eqb p e.1 is)
          ∙ without_place_absent p es (ap (λ (z : ℕ). has z (values_of es)) is ∙ dv.0)
          ∙ sym (skipped (eqb cell e.0) e (without_cell cell es) (eq-eqb cell e.0 same) ∙ without_cell_absent cell es (ap (λ (z : ℕ). has z (keys_of es)) same ∙ dk.0))
      | inr ne ↦
          let rest : place_in es cell ≡ Some p = sym (cond-false (eqb cell e.0) (Some e.1) (place_in es cell) (ne_eqb cell e.0 ne)) ∙ found in
          let pe : p ≡ e.1 → ⊥ = differ_by_list p e.1 (values_of es) (found_place es cell p rest).1 dv.0 in
          kept (eqb p e.1) e (without_place p es) (ne_eqb p e.1 pe)
          ∙ ap (λ (fs : List (ℕ × ℕ)). e ∷ fs) (without_same cell p es dk.1 dv.1 rest)
          ∙ sym (kept (eqb cell e.0) e (without_cell cell es) (ne_eqb cell e.0 ne))
    ]

-- of entries without repeats, those behind one lack its cell and its place
pub apart_keys : (mid ys : List (ℕ × ℕ)) (e : ℕ × ℕ) → AreDistinct (keys_of ((mid ++ e ∷ []) ++ ys)) → has e.0 (keys_of ys) ≡ false
apart_keys [] ys e dist = dist.0
apart_keys (f ∷ mid) ys e dist = apart_keys mid ys e dist.1

pub apart_places : (mid ys : List (ℕ × ℕ)) (e : ℕ × ℕ) → AreDistinct (values_of ((mid ++ e ∷ []) ++ ys)) → has e.1 (values_of ys) ≡ false
apart_places [] ys e dist = dist.0
apart_places (f ∷ mid) ys e dist = apart_places mid ys e dist.1

pub place_among : (mid ys : List (ℕ × ℕ)) (e : ℕ × ℕ) → has e.1 (values_of ((mid ++ e ∷ []) ++ ys)) ≡ true
place_among [] ys e = has_head e.1 (values_of ys)
place_among (f ∷ mid) ys e = has_tail e.1 f.1 (values_of ((mid ++ e ∷ []) ++ ys)) (place_among mid ys e)
