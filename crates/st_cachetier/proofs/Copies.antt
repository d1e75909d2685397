-- Copies go on being what their origins are.
use Rattle.std.proofs.Common.{◌≡◌, ◌≢◌, ◌⊎◌, inl, inr, ℕ, zero, suc, ◌+◌, ◌*◌, ◌<◌, ◌≤◌, List, length, take, Option, Some, None, refl, sym, ◌∙◌, ap, subst, arith}
use Rattle.std.proofs.lemmas.Bool.{cases_eq, eq-eqb, cond-true}
use Rattle.st_units.specs.declared.rows.DevRow.{DevRow}
use Rattle.st_cachemap.specs.Cached.{IsCached, place_in, fronted_at}
use Rattle.st_cachemap.proofs.Entries.{found_place}
use Rattle.st_rack.specs.Story.{Content, put_in}
use Rattle.st_rack.specs.Device.{Path, Image, cells}
use Rattle.st_rack.specs.Steps.{put_on}
use Rattle.st_ranges.specs.Ranges.{Range, AreApart, bytes_in}
use Rattle.st_ranges.proofs.Apart.{both_put, put_apart, put_elsewhere, put_given, put_here}
use Rattle.st_cachetier.specs.Tier.{AreCacheRows, Caching, IsCopy, IsElsewhere, capacity_of, copy_range}
use Rattle.st_cachetier.proofs.Lists.{fronted_other, fronted_same, one_cell, taken}
use Rattle.st_cachetier.proofs.Places.{CopyAt, copies_apart, copy_at, copy_elsewhere}

-- a cell that is cached has a place of the tier
pub has_place : (tier : Caching) (cell place : ℕ) → IsCached tier.list → place_in tier.list.entries cell ≡ Some place → place < tier.list.capacity
has_place tier cell place cached at = cached.within place (found_place tier.list.entries cell place at).1

-- a cell that goes to the front has its place
pub first_there : (old new : Caching) (cell at : ℕ) → new.list.entries ≡ take old.list.capacity (fronted_at cell at old.list.entries) → IsCached new.list → new.list.capacity ≡ old.list.capacity → place_in new.list.entries cell ≡ Some at
first_there old new cell at entries cached same = ap (λ (es : List (ℕ × ℕ)). place_in es cell) entries ∙ in_front old.list.capacity (omega (arith, cached.some, same))
  where
    in_front : (n : ℕ) → 0 < n → place_in (take n (fronted_at cell at old.list.entries)) cell ≡ Some at
    in_front zero some = absurd (omega arith)
    in_front (suc n) some = cond-true _ _ _ (eq-eqb cell cell refl)

-- after a miss
module _ (old new : Caching) (cell at : ℕ) (buf : List ℕ) (a b : Image)
    (rows : new.rows ≡ old.rows) (entries : new.list.entries ≡ take old.list.capacity (fronted_at cell at old.list.entries)) (cached : IsCached new.list) (same : new.list.capacity ≡ old.list.capacity)
    (sound : AreCacheRows old.rows) (full : old.list.capacity ≡ capacity_of old.rows) (size : length buf ≡ 65536)
    (put : b ≡ put_on (copy_range old.rows at).0 (copy_range old.rows at).1 buf a) where
  first : place_in new.list.entries cell ≡ Some at
  first = first_there old new cell at entries cached same

  below : at < capacity_of old.rows
  below = omega (arith, has_place new cell at cached first, same, full)

  -- the range of the new copy
  spot_is : copy_range old.rows at ≡ ((copy_range old.rows at).0, (copy_range old.rows at).1, length buf)
  spot_is = (let c = copy_at old.rows at below in let n : (copy_range old.rows at).2 ≡ length buf = ap (λ (r : Range). r.2) c.range ∙ sym size in λ i. ((copy_range old.rows at).0, (copy_range old.rows at).1, n i))

  -- what lies apart from it stays
  stays : (r : Range) → AreApart (copy_range old.rows at) r → bytes_in b r ≡ bytes_in a r
  stays r apart = ap (λ (c : Image). bytes_in c r) put ∙ put_apart (copy_range old.rows at).0 (copy_range old.rows at).1 buf a r (subst (λ (q : Range). AreApart q r) spot_is apart)

  away_stays : (r : Range) → IsElsewhere old.rows r.0 → bytes_in b r ≡ bytes_in a r
  away_stays r away = stays r (λ e. absurd (copy_elsewhere old.rows at (copy_at old.rows at below) r.0 away e))

  own : (r : Range) → IsElsewhere old.rows r.0 → buf ≡ bytes_in a r → (place : ℕ) → place_in new.list.entries cell ≡ Some place → bytes_in b (copy_range new.rows place) ≡ bytes_in b r
  own r away given place is =
      let both : Some at ≡ Some place = sym first ∙ is in
      let here : place ≡ at = cc in
      (λ i. bytes_in b (copy_range (rows i) (here i)))
      ∙ ap (bytes_in b) spot_is
      ∙ ap (λ (c : Image). bytes_in c ((copy_range old.rows at).0, (copy_range old.rows at).1, length buf)) put
      ∙ put_given (copy_range old.rows at).0 (copy_range old.rows at).1 buf a
      ∙ given
      ∙ sym (away_stays r away)

  other : (c : ℕ) (r : Range) → c ≢ cell → IsElsewhere old.rows r.0 → IsCopy old c r a → (place : ℕ) → place_in new.list.entries c ≡ Some place → bytes_in b (copy_range new.rows place) ≡ bytes_in b r
  other c r ne away copy place is =
      let before : place_in old.list.entries c ≡ Some place = sym (fronted_other cell at c old.list.entries ne) ∙ taken old.list.capacity (fronted_at cell at old.list.entries) c place (sym (ap (λ (es : List (ℕ × ℕ)). place_in es c) entries) ∙ is) in
      let differs : at ≢ place = λ e. ne (one_cell new.list.entries cached.places_differ c cell place is (first ∙ ap (λ (k : ℕ). Some k) e)) in
      let lt : place < capacity_of old.rows = omega (arith, has_place new c place cached is, same, full) in
      ap (λ (rs : List DevRow). bytes_in b (copy_range rs place)) rows
      ∙ stays (copy_range old.rows place) (copies_apart old.rows at place sound.apart below lt differs)
      ∙ copy place before
      ∙ sym (away_stays r away)

  pub filled : (c : ℕ) (r : Range) → IsElsewhere old.rows r.0 → IsCopy old c r a → (c ≡ cell → buf ≡ bytes_in a r) → IsCopy new c r b
  filled c r away copy given place is = elim (cases_eq c cell) [
    | inl e ↦ own r away (given e) place (subst (λ (d : ℕ). place_in new.list.entries d ≡ Some place) e is)
    | inr ne ↦ other c r ne away copy place is
  ]

-- after a hit
pub hit_copies : (old new : Caching) (cell at : ℕ) (a : Image) → new.rows ≡ old.rows → new.list.entries ≡ take old.list.capacity (fronted_at cell at old.list.entries) → place_in old.list.entries cell ≡ Some at
    → (c : ℕ) (r : Range) → IsCopy old c r a → IsCopy new c r a
hit_copies old new cell at a rows entries hit c r copy place is =
    let before : place_in old.list.entries c ≡ Some place = sym (fronted_same cell at old.list.entries hit c) ∙ taken old.list.capacity (fronted_at cell at old.list.entries) c place (sym (ap (λ (es : List (ℕ × ℕ)). place_in es c) entries) ∙ is) in
    ap (λ (rs : List DevRow). bytes_in a (copy_range rs place)) rows ∙ copy place before

-- after a write through
module _ (old new : Caching) (cell : ℕ) (dev : Path) (sector offset : ℕ) (bytes : List ℕ) (a m b : Image)
    (rows : new.rows ≡ old.rows) (places : (c : ℕ) → place_in new.list.entries c ≡ place_in old.list.entries c)
    (below : (c p : ℕ) → place_in old.list.entries c ≡ Some p → p < capacity_of old.rows)
    (away : IsElsewhere old.rows dev) (fits : 512 * offset + length bytes ≤ 65536)
    (origin : m ≡ put_on dev (512 * (sector + offset)) bytes a)
    (cached : (place : ℕ) → place_in old.list.entries cell ≡ Some place → b ≡ put_on (copy_range old.rows place).0 ((copy_range old.rows place).1 + 512 * offset) bytes m)
    (absent : place_in old.list.entries cell ≡ None → b ≡ m) where
  none_or_some : (o : Option ℕ) → (o ≡ None) ⊎ ((p : ℕ) × (o ≡ Some p))
  none_or_some None = inl refl
  none_or_some (Some p) = inr (p, refl)

  -- a device that is elsewhere keeps what it had
  pub through_away : (p : Path) → IsElsewhere old.rows p → b p ≡ m p
  through_away p elsewhere = elim (none_or_some (place_in old.list.entries cell)) [
    | inl none ↦ ap (λ (c : Image). c p) (absent none)
    | inr some ↦
        let c = copy_at old.rows some.0 (below cell some.0 some.1) in
        ap (λ (d : Image). d p) (cached some.0 some.1)
        ∙ put_elsewhere (copy_range old.rows some.0).0 ((copy_range old.rows some.0).1 + 512 * offset) bytes m p (λ e. copy_elsewhere old.rows some.0 c p elsewhere (sym e))
  ]

  pub through_held : (p : Path) → IsElsewhere old.rows p → b p ≡ put_on dev (512 * (sector + offset)) bytes a p
  through_held p elsewhere = through_away p elsewhere ∙ ap (λ (c : Image). c p) origin

  -- a copy of another cell
  pub through_other : (c : ℕ) (r : Range) → c ≢ cell → IsElsewhere old.rows r.0 → AreApart (dev, 512 * (sector + offset), length bytes) r
      → ((p q : ℕ) → c ≢ cell → place_in old.list.entries c ≡ Some p → place_in old.list.entries cell ≡ Some q → AreApart (copy_range old.rows q) (copy_range old.rows p))
      → IsCopy old c r a → IsCopy new c r b
  through_other c r ne elsewhere apart copies copy place is =
      let before : place_in old.list.entries c ≡ Some place = sym (places c) ∙ is in
      let at = copy_at old.rows place (below c place before) in
      ap (λ (rs : List DevRow). bytes_in b (copy_range rs place)) rows
      ∙ copy_stays place before at
      ∙ ap (λ (d : Image). bytes_in d (copy_range old.rows place)) origin
      ∙ put_apart dev (512 * (sector + offset)) bytes a (copy_range old.rows place) (λ e. absurd (copy_elsewhere old.rows place at dev away (sym e)))
      ∙ copy place before
      ∙ sym (put_apart dev (512 * (sector + offset)) bytes a r apart)
      ∙ sym (ap (λ (d : Image). bytes_in d r) origin)
      ∙ sym (ap (λ (f : Content). cells f r.1 r.2) (through_away r.0 elsewhere))
    where
      copy_stays : (place : ℕ) → place_in old.list.entries c ≡ Some place → CopyAt old.rows place → bytes_in b (copy_range old.rows place) ≡ bytes_in m (copy_range old.rows place)
      copy_stays place before at = elim (none_or_some (place_in old.list.entries cell)) [
        | inl none ↦ ap (λ (d : Image). bytes_in d (copy_range old.rows place)) (absent none)
        | inr some ↦
            let own = copy_at old.rows some.0 (below cell some.0 some.1) in
            let size : (copy_range old.rows some.0).2 ≡ 65536 = ap (λ (q : Range). q.2) own.range in
            let whole = copies place some.0 ne before some.1 in
            ap (λ (d : Image). bytes_in d (copy_range old.rows place)) (cached some.0 some.1)
            ∙ put_apart (copy_range old.rows some.0).0 ((copy_range old.rows some.0).1 + 512 * offset) bytes m (copy_range old.rows place) (λ e. narrow (copy_range old.rows some.0) (copy_range old.rows place) size (whole e))
      ]
        where
          narrow : (q r : Range) → q.2 ≡ 65536 → (q.1 + q.2 ≤ r.1) ⊎ (r.1 + r.2 ≤ q.1) → (q.1 + 512 * offset + length bytes ≤ r.1) ⊎ (r.1 + r.2 ≤ q.1 + 512 * offset)
          narrow q r size (inl before) = inl (omega (arith, fits, size, before))
          narrow q r size (inr behind) = inr (omega (arith, behind))

  -- the cell's own copy
  pub through_own : IsCopy old cell (dev, 512 * sector, 65536) a → IsCopy new cell (dev, 512 * sector, 65536) b
  through_own copy place is =
      let before : place_in old.list.entries cell ≡ Some place = sym (places cell) ∙ is in
      let at = copy_at old.rows place (below cell place before) in
      let q : Range = copy_range old.rows place in
      let apart : q.0 ≢ dev = copy_elsewhere old.rows place at dev away in
      let there : b q.0 ≡ put_in (q.1 + 512 * offset) bytes (a q.0) =
      ap (λ (d : Image). d q.0) (cached place before) ∙ put_here q.0 (q.1 + 512 * offset) bytes m ∙ ap (put_in (q.1 + 512 * offset) bytes) (ap (λ (d : Image). d q.0) origin ∙ put_elsewhere dev (512 * (sector + offset)) bytes a q.0 apart) in
      let same : 512 * (sector + offset) ≡ 512 * sector + 512 * offset = omega arith in
      let here : b dev ≡ put_in (512 * sector + 512 * offset) bytes (a dev) =
      through_away dev away ∙ ap (λ (d : Image). d dev) origin ∙ put_here dev (512 * (sector + offset)) bytes a ∙ ap (λ (n : ℕ). put_in n bytes (a dev)) same in
      let size : q.2 ≡ 65536 = ap (λ (r : Range). r.2) at.range in
      let alike : cells (a q.0) q.1 65536 ≡ cells (a dev) (512 * sector) 65536 = ap (cells (a q.0) q.1) (sym size) ∙ copy place before in
      ap (λ (rs : List DevRow). bytes_in b (copy_range rs place)) rows
      ∙ ap (λ (f : Content). cells f q.1 q.2) there
      ∙ ap (cells (put_in (q.1 + 512 * offset) bytes (a q.0)) q.1) size
      ∙ both_put (a q.0) (a dev) q.1 (512 * sector) 65536 (512 * offset) bytes alike
      ∙ sym (ap (λ (f : Content). cells f (512 * sector) 65536) here)

-- the copies of two cells lie apart
pub copies_differ : (tier : Caching) → IsCached tier.list → AreCacheRows tier.rows → tier.list.capacity ≡ capacity_of tier.rows → (cell c p q : ℕ) → c ≢ cell → place_in tier.list.entries c ≡ Some p → place_in tier.list.entries cell ≡ Some q
    → AreApart (copy_range tier.rows q) (copy_range tier.rows p)
copies_differ tier cached sound full cell c p q ne at_c at_cell =
    let lt_p : p < capacity_of tier.rows = omega (arith, has_place tier c p cached at_c, full) in
    let lt_q : q < capacity_of tier.rows = omega (arith, has_place tier cell q cached at_cell, full) in
    let differ : q ≢ p = λ e. ne (one_cell tier.list.entries cached.places_differ c cell p at_c (at_cell ∙ ap (λ (k : ℕ). Some k) e)) in
    copies_apart tier.rows q p sound.apart lt_q lt_p differ
