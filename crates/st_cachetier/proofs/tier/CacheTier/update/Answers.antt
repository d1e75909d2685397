use Rattle.std.proofs.Common.{◌≡◌, ℕ, ◌<◌, ◌+◌, ◌*◌, ◌∷◌, List, MatchOption, Option, Some, None, IfSome, refl, sym, ◌∙◌, ap, subst, arith}
use Rattle.std.proofs.lemmas.Bool.{cond-false}
use Rattle.st_limits.specs.Cache.{has, without}
use Rattle.st_cachemap.specs.Cached.{IsCached, cells_of, fronted_at, place_in}
use Rattle.st_cachemap.proofs.Entries.{found_place, no_place}
use Rattle.st_rack.specs.Device.{held}
use Rattle.st_rack.specs.Steps.{put_on}
use Rattle.st_ranges.proofs.Working.{runs_none}
use Rattle.st_cachetier.specs.Tier.{Caching, cache_ranges, capacity_of, copy_range}
use Rattle.st_cachetier.proofs.Copies.{copies_differ, has_place}
use Rattle.st_cachetier.proofs.Lists.{fronted_same, none_some}
use Rattle.st_cachetier.proofs.tier.CacheTier.update.Goals as goal

never : {A : Type 0} (o : Option ℕ) (p : ℕ) → Some p ≡ o → o ≡ None → A
never o p some none = absurd (let bad : Some p ≡ None = some ∙ none in cc)

pub put_copy-requires-clause-place : goal.put_copy-requires-clause-place
put_copy-requires-clause-place g c = has_place c.args.self.now c.args.cell c.in-Some.place c.peek.ensures.cached (sym c.in-Some.ensures.place)

pub promote-requires : goal.promote-requires
promote-requires g c = (found_place c.args.self.now.list.entries c.args.cell c.in-Some.place (sym c.in-Some.ensures.place)).0

pub returns-in_err-put_copy-in-Some-clause-absent : goal.returns-in_err-put_copy-in-Some-clause-absent
returns-in_err-put_copy-in-Some-clause-absent g c = λ none. never (place_in c.args.self.now.list.entries c.args.cell) c.in-Some.place c.in-Some.ensures.place none

pub returns-in_err-put_copy-in-Some-clause-apart : goal.returns-in_err-put_copy-in-Some-clause-apart
returns-in_err-put_copy-in-Some-clause-apart g c = copies_differ c.args.self.now c.peek.ensures.cached c.peek.ensures.valid c.peek.ensures.full c.args.cell

pub returns-in-None-clause-list : goal.returns-in-None-clause-list
returns-in-None-clause-list g c =
    let cells = cells_of c.args.self.now.list in
    record {
      rows = refl;
      cells = sym (cond-false (has c.args.cell cells) (c.args.cell ∷ without c.args.cell cells) cells (no_place c.args.self.now.list.entries c.args.cell (sym c.in-None.ensures.place)));
      rest = refl;
    }

pub returns-in-None-clause-time : goal.returns-in-None-clause-time
returns-in-None-clause-time g c = runs_none g.R.Rack.moment g.R.Rack.state_at (cache_ranges c.args.self.now.rows) c.args.rack.now

pub returns-in-None-clause-cached : goal.returns-in-None-clause-cached
returns-in-None-clause-cached g c = none_some (place_in c.args.self.now.list.entries c.args.cell) _ (sym c.in-None.ensures.place)

pub returns-in-None-clause-apart : goal.returns-in-None-clause-apart
returns-in-None-clause-apart g c = copies_differ c.args.self.now c.peek.ensures.cached c.peek.ensures.valid c.peek.ensures.full c.args.cell

pub returns-in_ok-put_copy-in-Some-clause-places : goal.returns-in_ok-put_copy-in-Some-clause-places
returns-in_ok-put_copy-in-Some-clause-places g c =
    let old = c.args.self.now.list.entries in
    let new = c.promote.new.self.list.entries in
    let es : new ≡ fronted_at c.args.cell c.in-Some.place old = subst (λ (o : Option ℕ). MatchOption o (Unit {0}) (λ (p : ℕ). new ≡ fronted_at c.args.cell p old)) (sym c.in-Some.ensures.place) c.promote.ensures.entries in
    λ d. ap (λ (l : List (ℕ × ℕ)). place_in l d) es ∙ fronted_same c.args.cell c.in-Some.place old (sym c.in-Some.ensures.place) d

pub returns-in_ok-put_copy-in-Some-clause-cached : goal.returns-in_ok-put_copy-in-Some-clause-cached
returns-in_ok-put_copy-in-Some-clause-cached g c =
    let M = g.R.Rack.moment in
    let S = g.R.Rack.state_at in
    let rows = c.args.self.now.rows in
    subst (λ (o : Option ℕ). IfSome o (λ (p : ℕ). held (S c.put_copy.new.rack (M c.put_copy.new.rack))
    ≡ put_on (copy_range rows p).0 ((copy_range rows p).1 + 512 * c.args.offset) c.args.bytes.now (held (S c.args.rack.now (M c.args.rack.now))))) c.in-Some.ensures.place c.in_ok-put_copy-in-Some.ensures.held

pub returns-in_ok-put_copy-in-Some-clause-absent : goal.returns-in_ok-put_copy-in-Some-clause-absent
returns-in_ok-put_copy-in-Some-clause-absent g c = λ none. never (place_in c.args.self.now.list.entries c.args.cell) c.in-Some.place c.in-Some.ensures.place none

pub returns-in_ok-put_copy-in-Some-clause-apart : goal.returns-in_ok-put_copy-in-Some-clause-apart
returns-in_ok-put_copy-in-Some-clause-apart g c = copies_differ c.args.self.now c.peek.ensures.cached c.peek.ensures.valid c.peek.ensures.full c.args.cell

below : (tier : Caching) → IsCached tier.list → tier.list.capacity ≡ capacity_of tier.rows → (c p : ℕ) → place_in tier.list.entries c ≡ Some p → p < capacity_of tier.rows
below tier cached full c p at = omega (arith, has_place tier c p cached at, full)

pub returns-in_err-put_copy-in-Some-clause-below : goal.returns-in_err-put_copy-in-Some-clause-below
returns-in_err-put_copy-in-Some-clause-below g c = below c.args.self.now c.peek.ensures.cached c.peek.ensures.full

pub returns-in-None-clause-below : goal.returns-in-None-clause-below
returns-in-None-clause-below g c = below c.args.self.now c.peek.ensures.cached c.peek.ensures.full

pub returns-in_ok-put_copy-in-Some-clause-below : goal.returns-in_ok-put_copy-in-Some-clause-below
returns-in_ok-put_copy-in-Some-clause-below g c = below c.args.self.now c.peek.ensures.cached c.peek.ensures.full
