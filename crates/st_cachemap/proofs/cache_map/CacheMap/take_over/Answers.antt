use Rattle.std.proofs.Common.{◌≡◌, ◌<◌, ◌∙◌, ◌++◌, ℕ, List, sym, ap, subst, arith}
use Rattle.std.specs.Map.{keys_of, values_of}
use Rattle.st_limits.specs.Cache.{has, AreDistinct}
use Rattle.st_cachemap.specs.Cached.{Cached}
use Rattle.st_cachemap.proofs.Touches.{apart_keys, apart_places, place_among}
use Rattle.st_cachemap.proofs.cache_map.CacheMap.take_over.Goals as goal

pub occupy-requires-clause-place : goal.occupy-requires-clause-place
occupy-requires-clause-place c =
    let among = ap (λ (es : List (ℕ × ℕ)). has c.in-Some.place (values_of es)) (sym c.cells.invariant.all ∙ ap (λ (es : List (ℕ × ℕ)). es ++ c.cells.self.entries) c.in-Some.ensures.0) ∙ place_among c.pop_last.new.self.entries c.cells.self.entries (c.in-Some.cell, c.in-Some.place) in
    let below : c.in-Some.place < c.args.other.now.capacity = c.requires.valid.within c.in-Some.place among in
    let same : c.cells.self.capacity ≡ c.args.self.now.capacity = ap (λ (v : Cached). v.capacity) c.cells.invariant.to_rest in
    omega (arith, below, same, c.requires.fits)

pub occupy-requires-clause-free : goal.occupy-requires-clause-free
occupy-requires-clause-free c =
    apart_places c.pop_last.new.self.entries c.cells.self.entries (c.in-Some.cell, c.in-Some.place)
    (subst (λ (es : List (ℕ × ℕ)). AreDistinct (values_of es)) (sym c.cells.invariant.all ∙ ap (λ (es : List (ℕ × ℕ)). es ++ c.cells.self.entries) c.in-Some.ensures.0) c.requires.valid.places_differ)

pub occupy-requires-clause-absent : goal.occupy-requires-clause-absent
occupy-requires-clause-absent c =
    apart_keys c.pop_last.new.self.entries c.cells.self.entries (c.in-Some.cell, c.in-Some.place)
    (subst (λ (es : List (ℕ × ℕ)). AreDistinct (keys_of es)) (sym c.cells.invariant.all ∙ ap (λ (es : List (ℕ × ℕ)). es ++ c.cells.self.entries) c.in-Some.ensures.0) c.requires.valid.cells_differ)
