use Rattle.std.proofs.Common.{◌∙◌, ℕ, List, sym, ap}
use Rattle.std.specs.Map.{keys_of}
use Rattle.st_cachemap.specs.Cached.{Cached}
use Rattle.st_cachemap.proofs.Entries.{found_place, no_place, without_cell_absent, keys-without_cell}
use Rattle.st_cachemap.proofs.Touches.{without_same}
use Rattle.st_cachemap.proofs.cache_map.CacheMap.drop_cell.Goals as goal

pub release-requires : goal.release-requires
release-requires c = (found_place c.args.self.now.entries c.args.cell c.in-Some.place (sym c.peek.ensures.place ∙ c.in-Some.is)).1

pub returns-in-Some-clause-entries : goal.returns-in-Some-clause-entries
returns-in-Some-clause-entries c =
    c.release.ensures
    ∙ ap (λ (es : List (ℕ × ℕ)). record c.args.self.now { entries = es })
    (without_same c.args.cell c.in-Some.place c.args.self.now.entries c.peek.ensures.valid.cells_differ c.peek.ensures.valid.places_differ (sym c.peek.ensures.place ∙ c.in-Some.is))

pub returns-in-Some-clause-cells : goal.returns-in-Some-clause-cells
returns-in-Some-clause-cells c =
    ap (λ (v : Cached). keys_of v.entries) (returns-in-Some-clause-entries c) ∙ keys-without_cell c.args.cell c.args.self.now.entries

pub returns-in_default-clause-entries : goal.returns-in_default-clause-entries
returns-in_default-clause-entries c =
    ap (λ (es : List (ℕ × ℕ)). record c.args.self.now { entries = es })
    (sym (without_cell_absent c.args.cell c.args.self.now.entries (no_place c.args.self.now.entries c.args.cell (sym c.peek.ensures.place ∙ c.in_default.is))))

pub returns-in_default-clause-cells : goal.returns-in_default-clause-cells
returns-in_default-clause-cells c =
    ap (λ (v : Cached). keys_of v.entries) (returns-in_default-clause-entries c) ∙ keys-without_cell c.args.cell c.args.self.now.entries
