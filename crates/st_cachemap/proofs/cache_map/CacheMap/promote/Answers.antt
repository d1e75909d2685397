use Rattle.std.proofs.Common.{◌∙◌, sym, ap}
use Rattle.std.proofs.lemmas.Bool.{both_ways}
use Rattle.std.specs.Map.{keys_of}
use Rattle.st_cachemap.specs.Cached.{Cached}
use Rattle.st_cachemap.proofs.Entries.{no_place}
use Rattle.st_cachemap.proofs.Touches.{promoted_cells}
use Rattle.st_cachemap.proofs.cache_map.CacheMap.promote.Goals as goal

pub returns-in-Some-clause-cells : goal.returns-in-Some-clause-cells
returns-in-Some-clause-cells c =
    ap (λ (v : Cached). keys_of v.entries) c.move_front.ensures ∙ promoted_cells c.args.cell c.in-Some.place c.args.self.now.entries c.requires

pub returns-in_default-clause-cells : goal.returns-in_default-clause-cells
returns-in_default-clause-cells c =
    absurd (both_ways _ (no_place c.args.self.now.entries c.args.cell (sym c.peek.ensures.place ∙ c.in_default.is)) c.requires)
