use Rattle.std.proofs.Common.{◌≡◌, ℕ, Option, Some, None, IfSome, IfNone, slice_get, sym}
use Rattle.std.specs.List.{position}
use Rattle.st_model.specs.Look.{is_called}
use Rattle.st_model.specs.Parts.{pool_at}
use Rattle.st_settings.proofs.Places.{place_found, place_none}
use Rattle.st_within.proofs.place.place_of.Goals as goal

pub returns-clause-at : goal.returns-clause-at
returns-clause-at c = here c.place_in.result (sym c.place_in.ensures)
  where
    here : (o : Option ℕ) → position (is_called c.args.name.now) c.args.pools.now ≡ o → IfSome o (λ i. pool_at c.args.name.now c.args.pools.now ≡ slice_get c.args.pools.now i)
    here None e = tt
    here (Some i) e = place_found (is_called c.args.name.now) c.args.pools.now i e

pub returns-clause-none : goal.returns-clause-none
returns-clause-none c = here c.place_in.result (sym c.place_in.ensures)
  where
    here : (o : Option ℕ) → position (is_called c.args.name.now) c.args.pools.now ≡ o → IfNone o (pool_at c.args.name.now c.args.pools.now ≡ None)
    here None e = place_none (is_called c.args.name.now) c.args.pools.now e
    here (Some i) e = tt
