use Rattle.std.proofs.Common.{rules, ◌≡◌, ℕ, Option, Some, None, IfSome, IfNone, slice_get}
use Rattle.std.specs.List.{position}
use Rattle.st_model.specs.steps.StartPool.{is_meant, pool_meant}
use Rattle.st_settings.proofs.Places.{place_found, place_none}
use Rattle.st_stepping.proofs.start.place_meant.Goals as goal

pub returns-clause-at : goal.returns-clause-at
returns-clause-at c = here c.place_in.result (search rules)
  where
    here : (o : Option ℕ) → position (is_meant c.args.id.now) c.args.state.now.pools ≡ o → IfSome o (λ i. pool_meant c.args.id.now c.args.state.now ≡ slice_get c.args.state.now.pools i)
    here None e = tt
    here (Some i) e = place_found (is_meant c.args.id.now) c.args.state.now.pools i e

pub returns-clause-none : goal.returns-clause-none
returns-clause-none c = here c.place_in.result (search rules)
  where
    here : (o : Option ℕ) → position (is_meant c.args.id.now) c.args.state.now.pools ≡ o → IfNone o (pool_meant c.args.id.now c.args.state.now ≡ None)
    here None e = place_none (is_meant c.args.id.now) c.args.state.now.pools e
    here (Some i) e = tt
