-- What was met of a call in flight, by books that are found.
use Rattle.std.specs.Prelude.{◌≡◌, ◌⊎◌, ℕ, ◌+◌, ◌<◌, false, [], bytes_eq, Option, Some, None}
use Rattle.st_limits.specs.declared.TheConstants.{MAX_COMMITS}
use Rattle.st_model.specs.declared.call.Call.{Call}
use Rattle.st_model.specs.declared.call.Call.TheVariants.{CreatePool, DestroyPool, RenamePool}
use Rattle.st_model.specs.declared.entry.Env.{Env}
use Rattle.st_model.specs.declared.entry.Env.TheVariants.{Plain, After, Before}
use Rattle.st_books.specs.declared.books.Books.{Books}
use Rattle.st_told.specs.Told.{AreFirst, AreLike}

-- What was met of a call in flight, or of none, where these books were found and others are known: those before the call.
abbrev pub IsMet : Option Call → Books → Books → Env → Type 0
IsMet None k b env = (env ≡ Plain) × AreLike k.rec.name k.generation k b
IsMet (Some (CreatePool name devices)) k b env = (env ≡ After) × AreFirst name b
IsMet (Some (DestroyPool name)) k b env = (env ≡ Before []) × AreLike k.rec.name k.generation k b
IsMet (Some (RenamePool name new)) k b env =
    ((env ≡ Before []) × AreLike k.rec.name k.generation k b)
    ⊎ ((env ≡ After) × (bytes_eq k.rec.name new ≡ false) × (k.generation < MAX_COMMITS) × AreLike new (k.generation + 1) k b)
IsMet (Some call) k b env = ⊥

-- the pool's making is in flight
abbrev pub IsMaking : Option Call → Type 0
IsMaking (Some (CreatePool name devices)) = Unit {0}
IsMaking _ = ⊥

-- its end is in flight, and this is the commit that makes it
abbrev pub IsEnding : Option Call → Books → ℕ → Type 0
IsEnding (Some (DestroyPool name)) k g = (k.generation < MAX_COMMITS) × (g ≡ k.generation + 1)
IsEnding _ k g = ⊥
