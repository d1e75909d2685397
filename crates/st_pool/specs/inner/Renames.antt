-- What a rename takes before its first device call.
use Rattle.std.specs.Prelude.{◌≡◌, ℕ, false, List, Option, Some, None}
use Rattle.st_model.specs.declared.call.Call.{Call}
use Rattle.st_model.specs.declared.call.Call.TheVariants.{RenamePool}
use Rattle.st_model.specs.declared.entry.Env.TheVariants.{Plain}
use Rattle.st_model.specs.declared.info.PoolInfo.{PoolInfo}
use Rattle.st_model.specs.declared.reply.Reply.{Reply}
use Rattle.st_books.specs.declared.books.Books.{Books}
use Rattle.st_pool.specs.declared.renaming.Renaming.{Renaming}
use Rattle.st_pool.specs.declared.renaming.Renaming.TheVariants.{Answered, Planned}
use Rattle.st_pool.specs.Answered.{answered}
use Rattle.st_pool.specs.inner.Plans.{AreTwins, IsPlan, record_with, rename_refusal}

-- it is refused, or changes nothing, and so it is answered; or the commit is made ready, and the infos after it
abbrev pub IsReady : Books → Option Call → PoolInfo → List ℕ → Renaming → Type 0
IsReady b flight info new (Answered answer) = (reply : Reply) × (rename_refusal b flight new ≡ Some reply) × (answer ≡ answered Plain reply)
IsReady b flight info new (Planned plan done) = (rename_refusal b flight new ≡ None) × IsPlan b info (record_with new false b.rec) (RenamePool b.rec.name new) plan × AreTwins (record info { name = new }) done
