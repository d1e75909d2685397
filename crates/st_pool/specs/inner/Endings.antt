-- What an end takes before its first device call.
use Rattle.std.specs.Prelude.{◌≡◌, true, Option, Some, None}
use Rattle.st_model.specs.declared.call.Call.{Call}
use Rattle.st_model.specs.declared.call.Call.TheVariants.{DestroyPool}
use Rattle.st_model.specs.declared.entry.Env.TheVariants.{Plain}
use Rattle.st_model.specs.declared.info.PoolInfo.{PoolInfo}
use Rattle.st_model.specs.declared.reply.Reply.{Reply}
use Rattle.st_books.specs.declared.books.Books.{Books}
use Rattle.st_pool.specs.declared.ending.Ending.{Ending}
use Rattle.st_pool.specs.declared.ending.Ending.TheVariants.{Answered, Planned}
use Rattle.st_pool.specs.Answered.{answered}
use Rattle.st_pool.specs.inner.Plans.{IsPlan, record_with, refusal}

-- it is refused, and so it is answered; or the commit is made ready
abbrev pub IsReady : Books → Option Call → PoolInfo → Ending → Type 0
IsReady b flight info (Answered answer) = (reply : Reply) × (refusal b flight ≡ Some reply) × (answer ≡ answered Plain reply)
IsReady b flight info (Planned plan) = (refusal b flight ≡ None) × IsPlan b info (record_with b.rec.name true b.rec) (DestroyPool b.rec.name) plan
