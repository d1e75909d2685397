-- Which of delta and checkpoint was written.
use Rattle.std.proofs.Common.{◌≡◌, ℕ, ◌<◌, Bool, List, Some, refl, arith}
use Rattle.st_rack.specs.Story.{Content}
use Rattle.st_deltalog.specs.declared.area.FlexArea.{FlexArea}
use Rattle.st_deltalog.specs.Log.{Log, begun, grown}
use Rattle.st_deltalog.specs.Bearing.{Holds}
use Rattle.st_deltalog.specs.Choice.{MayFollow, GoesByRule}

pub rule_delta : (flex : FlexArea) (rows committed : Bool) (log : Log) (body : List ℕ) → MayFollow flex rows committed log → GoesByRule flex rows committed log (Some (grown log body))
rule_delta flex rows committed log body may = (λ same. may, λ may. refl)

pub rule_checkpoint : (flex : FlexArea) (rows committed : Bool) (p g G slot : ℕ) (log : Log) (body : List ℕ) (f : Content) → Holds flex p g log f → g < G → ¬ MayFollow flex rows committed log → GoesByRule flex rows committed log (Some (begun slot (G, body)))
rule_checkpoint flex rows committed p g G slot log body f held less not_may = (λ same. absurd (differ (number G log.start same)), λ may. absurd (not_may may))
  where
    number : (a b : ℕ) → Some a ≡ Some b → a ≡ b
    number a b e = cc

    differ : G ≡ log.start → ⊥
    differ e = let counted = held.counted in omega arith
