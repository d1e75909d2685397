-- A device says one state at most.
use Rattle.std.proofs.Common.{◌≡◌, ℕ, Some, sym, ◌∙◌, subst}
use Rattle.st_rack.specs.Story.{Content}
use Rattle.st_deltalog.specs.declared.area.FlexArea.{FlexArea}
use Rattle.st_deltalog.specs.Log.{Log}
use Rattle.st_flexlog.specs.declared.state.FlexState.{FlexState}
use Rattle.st_flexlog.specs.Said.{Says}
use Rattle.st_flexlog.proofs.Saying.{says_one}
use Rattle.st_flexat.specs.FlexAt.{FlexAt}

log_of : (a b : Log) → Some a ≡ Some b → a ≡ b
log_of a b e = cc

pub said_once : (flex : FlexArea) (p g : ℕ) (f : Content) (a b : FlexState) → FlexAt flex p g f a → FlexAt flex p g f b → a ≡ b
said_once flex p g f a b one two =
    let same : one.log ≡ two.log = log_of one.log two.log (sym one.is ∙ two.is) in
    says_one two.log.start two.log.body two.log.deltas a b (subst (λ (l : Log). Says l.start l.body l.deltas a) same one.says) two.says
