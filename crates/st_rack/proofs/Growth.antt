-- Stories only grow, so one premise at the end serves each moment before.
use Rattle.std.proofs.Common.{inl, inr, Option, refl, sym, subst}
use Rattle.st_rack.specs.Story.{Content, Story, Began, Wrote, Settled, FairPast, Grows}
use Rattle.st_rack.specs.Device.{DevState, Touched, Settling, Cut}

pub grows_self : (story : Story) → Grows story story
grows_self (Began f) = refl
grows_self (Wrote at bytes story) = inl refl
grows_self (Settled f story) = inl refl

pub grows_on : (old mid new : Story) → Grows old mid → Grows mid new → Grows old new
grows_on old mid (Began f) one is = subst (λ (y : Story). Grows old y) (sym is) one
grows_on old mid (Wrote at bytes story) one (inl is) = subst (λ (y : Story). Grows old y) (sym is) one
grows_on old mid (Wrote at bytes story) one (inr more) = inr (grows_on old mid story one more)
grows_on old mid (Settled f story) one (inl is) = subst (λ (y : Story). Grows old y) (sym is) one
grows_on old mid (Settled f story) one (inr more) = inr (grows_on old mid story one more)

-- what was fair in the end was fair before
pub fair_before : {X : Type 0} (read : Content → Option X) (old new : Story) → Grows old new → FairPast read new → FairPast read old
fair_before read old (Began f) is past = subst (λ (y : Story). FairPast read y) is past
fair_before read old (Wrote at bytes story) (inl is) past = subst (λ (y : Story). FairPast read y) is past
fair_before read old (Wrote at bytes story) (inr more) past = fair_before read old story more past
fair_before read old (Settled f story) (inl is) past = subst (λ (y : Story). FairPast read y) is past
fair_before read old (Settled f story) (inr more) past = fair_before read old story more past.1

pub touched_grows : (at : _) (bytes : _) (a b : DevState) → Touched at bytes a b → Grows a.story b.story
touched_grows at bytes a b t = subst (λ (y : Story). Grows a.story y) (sym t.told) (inr (grows_self a.story))

pub settling_grows : (a b : DevState) → Settling a b → Grows a.story b.story
settling_grows a b t = elim t.told [
  | inl same ↦ subst (λ (y : Story). Grows a.story y) (sym same) (grows_self a.story)
  | inr settled ↦ subst (λ (y : Story). Grows a.story y) (sym settled) (inr (grows_self a.story))
]

pub cut_grows : (a b : DevState) → Cut a b → Grows a.story b.story
cut_grows a b t = subst (λ (y : Story). Grows a.story y) (sym t.told) (inr (grows_self a.story))
