-- The flex part of a commit: the old generation stands while it is written, and the commit of the record goes on from it.
use Rattle.std.proofs.Common.{◌≡◌, inl, ℕ, ◌+◌, ◌*◌, ◌<◌, List, length, Some, None, sym, ◌∙◌, subst}
use Rattle.std.specs.List.{slice_get}
use Rattle.st_rack.specs.Device.{Path, State}
use Rattle.st_rack.specs.Moments.{Goes, Keeps, OnDevice}
use Rattle.st_rack.specs.Steps.{Rewriting, Rewritten}
use Rattle.st_rack.proofs.Moments.{at_moment, goes_keeps}
use Rattle.st_slots.specs.Places.{place_at}
use Rattle.st_slots.specs.declared.spot.Area.{Area}
use Rattle.st_slots.proofs.Running.{same}
use Rattle.st_deltalog.specs.declared.area.FlexArea.{FlexArea}
use Rattle.st_deltalog.specs.Log.{Log, serial_in}
use Rattle.st_deltalog.specs.Bearing.{Bears, Rests}
use Rattle.st_deltalog.proofs.Bearing.{Off}
use Rattle.st_commit.specs.Standing.{OneOf, Standing, standing_of}
use Rattle.st_commit.specs.Ready.{Ready, IsSound, Before}
use Rattle.st_commit.proofs.Flexing.{none_only, none_ready, old_only, old_ready}

some_inj : (a b : Path) → Some a ≡ Some b → a ≡ b
some_inj a b e = cc

module _ {D : Type 0} (moment : D → ℕ) (state_at : D → ℕ → State) (pool : Area) (flex : FlexArea) (devs : List Path) (dev : Path) (at : ℕ) (bytes : List ℕ) (old mid : D) (sound : IsSound flex) (head : slice_get devs 0 ≡ Some dev)
    (off : (r : ℕ) → r < 2 → Off (place_at pool r) (512 * pool.slot) at (length bytes)) where
  abbrev start : State
  start = state_at old (moment old)

  abbrev then_ : State
  then_ = state_at mid (moment mid)

  -- over an older log
  module _ (p up g : ℕ) (h : ℕ → List ℕ) (first : Path) (log : Log) (is_first : slice_get devs 0 ≡ Some first) (ready_first : Ready pool flex p up h devs first g (Some log) start) where
    e : dev ≡ first
    e = some_inj dev first (sym head ∙ is_first)

    ready : Ready pool flex p up h devs dev g (Some log) start
    ready = subst (λ (q : Path). Ready pool flex p up h devs q g (Some log) start) (sym e) ready_first

    pub part_rests : Rests flex p up g log (start dev)
    part_rests = ready.base.1

    pub part_during : (that : Standing) → Goes moment state_at (OnDevice dev (Rewriting at bytes)) old mid → Keeps moment state_at (λ s. Bears flex p g g log (s dev)) old mid
        → Keeps moment state_at (OneOf pool flex p devs first (standing_of g (h g) (Some log)) that) old mid
    part_during that run stays = subst (λ (q : Path). Keeps moment state_at (OneOf pool flex p devs q (standing_of g (h g) (Some log)) that) old mid) e (record {
      later = run.later;
      past = run.past;
      all = λ k from until c leaves.
          let s = state_at mid k in
          let here = at_moment moment state_at (OnDevice dev (Rewriting at bytes)) old mid (same moment state_at dev at bytes start) run k from until in
          let both = old_only pool flex p up h devs dev g at bytes sound head off start log ready s here (stays.all k from until) c leaves in
          (both.0, inl both.1);
    })

    pub part_before : (G up' : ℕ) (rec : List ℕ) (new_log : Log) → OnDevice dev (Rewritten at bytes) start then_ → Rests flex p g g log (then_ dev) → G ≡ g + 1 → serial_in rec ≡ p → Rests flex p up' G new_log (then_ dev)
        → Before pool flex p up' h devs first g (Some log) G rec new_log then_
    part_before G up' rec new_log done rests step serial new_rests = subst (λ (q : Path). Before pool flex p up' h devs q g (Some log) G rec new_log then_) e (record {
      step = step;
      head = head;
      same = serial;
      ready = old_ready pool flex p up h devs dev g at bytes sound head off start log ready then_ done rests;
      log_stands = new_rests;
    })

  -- before any commit
  module _ (p up : ℕ) (h : ℕ → List ℕ) (first : Path) (is_first : slice_get devs 0 ≡ Some first) (ready_first : Ready pool flex p up h devs first 0 None start) where
    f : dev ≡ first
    f = some_inj dev first (sym head ∙ is_first)

    blank : Ready pool flex p up h devs dev 0 None start
    blank = subst (λ (q : Path). Ready pool flex p up h devs q 0 None start) (sym f) ready_first

    pub first_part_during : (that : Standing) → Goes moment state_at (OnDevice dev (Rewriting at bytes)) old mid → Keeps moment state_at (OneOf pool flex p devs first None that) old mid
    first_part_during that run = subst (λ (q : Path). Keeps moment state_at (OneOf pool flex p devs q None that) old mid) f
        (goes_keeps moment state_at (OnDevice dev (Rewriting at bytes)) (OneOf pool flex p devs dev None that) old mid (same moment state_at dev at bytes start)
        (λ s step c leaves. (let both = none_only pool flex p up h devs dev 0 at bytes sound head off start blank s step c leaves in (both.0, inl both.1))) run)

    pub first_part_before : (up' : ℕ) (rec : List ℕ) (new_log : Log) → OnDevice dev (Rewritten at bytes) start then_ → serial_in rec ≡ p → Rests flex p up' 1 new_log (then_ dev)
        → Before pool flex p up' h devs first 0 None 1 rec new_log then_
    first_part_before up' rec new_log done serial new_rests = subst (λ (q : Path). Before pool flex p up' h devs q 0 None 1 rec new_log then_) f (record {
      step = (λ i. 1);
      head = head;
      same = serial;
      ready = none_ready pool flex p up h devs dev 0 at bytes sound head off start blank then_ done;
      log_stands = new_rests;
    })
