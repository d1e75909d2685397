-- One write of a record, in a commit.
use Rattle.std.proofs.Common.{◌≡◌, ◌≢◌, ℕ, ◌+◌, ◌*◌, ◌^◌, ◌≤◌, Bool, true, cond, nat_eq, List, length, Option, Some, sym, ◌∙◌, ap, subst, arith}
use Rattle.std.specs.List.{slice_get}
use Rattle.std.proofs.lemmas.Bool.Decides.{nat_tests}
use Rattle.st_fields.specs.Slot.{slot_bytes}
use Rattle.st_rack.specs.Device.{Path, State}
use Rattle.st_rack.specs.Moments.{Goes, Keeps, OnDevice}
use Rattle.st_rack.specs.Steps.{Rewriting, Rewritten}
use Rattle.st_rack.proofs.Moments.{goes_keeps}
use Rattle.st_slots.specs.Places.{slot_at}
use Rattle.st_slots.specs.declared.spot.Area.{Area}
use Rattle.st_slots.proofs.Running.{same}
use Rattle.st_deltalog.specs.declared.area.FlexArea.{FlexArea}
use Rattle.st_deltalog.specs.Log.{Log}
use Rattle.st_deltalog.specs.Bearing.{Rests}
use Rattle.st_commit.specs.Standing.{OneOf, Only, standing_of}
use Rattle.st_commit.specs.Ready.{IsOf, BearsRecord, Ready, IsSound, AreApart, next, Before, Spares, NoOther}
use Rattle.st_commit.specs.inner.Spreading.{AllKnown}
use Rattle.st_commit.proofs.Frame.{spares_run}
use Rattle.st_commit.proofs.Known.{known_step, known_left, known_done}
use Rattle.st_commit.proofs.Whole.{bytes_fit, first_at, first_ready, spread_at, spread_ready, spread_bears, spread_others}

some_inj : (a b : Path) → Some a ≡ Some b → a ≡ b
some_inj a b e = cc

pub next_top : (G : ℕ) (rec : List ℕ) (h : ℕ → List ℕ) → next G rec h G ≡ rec
next_top G rec h = ap (λ (t : Bool). cond t rec (h G)) (same_true G)
  where
    same_true : (n : ℕ) → nat_eq n n ≡ true
    same_true n = grind (arith, nat_tests)

module _ {D : Type 0} (moment : D → ℕ) (state_at : D → ℕ → State) (pool : Area) (devs : List Path) (G : ℕ) (rec : List ℕ) (dev : Path) (old new : D)
    (eight : length pool.magic ≡ 8) (some : 1 ≤ G) (until : G ≤ 2 ^ 48) (small : pool.slot ≤ 2 ^ 32) (room : 64 + length rec ≤ 512 * pool.slot) where
  abbrev before : State
  before = state_at old (moment old)

  abbrev after : State
  after = state_at new (moment new)

  abbrev bytes : List ℕ
  bytes = slot_bytes pool.magic G rec

  abbrev Run : Type 0
  Run = Goes moment state_at (OnDevice dev (Rewriting (slot_at pool G) bytes)) old new

  abbrev Done : Type 0
  Done = OnDevice dev (Rewritten (slot_at pool G) bytes) before after

  fits : length bytes ≤ 512 * pool.slot
  fits = bytes_fit pool G rec eight room

  pub write_spares : IsOf devs dev → Run → Goes moment state_at (Spares pool G devs) old new
  write_spares of run = spares_run pool G devs moment state_at dev of bytes fits old new run

  at_each : (Q : State → Type 0) → ((s : State) → OnDevice dev (Rewriting (slot_at pool G) bytes) before s → Q s) → Run → Keeps moment state_at Q old new
  at_each Q each run = goes_keeps moment state_at (OnDevice dev (Rewriting (slot_at pool G) bytes)) Q old new (same moment state_at dev (slot_at pool G) bytes before) each run

  pub write_known : Run → (start : State) → AllKnown pool devs G rec start before → Keeps moment state_at (NoOther pool devs G rec start) old new
  write_known run start known = at_each (NoOther pool devs G rec start)
      (λ s step. known_left pool devs G rec start s (known_step pool devs G rec start dev eight some until small fits before s known step)) run

  pub write_known_done : Done → (start : State) → AllKnown pool devs G rec start before → AllKnown pool devs G rec start after
  write_known_done done start known = known_done pool devs G rec start dev eight some until small fits before after known done

  -- to the first device, whose log of the new generation stands
  module _ (head : slice_get devs 0 ≡ Some dev) (flex : FlexArea) (p up g : ℕ) (h : ℕ → List ℕ) (first : Path) (was : Option Log) (log : Log) (sound : IsSound flex) (apart : AreApart pool flex.area)
      (goes_on_from : Before pool flex p up h devs first g was G rec log before) where
    is_first : dev ≡ first
    is_first = some_inj dev first (sym head ∙ goes_on_from.head)

    ready : Ready pool flex p g h devs dev g was before
    ready = subst (λ (q : Path). Ready pool flex p g h devs q g was before) (sym is_first) goes_on_from.ready

    logged : Rests flex p up G log (before dev)
    logged = subst (λ (q : Path). Rests flex p up G log (before q)) (sym is_first) goes_on_from.log_stands

    pub write_first : Run → Keeps moment state_at (OneOf pool flex p devs first (standing_of g (h g) was) (standing_of G rec (Some log))) old new
    write_first run = subst (λ (q : Path). Keeps moment state_at (OneOf pool flex p devs q (standing_of g (h g) was) (standing_of G rec (Some log))) old new) is_first
        (at_each (OneOf pool flex p devs dev (standing_of g (h g) was) (standing_of G rec (Some log)))
        (first_at pool flex p up h devs dev g G was rec log eight sound some until small fits apart goes_on_from.step head goes_on_from.same before ready logged) run)

    pub write_first_done : Done → Ready pool flex p up (next G rec h) devs first G (Some log) after
    write_first_done done = subst (λ (q : Path). Ready pool flex p up (next G rec h) devs q G (Some log) after) is_first
        (first_ready pool flex p up h devs dev g G was rec log eight sound some until small fits apart goes_on_from.step head goes_on_from.same before ready logged after done)

  -- to another one
  module _ (flex : FlexArea) (p up : ℕ) (h : ℕ → List ℕ) (first : Path) (log : Log) (sound : IsSound flex) (head : slice_get devs 0 ≡ Some first) (is : h G ≡ rec) (ne : dev ≢ first)
      (ready : Ready pool flex p up h devs first G (Some log) before) where
    pub write_other : Run → Keeps moment state_at (Only pool flex p devs first (standing_of G rec (Some log))) old new
    write_other run = at_each (Only pool flex p devs first (standing_of G rec (Some log))) (spread_at pool flex p up h devs first G log rec dev eight sound some until small fits head is ne before ready) run

    pub write_other_ready : Done → Ready pool flex p up h devs first G (Some log) after
    write_other_ready done = spread_ready pool flex p up h devs first G log rec dev eight sound some until small fits head is ne before ready after done

    pub write_other_bears : Done → BearsRecord pool G rec (after dev)
    write_other_bears done = spread_bears pool flex p up h devs first G log rec dev eight sound some until small fits head is ne before ready after done

    pub write_other_stays : Done → (d : Path) → BearsRecord pool G rec (before d) → BearsRecord pool G rec (after d)
    write_other_stays done d = spread_others pool flex p up h devs first G log rec dev eight sound some until small fits head is ne before ready after d done
