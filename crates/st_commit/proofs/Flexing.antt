-- The flex part of a commit: while it is written to the first device, the old generation stands.
use Rattle.std.proofs.Common.{◌≡◌, inl, inr, ℕ, ◌+◌, ◌*◌, ◌%◌, ◌<◌, ◌≤◌, List, length, Option, Some, None, sym, subst, arith}
use Rattle.std.specs.List.{slice_get}
use Rattle.std.proofs.Math.Nat.{mul-le-mul_right}
use Rattle.st_rack.specs.Device.{Path, DevState, State}
use Rattle.st_rack.specs.Moments.{OnDevice}
use Rattle.st_rack.specs.Steps.{Rewriting, Rewritten}
use Rattle.st_slots.specs.Places.{place_at}
use Rattle.st_slots.specs.declared.spot.Area.{Area}
use Rattle.st_deltalog.specs.declared.area.FlexArea.{FlexArea}
use Rattle.st_deltalog.specs.Log.{Log, sector_at}
use Rattle.st_deltalog.specs.Bearing.{Bears, Rests}
use Rattle.st_deltalog.proofs.Bearing.{Off}
use Rattle.st_rack.proofs.Written.{rewriting_on}
use Rattle.st_commit.specs.Standing.{standing_of, Only}
use Rattle.st_commit.specs.Ready.{Ranked, AllSlots, BearsRecord, Based, Ready, IsSound, AreApart}
use Rattle.st_commit.proofs.Steps.{slots_step, held_step, record_off, certain}
use Rattle.st_rack.proofs.Look.{same_or_other}
use Rattle.st_commit.proofs.Whole.{based_sure, based_off}

-- what is written within one area lies off the slots of another
pub off_within : (one two : Area) (r at n : ℕ) → AreApart one two → r < 2 → 512 * two.at ≤ at → at + n ≤ 512 * (two.at + 2 * two.slot) → Off (place_at one r) (512 * one.slot) at n
off_within one two r at n apart lt low high =
    let half : r * one.slot ≤ 1 * one.slot = (let le : r ≤ 1 = omega arith in mul-le-mul_right one.slot le) in
    elim apart [ inl before ↦ inl (omega (arith, half, before)) | inr after ↦ inr (omega (arith, half, after)) ]

pub slot_within : (area : Area) (slot n : ℕ) → slot < 2 → n ≤ 512 * area.slot → (512 * area.at ≤ place_at area slot) × (place_at area slot + n ≤ 512 * (area.at + 2 * area.slot))
slot_within area slot n lt fits =
    let half : slot * area.slot ≤ 1 * area.slot = (let le : slot ≤ 1 = omega arith in mul-le-mul_right area.slot le) in
    (omega arith, omega (arith, half))

pub sector_within : (flex : FlexArea) (slot k : ℕ) → slot < 2 → k < flex.area.slot → (512 * flex.area.at ≤ sector_at flex slot k) × (sector_at flex slot k + 512 ≤ 512 * (flex.area.at + 2 * flex.area.slot))
sector_within flex slot k lt less =
    let half : slot * flex.area.slot ≤ 1 * flex.area.slot = (let le : slot ≤ 1 = omega arith in mul-le-mul_right flex.area.slot le) in
    (omega arith, omega (arith, half))

module _ (pool : Area) (flex : FlexArea) (p up : ℕ) (h : ℕ → List ℕ) (devs : List Path) (first : Path) (g : ℕ) (at : ℕ) (bytes : List ℕ) (sound : IsSound flex) (head : slice_get devs 0 ≡ Some first)
    (off_pool : (r : ℕ) → r < 2 → Off (place_at pool r) (512 * pool.slot) at (length bytes)) (a : State) where
  slots_far : (old : Option Log) → Ready pool flex p up h devs first g old a → (s : State) → OnDevice first (Rewriting at bytes) a s → AllSlots pool devs (Ranked p h g) s
  slots_far old ready s step = slots_step pool devs first at bytes (Ranked p h g) (λ r lt. inl (off_pool r lt)) a s step ready.held ready.slots

  record_far : (log : Log) → Ready pool flex p up h devs first g (Some log) a → (s : State) → OnDevice first (Rewriting at bytes) a s → BearsRecord pool g (h g) (s first)
  record_far log ready s step = record_off pool g at bytes (h g) (a first) (s first) (off_pool (g % 2) (omega arith)) step.here.changed ready.base.0

  -- with no commit yet there is still none
  pub none_only : Ready pool flex p up h devs first g None a → (s : State) → OnDevice first (Rewriting at bytes) a s → Only pool flex p devs first (standing_of g (h g) None) s
  none_only ready s step = certain pool flex p h devs first g head sound s None ready.base (slots_far None ready s step)

  pub none_ready : Ready pool flex p up h devs first g None a → (s : State) → OnDevice first (Rewritten at bytes) a s → Ready pool flex p g h devs first g None s
  none_ready ready s step = record {
    slots = slots_far None ready s (rewriting_on at bytes first a s step);
    held = held_step pool devs first at bytes (Ranked p h g) (λ r lt. inl (off_pool r lt)) a s step ready.held;
    base = ready.base;
  }

  -- where the log stays, the old generation stands
  pub old_only : (log : Log) → Ready pool flex p up h devs first g (Some log) a → (s : State) → OnDevice first (Rewriting at bytes) a s → Bears flex p g g log (s first) → Only pool flex p devs first (standing_of g (h g) (Some log)) s
  old_only log ready s step bears = certain pool flex p h devs first g head sound s (Some log) (record_far log ready s step, bears, ready.base.2) (slots_far (Some log) ready s step)

  pub old_ready : (log : Log) → Ready pool flex p up h devs first g (Some log) a → (s : State) → OnDevice first (Rewritten at bytes) a s → Rests flex p g g log (s first) → Ready pool flex p g h devs first g (Some log) s
  old_ready log ready s step rests = record {
    slots = slots_far (Some log) ready s (rewriting_on at bytes first a s step);
    held = held_step pool devs first at bytes (Ranked p h g) (λ r lt. inl (off_pool r lt)) a s step ready.held;
    base = (record_far log ready s (rewriting_on at bytes first a s step), rests, ready.base.2);
  }

-- Anything that is written to a device off the slots of both areas, as a header or a cell: the pool stands as it did.
module _ (pool : Area) (flex : FlexArea) (p up : ℕ) (h : ℕ → List ℕ) (devs : List Path) (first : Path) (g : ℕ) (old : Option Log) (dev : Path) (at : ℕ) (bytes : List ℕ) (sound : IsSound flex) (head : slice_get devs 0 ≡ Some first)
    (off_pool : (r : ℕ) → r < 2 → Off (place_at pool r) (512 * pool.slot) at (length bytes)) (off_flex : (r : ℕ) → r < 2 → Off (place_at flex.area r) (512 * flex.area.slot) at (length bytes))
    (a : State) (ready : Ready pool flex p up h devs first g old a) where
  base_at : (s : State) → OnDevice dev (Rewriting at bytes) a s → Based pool flex p up g (h g) old (s first)
  base_at s step = elim (same_or_other first dev) [
    | inl e ↦ based_off pool flex p up g (h g) old at bytes sound (off_pool (g % 2) (omega arith)) off_flex (a first) (s first) (subst (λ (q : Path). Rewriting at bytes (a q) (s q)) (sym e) step.here) ready.base
    | inr ne ↦ subst (λ (x : DevState). Based pool flex p up g (h g) old x) (sym (step.others first ne)) ready.base
  ]

  pub far_only : (s : State) → OnDevice dev (Rewriting at bytes) a s → Only pool flex p devs first (standing_of g (h g) old) s
  far_only s step = certain pool flex p h devs first g head sound s old (based_sure pool flex p up g (h g) old (s first) (base_at s step)) (slots_step pool devs dev at bytes (Ranked p h g) (λ r lt. inl (off_pool r lt)) a s step ready.held ready.slots)

  pub far_ready : (s : State) → OnDevice dev (Rewritten at bytes) a s → Ready pool flex p up h devs first g old s
  far_ready s step = record {
    slots = slots_step pool devs dev at bytes (Ranked p h g) (λ r lt. inl (off_pool r lt)) a s (rewriting_on at bytes dev a s step) ready.held ready.slots;
    held = held_step pool devs dev at bytes (Ranked p h g) (λ r lt. inl (off_pool r lt)) a s step ready.held;
    base = base_at s (rewriting_on at bytes dev a s step);
  }
