-- The newest record is written to devices that lack it.
use Rattle.std.proofs.Common.{◌≡◌, ◌≢◌, ◌⊎◌, inl, inr, ℕ, ◌*◌, ◌%◌, ◌^◌, ◌<◌, ◌≤◌, List, length, Option, Some, refl, sym, ◌∙◌, ap, subst, arith}
use Rattle.std.specs.List.{slice_get}
use Rattle.st_fields.specs.Slot.{slot_bytes}
use Rattle.st_rack.specs.Story.{Content}
use Rattle.st_rack.specs.Device.{Path, DevState, State, cells}
use Rattle.st_rack.specs.Moments.{OnDevice, Keeps}
use Rattle.st_rack.specs.Steps.{Rewriting, Rewritten}
use Rattle.st_rack.specs.Readers.{SureIn}
use Rattle.st_rack.proofs.Chance.{found_in}
use Rattle.st_rack.proofs.Look.{same_or_other}
use Rattle.st_slots.specs.Places.{place_at, slot_at}
use Rattle.st_slots.specs.Reading.{read_slot}
use Rattle.st_slots.specs.declared.spot.Area.{Area}
use Rattle.st_slots.proofs.Places.{slot_of_any}
use Rattle.st_deltalog.specs.declared.area.FlexArea.{FlexArea}
use Rattle.st_deltalog.specs.Log.{Log, serial_in}
use Rattle.st_deltalog.specs.Bearing.{Rests, other}
use Rattle.st_deltalog.proofs.Bearing.{Off, log_left}
use Rattle.st_rack.proofs.Written.{rewriting_on, rewritten_sure}
use Rattle.st_commit.specs.Standing.{newest_over, with_log, standing_of, Only}
use Rattle.st_commit.specs.Ready.{IsOf, Ranked, AllSlots, BearsRecord, Ready, IsSound, AreApart}
use Rattle.st_commit.specs.Repair.{Newest, NewestOnly, Mended, AllSure}
use Rattle.st_commit.proofs.Over.{over_all, over_least, is_top, kept}
use Rattle.st_commit.proofs.Steps.{slots_step, held_step, record_left, record_new, one_history}
use Rattle.st_commit.proofs.Whole.{off_slot, slot_reads, log_far, off_area, turned}
use Rattle.st_commit.proofs.Roles.{slot_fair, checkpoint_fair, slots_left_on}

module _ (pool : Area) (p : ℕ) (h : ℕ → List ℕ) (devs : List Path) (bearer : Path) (g : ℕ) (rec : List ℕ) where
  -- where it stands on the bearer, it is the newest
  pub newest_certain : IsOf devs bearer → h g ≡ rec → serial_in rec ≡ p → (s : State) → BearsRecord pool g rec (s bearer) → AllSlots pool devs (Ranked p h g) s → NewestOnly pool p devs g rec s
  newest_certain of is serial s bears all c leaves =
      let each = (λ (d : Path) (of_d : IsOf devs d) (r : ℕ) (lt : r < 2). found_in (read_slot pool r) (Ranked p h g) (s d).story (c d) (λ x e. absurd (cc)) (all d of_d r lt) (slot_fair pool (s d) (c d) (leaves of_d.index d of_d.is) r lt)) in
      let there = over_least pool p c g devs bearer of.index (g % 2) of.is (omega arith) (record { one = (g, rec); is = kept p g rec (read_slot pool (g % 2) (c bearer)) (record_left pool g rec (s bearer) (c bearer) bears (leaves of.index bearer of.is).left) serial; from = omega arith }) in (
        one_history pool p h g devs c each,
        is_top h g (newest_over pool p devs c) (over_all pool p c (λ o. (x : ℕ × List ℕ) → o ≡ Some x → (x.0 ≤ g) × (h x.0 ≡ x.1)) devs (λ x e. absurd (cc)) each) there
            ∙ ap (λ (b : List ℕ). Some (g, b)) is,
      )

  module _ (dev : Path) (eight : length pool.magic ≡ 8) (some : 1 ≤ g) (until : g ≤ 2 ^ 48) (small : pool.slot ≤ 2 ^ 32) (fits : length (slot_bytes pool.magic g rec) ≤ 512 * pool.slot) (a : State) (new : Newest pool p h devs bearer g rec a) where
    abbrev bytes : List ℕ
    bytes = slot_bytes pool.magic g rec

    good : Ranked p h g (Some (g, rec))
    good x e =
        let same : x ≡ (g, rec) = some_inj x (g, rec) (sym e ∙ kept p g rec (Some (g, rec)) refl new.serial) in
        subst (λ (y : ℕ × List ℕ). (y.0 ≤ g) × (h y.0 ≡ y.1)) (sym same) (omega arith, new.is)
      where
        some_inj : (a b : ℕ × List ℕ) → Some a ≡ Some b → a ≡ b
        some_inj a b e = cc

    off : (r : ℕ) → r < 2 → Off (place_at pool r) (512 * pool.slot) (slot_at pool g) (length bytes) ⊎ ((f : Content) → cells f (slot_at pool g) (length bytes) ≡ bytes → Ranked p h g (read_slot pool r f))
    off = off_slot pool (Ranked p h g) g rec eight some until small fits good

    pub written_at : dev ≢ bearer → (s : State) → OnDevice dev (Rewriting (slot_at pool g) bytes) a s → NewestOnly pool p devs g rec s
    written_at ne s step =
        let still : s bearer ≡ a bearer = step.others bearer (λ e. ne (sym e)) in
        newest_certain new.of new.is new.serial s (subst (λ (x : DevState). BearsRecord pool g rec x) (sym still) new.bears)
        (slots_step pool devs dev (slot_at pool g) bytes (Ranked p h g) off a s step new.held new.slots)

    pub slots_at : (s : State) → OnDevice dev (Rewriting (slot_at pool g) bytes) a s → AllSlots pool devs (Ranked p h g) s
    slots_at s step = slots_step pool devs dev (slot_at pool g) bytes (Ranked p h g) off a s step new.held new.slots

    pub bears_there : (s : State) → OnDevice dev (Rewritten (slot_at pool g) bytes) a s → BearsRecord pool g rec (s dev)
    bears_there s step = record_new pool g (slot_at pool g) bytes rec (a dev) (s dev) (λ f e. slot_reads pool g rec f eight some until small fits e) step.here

    pub bears_still : (s : State) (d : Path) → OnDevice dev (Rewritten (slot_at pool g) bytes) a s → BearsRecord pool g rec (a d) → BearsRecord pool g rec (s d)
    bears_still s d step bears = elim (same_or_other d dev) [
      | inl e ↦ subst (λ (q : Path). BearsRecord pool g rec (s q)) (sym e) (bears_there s step)
      | inr ne ↦ subst (λ (x : DevState). BearsRecord pool g rec x) (sym (step.others d ne)) bears
    ]

    pub mended_newest : (s : State) → Mended pool dev g rec a s → Newest pool p h devs bearer g rec s
    mended_newest s (inl step) = record {
      slots = slots_step pool devs dev (slot_at pool g) bytes (Ranked p h g) off a s (rewriting_on (slot_at pool g) bytes dev a s step) new.held new.slots;
      held = held_step pool devs dev (slot_at pool g) bytes (Ranked p h g) off a s step new.held;
      is = new.is;
      serial = new.serial;
      of = new.of;
      bears = bears_still s bearer step new.bears;
    }
    mended_newest s (inr stayed) = subst (λ (t : State). Newest pool p h devs bearer g rec t) (sym stayed.0) new

    pub mended_sure : (s : State) → Mended pool dev g rec a s → AllSure pool devs g a → AllSure pool devs g s
    mended_sure s (inl step) all = λ d of. elim (same_or_other d dev) [
      | inl e ↦ (λ i low high. rewritten_sure (slot_at pool g) bytes (a d) (s d) (subst (λ (q : Path). Rewritten (slot_at pool g) bytes (a q) (s q)) (sym e) step.here) i)
      | inr ne ↦ subst (λ (x : DevState). SureIn (slot_at pool g) (512 * pool.slot) x) (sym (step.others d ne)) (all d of)
    ]
    mended_sure s (inr stayed) all = subst (λ (t : State). AllSure pool devs g t) (sym stayed.0) all

    -- then this device bears it
    pub mended_bears : IsOf devs dev → AllSure pool devs g a → (s : State) → Mended pool dev g rec a s → BearsRecord pool g rec (s dev)
    mended_bears of all s (inl step) = bears_there s step
    mended_bears of all s (inr stayed) = subst (λ (t : State). BearsRecord pool g rec (t dev)) (sym stayed.0) (record { sure = all dev of; reads = slot_of_any pool (g % 2) (a dev).holds (g, rec) stayed.1 refl })

    pub mended_others : (s : State) (d : Path) → Mended pool dev g rec a s → BearsRecord pool g rec (a d) → BearsRecord pool g rec (s d)
    mended_others s d (inl step) bears = bears_still s d step bears
    mended_others s d (inr stayed) bears = subst (λ (t : State). BearsRecord pool g rec (t d)) (sym stayed.0) bears

-- nothing happened
pub keeps_same : {D : Type 0} (moment : D → ℕ) (state_at : D → ℕ → State) (Q : State → Type 0) (old new : D) → moment new ≡ moment old → state_at new ≡ state_at old → Q (state_at old (moment old)) → Keeps moment state_at Q old new
keeps_same moment state_at Q old new clock states here = record {
  later = omega arith;
  past = λ k p le. (λ i. states i k p);
  all = λ k from until. (let at : moment old ≡ k = omega arith in subst (λ (f : ℕ → State). Q (f k)) (sym states) (subst (λ (j : ℕ). Q (state_at old j)) at here));
}

-- A log on a device stays while records are written to a device.
pub log_beside : (pool : Area) (flex : FlexArea) (p up k : ℕ) (log : Log) (g : ℕ) (bytes : List ℕ) (dev first : Path) → IsSound flex → AreApart pool flex.area → length bytes ≤ 512 * pool.slot → (a s : State) → OnDevice dev (Rewriting (slot_at pool g) bytes) a s
    → Rests flex p up k log (a first) → Rests flex p up k log (s first)
log_beside pool flex p up k log g bytes dev first sound apart fits a s step rests = elim (same_or_other first dev) [
  | inl e ↦ log_far flex p up k log (slot_at pool g) bytes sound (λ r lt. off_area flex.area pool r g (length bytes) (turned pool flex.area apart) lt fits) (a first) (s first) (subst (λ (q : Path). Rewriting (slot_at pool g) bytes (a q) (s q)) (sym e) step.here) rests
  | inr ne ↦ subst (λ (x : DevState). Rests flex p up k log x) (sym (step.others first ne)) rests
]

-- Where the newest record is certain and its log rests, the devices stand for it.
pub only_of_both : (pool : Area) (flex : FlexArea) (p up g : ℕ) (rec : List ℕ) (log : Log) (devs : List Path) (first : Path) (s : State) → slice_get devs 0 ≡ Some first → IsSound flex → NewestOnly pool p devs g rec s → Rests flex p up g log (s first) → Only pool flex p devs first (standing_of g rec (Some log)) s
only_of_both pool flex p up g rec log devs first s head sound newest rests c leaves =
    let both = newest c (slots_left_on pool flex devs s c leaves) in (
      both.0,
      ap (with_log flex p (c first)) both.1
          ∙ ap (λ (l : Option Log). Some ((g, rec), l)) (log_left flex p up g log (s first) (c first) sound.eight sound.small rests.bears (leaves 0 first head).left (checkpoint_fair pool flex (s first) (c first) (leaves 0 first head) (other log.slot) (omega arith))),
    )

-- After a repair the pool is ready.
pub ready_mended : (pool : Area) (flex : FlexArea) (p up : ℕ) (h : ℕ → List ℕ) (devs : List Path) (bearer first : Path) (g : ℕ) (rec : List ℕ) (log : Log) (s : State) → Newest pool p h devs bearer g rec s → BearsRecord pool g rec (s first) → Rests flex p up g log (s first)
    → Ready pool flex p up h devs first g (Some log) s
ready_mended pool flex p up h devs bearer first g rec log s new bears rests = record {
  slots = new.slots;
  held = new.held;
  base = (subst (λ (b : List ℕ). BearsRecord pool g b (s first)) (sym new.is) bears, rests, ap serial_in new.is ∙ new.serial);
}
