-- A pool's records stay while its slots are left alone.
use Rattle.std.proofs.Common.{◌≡◌, ◌⊎◌, inl, inr, ℕ, ◌+◌, ◌*◌, ◌%◌, ◌^◌, ◌<◌, ◌≤◌, false, List, length, Option, Some, None, refl, sym, ◌∙◌, ap, subst, arith}
use Rattle.std.proofs.Math.Nat.{mul-le-mul_right}
use Rattle.st_fields.specs.Slot.{Found}
use Rattle.st_rack.specs.Story.{Content, Story, Meant, Wrote, Settled, latest, put_in}
use Rattle.st_rack.specs.Device.{Path, DevState, State, Touched, Settling, pending}
use Rattle.st_rack.specs.Readers.{AllMeant}
use Rattle.st_rack.proofs.Chance.{latest_meant}
use Rattle.st_rack.proofs.Outside.{touched_changes, settling_changes}
use Rattle.st_rack.proofs.Pending.{within_below, within_above}
use Rattle.st_rack.proofs.Readers.{put_in_outside}
use Rattle.st_slots.specs.Places.{place_at}
use Rattle.st_slots.specs.Reading.{read_slot}
use Rattle.st_slots.specs.declared.spot.Area.{Area}
use Rattle.st_slots.proofs.Texts.{looks_in}
use Rattle.st_deltalog.specs.declared.area.FlexArea.{FlexArea}
use Rattle.st_deltalog.specs.Log.{Log, next_of, checkpoint_in}
use Rattle.st_deltalog.specs.Bearing.{Loses, Rests, other}
use Rattle.st_deltalog.proofs.Reading.{holds_same}
use Rattle.st_deltalog.proofs.Bearing.{Off, log_fits}
use Rattle.st_commit.specs.Ready.{IsOf, Ranked, BearsRecord, Based, Ready, IsSound}
use Rattle.st_commit.specs.Staying.{InsideOf, LeftAlone, SlotsAlone}
use Rattle.st_commit.proofs.Steps.{local}

pub alone_self : (area : Area) (a : DevState) → LeftAlone area a a
alone_self area a = record { same = λ i inside. refl; sure = λ i inside sure. sure; meant = λ m meant. (m, inl meant, λ i inside. refl) }

pub alone_both : (area : Area) (a b c : DevState) → LeftAlone area a b → LeftAlone area b c → LeftAlone area a c
alone_both area a b c one two = record {
  same = λ i inside. two.same i inside ∙ one.same i inside;
  sure = λ i inside sure. two.sure i inside (one.sure i inside sure);
  meant = λ m meant. back m (two.meant m meant);
}
  where
    back : (m : Content) → (k : Content) × (Meant b.story k ⊎ (k ≡ b.holds)) × ((i : ℕ) → InsideOf area i → m i ≡ k i) → (k : Content) × (Meant a.story k ⊎ (k ≡ a.holds)) × ((i : ℕ) → InsideOf area i → m i ≡ k i)
    back m found = elim found.1 [
      | inl meant ↦ (let older = one.meant found.0 meant in (older.0, older.1, λ i inside. found.2 i inside ∙ older.2 i inside))
      | inr held ↦ (a.holds, inr refl, λ i inside. found.2 i inside ∙ ap (λ (f : Content). f i) held ∙ one.same i inside)
    ]

-- Bytes are written off the area, with success or without.
pub alone_written : (area : Area) (at : ℕ) (bytes : List ℕ) (a b : DevState) → Off (512 * area.at) (512 * (2 * area.slot)) at (length bytes) → Touched at bytes a b → LeftAlone area a b
alone_written area at bytes a b off step =
    let changed = touched_changes at bytes a b step in
    record {
      same = λ i inside. elim off [ inl before ↦ changed.below i (omega (arith, before, inside.until)) | inr after ↦ changed.above i (omega (arith, after, inside.from)) ];
      sure = λ i inside. elim off [ inl before ↦ changed.sure_below i (omega (arith, before, inside.until)) | inr after ↦ changed.sure_above i (omega (arith, after, inside.from)) ];
      meant = λ m meant. known m (subst (λ (y : Story). Meant y m) step.told meant);
    }
  where
    kept : (f : Content) (i : ℕ) → InsideOf area i → put_in at bytes f i ≡ f i
    kept f i inside = elim off [
      | inl before ↦ put_in_outside at bytes f i (within_below at (length bytes) i (omega (arith, before, inside.until)))
      | inr after ↦ put_in_outside at bytes f i (within_above at (length bytes) i (omega (arith, after, inside.from)))
    ]

    known : (m : Content) → Meant (Wrote at bytes a.story) m → (k : Content) × (Meant a.story k ⊎ (k ≡ a.holds)) × ((i : ℕ) → InsideOf area i → m i ≡ k i)
    known m (inl is) = (latest a.story, inl (latest_meant a.story), λ i inside. ap (λ (f : Content). f i) is ∙ kept (latest a.story) i inside)
    known m (inr older) = (m, inl older, λ i inside. refl)

-- The device is synced, with success or without.
pub alone_synced : (area : Area) (a b : DevState) → Settling a b → LeftAlone area a b
alone_synced area a b step =
    let changed = settling_changes 0 0 a b step in
    record {
      same = λ i inside. ap (λ (f : Content). f i) step.same;
      sure = λ i inside. changed.sure_above i (omega arith);
      meant = λ m meant. elim step.told [
        | inl told ↦ (m, inl (subst (λ (y : Story). Meant y m) told meant), λ i inside. refl)
        | inr told ↦ (a.holds, inr refl, λ i inside. ap (λ (f : Content). f i) (subst (λ (y : Story). Meant y m) told meant))
      ];
    }

-- the slots of an area lie in it
in_slot : (area : Area) (slot n i : ℕ) → slot < 2 → n ≤ 512 * area.slot → place_at area slot ≤ i → i < place_at area slot + n → InsideOf area i
in_slot area slot n i lt le low high =
    let half : slot * area.slot ≤ 1 * area.slot = (let one : slot ≤ 1 = omega arith in mul-le-mul_right area.slot one) in
    record { from = omega (arith, low); until = omega (arith, high, half, le) }

-- what an area's reader makes of all that is meant and held
module _ (area : Area) (slot : ℕ) (read : Content → Found) (lt : slot < 2) (same : (f h : Content) → ((i : ℕ) → place_at area slot ≤ i → i < place_at area slot + 512 * area.slot → f i ≡ h i) → read f ≡ read h)
    (a s : DevState) (alone : LeftAlone area a s) where
  held_alone : read s.holds ≡ read a.holds
  held_alone = same s.holds a.holds (λ i low high. alone.same i (in_slot area slot (512 * area.slot) i lt (omega arith) low high))

  meant_alone : (P : Found → Type 0) → P (read a.holds) → AllMeant read P a → AllMeant read P s
  meant_alone P held all m meant = known (alone.meant m meant)
    where
      known : (k : Content) × (Meant a.story k ⊎ (k ≡ a.holds)) × ((i : ℕ) → InsideOf area i → m i ≡ k i) → P (read m)
      known found =
          let as_k : read m ≡ read found.0 = same m found.0 (λ i low high. found.2 i (in_slot area slot (512 * area.slot) i lt (omega arith) low high)) in
          subst P (sym as_k) (elim found.1 [ inl was ↦ all found.0 was | inr is ↦ subst (λ (f : Content). P (read f)) (sym is) held ])

-- a log rests on
log_stays : (flex : FlexArea) (p up g : ℕ) (log : Log) (a s : DevState) → IsSound flex → LeftAlone flex.area a s → Rests flex p up g log a → Rests flex p up g log s
log_stays flex p up g log a s sound alone rests =
    let le = log_fits flex p g log a.holds sound.eight sound.small rests.bears.holds in
    let two = rests.bears.holds.of_two in
    let inside : ((i : ℕ) → place_at flex.area log.slot ≤ i → i < place_at flex.area log.slot + 512 * next_of log → InsideOf flex.area i) = (λ i low high. in_slot flex.area log.slot (512 * next_of log) i two (omega (arith, le)) low high) in
    let P : Found → Type 0 = Loses p up log.slot log.start in
    let read = checkpoint_in flex (other log.slot) in
    let same = (looks_in flex.area (other log.slot)).same in
    let beside_two : other log.slot < 2 = omega arith in
    record {
      bears = record {
        holds = holds_same flex p g log a.holds s.holds sound.eight sound.small (λ i low high. sym (alone.same i (inside i low high))) rests.bears.holds;
        sure = λ i low high. alone.sure i (inside i low high) (rests.bears.sure i low high);
        upto = rests.bears.upto;
        beside = meant_alone flex.area (other log.slot) read beside_two same a s alone P rests.held rests.bears.beside;
      };
      held = subst P (sym (held_alone flex.area (other log.slot) read beside_two same a s alone)) rests.held;
    }

module _ (pool : Area) (flex : FlexArea) (p up : ℕ) (h : ℕ → List ℕ) (devs : List Path) (first : Path) (g : ℕ) (sound : IsSound flex) (of_first : IsOf devs first) (a s : State) (alone : SlotsAlone pool flex devs first a s) where
  bears_stays : (rec : List ℕ) (d : Path) → IsOf devs d → BearsRecord pool g rec (a d) → BearsRecord pool g rec (s d)
  bears_stays rec d of bears = record {
    sure = λ i low high. (alone.records d of).sure i (in_slot pool (g % 2) (512 * pool.slot) i (omega arith) (omega arith) low high) (bears.sure i low high);
    reads = held_alone pool (g % 2) (read_slot pool (g % 2)) (omega arith) (local pool (g % 2)).same (a d) (s d) (alone.records d of) ∙ bears.reads;
  }

  base_stays : (old : Option Log) → Based pool flex p up g (h g) old (a first) → Based pool flex p up g (h g) old (s first)
  base_stays None base = base
  base_stays (Some log) base = (bears_stays (h g) first of_first base.0, log_stays flex p up g log (a first) (s first) sound alone.log base.1, base.2)

  pub ready_stays : (old : Option Log) → Ready pool flex p up h devs first g old a → Ready pool flex p up h devs first g old s
  ready_stays old ready = record {
    slots = λ d of r lt. meant_alone pool r (read_slot pool r) lt (local pool r).same (a d) (s d) (alone.records d of) (Ranked p h g) (ready.held d of r lt) (ready.slots d of r lt);
    held = λ d of r lt. subst (Ranked p h g) (sym (held_alone pool r (read_slot pool r) lt (local pool r).same (a d) (s d) (alone.records d of))) (ready.held d of r lt);
    base = base_stays old ready.base;
  }

  pub records_stay : (rec : List ℕ) → ((d : Path) → IsOf devs d → BearsRecord pool g rec (a d)) → (d : Path) → IsOf devs d → BearsRecord pool g rec (s d)
  records_stay rec all d of = bears_stays rec d of (all d of)
