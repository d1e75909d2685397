-- A commit, call by call.
use Rattle.std.proofs.Common.{◌≡◌, ◌≢◌, ◌⊎◌, inl, inr, ℕ, ◌+◌, ◌*◌, ◌%◌, ◌^◌, ◌<◌, ◌≤◌, Bool, true, false, cond, nat_eq, List, length, Option, Some, None, refl, sym, ◌∙◌, ap, subst, arith}
use Rattle.std.specs.List.{slice_get}
use Rattle.std.specs.Str.{bytes_eq}
use Rattle.std.proofs.Math.Nat.{mul-le-mul_right}
use Rattle.std.proofs.lemmas.Slice.Eq.{bytes_eq-Decides}
use Rattle.std.proofs.lemmas.Bool.{cases_Bool, cases_eq}
use Rattle.std.proofs.lemmas.Bool.Decides.{nat_tests}
use Rattle.st_fields.specs.Slot.{Found, slot_bytes}
use Rattle.st_rack.specs.Story.{Content}
use Rattle.st_rack.specs.Device.{Path, DevState, State, cells}
use Rattle.st_rack.specs.Moments.{OnDevice}
use Rattle.st_rack.specs.Steps.{Rewriting, Rewritten}
use Rattle.st_slots.specs.Places.{place_at, slot_at}
use Rattle.st_slots.specs.Reading.{read_slot}
use Rattle.st_slots.specs.declared.spot.Area.{Area}
use Rattle.st_slots.proofs.Crashes.{apart}
use Rattle.st_slots.proofs.Places.{slot_of_any}
use Rattle.st_slots.proofs.Texts.{reads_text, length-slot_bytes}
use Rattle.st_slots.proofs.Running.{padded_fits}
use Rattle.st_deltalog.specs.declared.area.FlexArea.{FlexArea}
use Rattle.st_deltalog.specs.Log.{Log, serial_in}
use Rattle.st_deltalog.specs.Bearing.{Rests, other}
use Rattle.st_deltalog.proofs.Bearing.{Off, rests_during, rests_down, log_fits}
use Rattle.st_rack.proofs.Written.{rewriting_on}
use Rattle.st_commit.specs.Standing.{standing_of, OneOf, Only}
use Rattle.st_commit.specs.Ready.{Ranked, AllSlots, BearsRecord, Based, Ready, IsSound, next, AreApart}
use Rattle.st_commit.proofs.Over.{kept}
use Rattle.st_commit.proofs.Steps.{slots_step, held_step, record_off, record_new, Sure, certain, either, ranked_next}

pub bytes_fit : (area : Area) (g : ℕ) (body : List ℕ) → length area.magic ≡ 8 → 64 + length body ≤ 512 * area.slot → length (slot_bytes area.magic g body) ≤ 512 * area.slot
bytes_fit area g body eight fits = subst (λ (m : ℕ). m ≤ 512 * area.slot) (sym (length-slot_bytes area.magic body g eight)) (padded_fits (64 + length body) area.slot fits)

-- where what is written for a record stands, its slot reads so
pub slot_reads : (pool : Area) (G : ℕ) (rec : List ℕ) (f : Content) → length pool.magic ≡ 8 → 1 ≤ G → G ≤ 2 ^ 48 → pool.slot ≤ 2 ^ 32 → length (slot_bytes pool.magic G rec) ≤ 512 * pool.slot
    → cells f (slot_at pool G) (length (slot_bytes pool.magic G rec)) ≡ slot_bytes pool.magic G rec → read_slot pool (G % 2) f ≡ Some (G, rec)
slot_reads pool G rec f eight some until small fits is =
    let size : 64 + length rec ≤ 512 * pool.slot = omega (arith, fits, length-slot_bytes pool.magic rec G eight) in
    slot_of_any pool (G % 2) f (G, rec) (reads_text pool (G % 2) G rec f eight some until small size is) refl

-- a slot of one area lies off what is written of another
pub off_area : (one two : Area) (r G n : ℕ) → AreApart one two → r < 2 → n ≤ 512 * two.slot → Off (place_at one r) (512 * one.slot) (slot_at two G) n
off_area one two r G n apart lt fits =
    let half : r * one.slot ≤ 1 * one.slot = (let le : r ≤ 1 = omega arith in mul-le-mul_right one.slot le) in
    let other : G % 2 * two.slot ≤ 1 * two.slot = (let le : G % 2 ≤ 1 = omega arith in mul-le-mul_right two.slot le) in
    elim apart [ inl before ↦ inl (omega (arith, half, other, before)) | inr after ↦ inr (omega (arith, half, other, after)) ]

pub turned : (one two : Area) → AreApart one two → AreApart two one
turned one two (inl before) = inr before
turned one two (inr after) = inl after

-- A log stays where both slots lie off what is written.
pub log_far : (flex : FlexArea) (p up g : ℕ) (log : Log) (at : ℕ) (bytes : List ℕ) → IsSound flex → ((r : ℕ) → r < 2 → Off (place_at flex.area r) (512 * flex.area.slot) at (length bytes))
    → (a b : DevState) → Rewriting at bytes a b → Rests flex p up g log a → Rests flex p up g log b
log_far flex p up g log at bytes sound off a b step rests =
    let le = log_fits flex p g log a.holds sound.eight sound.small rests.bears.holds in
    rests_during flex p up g log at bytes sound.eight sound.small
    (elim (off log.slot rests.bears.holds.of_two) [ inl before ↦ inl (omega (arith, before)) | inr after ↦ inr after ])
    (off (other log.slot) (omega arith)) a b step rests

-- what is written of an area: the other slot lies off it, and this one is its text
pub off_slot : (pool : Area) (P : Found → Type 0) (G : ℕ) (rec : List ℕ) → length pool.magic ≡ 8 → 1 ≤ G → G ≤ 2 ^ 48 → pool.slot ≤ 2 ^ 32 → length (slot_bytes pool.magic G rec) ≤ 512 * pool.slot → P (Some (G, rec))
    → (r : ℕ) → r < 2 → Off (place_at pool r) (512 * pool.slot) (slot_at pool G) (length (slot_bytes pool.magic G rec))
    ⊎ ((f : Content) → cells f (slot_at pool G) (length (slot_bytes pool.magic G rec)) ≡ slot_bytes pool.magic G rec → P (read_slot pool r f))
off_slot pool P G rec eight some until small fits good r lt = elim (cases_eq r (G % 2)) [
  | inl same ↦ inr (λ f is. subst (λ (k : ℕ). P (read_slot pool k f)) (sym same) (subst P (sym (slot_reads pool G rec f eight some until small fits is)) good))
  | inr other ↦ inl (apart pool r G (length (slot_bytes pool.magic G rec)) lt other fits)
]

-- what the first device is sure of, between calls and at a moment
pub based_sure : (pool : Area) (flex : FlexArea) (p up g : ℕ) (rec : List ℕ) (old : Option Log) (s : DevState) → Based pool flex p up g rec old s → Sure pool flex p g rec old s
based_sure pool flex p up g rec None s base = base
based_sure pool flex p up g rec (Some log) s base = (base.0, (rests_down flex p g up g log s (omega arith) base.1.bears.upto base.1).bears, base.2)

-- it stays where its slots lie off what is written
pub based_off : (pool : Area) (flex : FlexArea) (p up g : ℕ) (rec : List ℕ) (old : Option Log) (at : ℕ) (bytes : List ℕ) → IsSound flex → Off (slot_at pool g) (512 * pool.slot) at (length bytes)
    → ((r : ℕ) → r < 2 → Off (place_at flex.area r) (512 * flex.area.slot) at (length bytes)) → (a b : DevState) → Rewriting at bytes a b → Based pool flex p up g rec old a → Based pool flex p up g rec old b
based_off pool flex p up g rec None at bytes sound off off_flex a b step base = base
based_off pool flex p up g rec (Some log) at bytes sound off off_flex a b step base =
    (record_off pool g at bytes rec a b off step.changed base.0, log_far flex p up g log at bytes sound off_flex a b step base.1, base.2)

-- the record goes to another device
module _ (pool : Area) (flex : FlexArea) (p up : ℕ) (h : ℕ → List ℕ) (devs : List Path) (first : Path) (G : ℕ) (log : Log) (rec : List ℕ) (dev : Path)
    (eight : length pool.magic ≡ 8) (sound : IsSound flex) (some : 1 ≤ G) (until : G ≤ 2 ^ 48) (small : pool.slot ≤ 2 ^ 32) (fits : length (slot_bytes pool.magic G rec) ≤ 512 * pool.slot)
    (head : slice_get devs 0 ≡ Some first) (is : h G ≡ rec) (ne : dev ≢ first) (a : State) (ready : Ready pool flex p up h devs first G (Some log) a) where
  abbrev bytes : List ℕ
  bytes = slot_bytes pool.magic G rec

  good : Ranked p h G (Some (G, rec))
  good x e =
      let own : serial_in rec ≡ p = ap serial_in (sym is) ∙ ready.base.2 in
      let same : x ≡ (G, rec) = some_inj x (G, rec) (sym e ∙ kept p G rec (Some (G, rec)) refl own) in
      subst (λ (y : ℕ × List ℕ). (y.0 ≤ G) × (h y.0 ≡ y.1)) (sym same) (omega arith, is)
    where
      some_inj : (a b : ℕ × List ℕ) → Some a ≡ Some b → a ≡ b
      some_inj a b e = cc

  off : (r : ℕ) → r < 2 → Off (place_at pool r) (512 * pool.slot) (slot_at pool G) (length bytes) ⊎ ((f : Content) → cells f (slot_at pool G) (length bytes) ≡ bytes → Ranked p h G (read_slot pool r f))
  off = off_slot pool (Ranked p h G) G rec eight some until small fits good

  still : (s : State) → s first ≡ a first → Based pool flex p up G (h G) (Some log) (s first)
  still s same = subst (λ (x : DevState). Based pool flex p up G (h G) (Some log) x) (sym same) ready.base

  pub spread_at : (s : State) → OnDevice dev (Rewriting (slot_at pool G) bytes) a s → Only pool flex p devs first (standing_of G rec (Some log)) s
  spread_at s step c leaves =
      let same : s first ≡ a first = step.others first (λ e. ne (sym e)) in
      let both = certain pool flex p h devs first G head sound s (Some log) (based_sure pool flex p up G (h G) (Some log) (s first) (still s same))
      (slots_step pool devs dev (slot_at pool G) bytes (Ranked p h G) off a s step ready.held ready.slots) c leaves in
      (both.0, both.1 ∙ ap (λ (b : List ℕ). standing_of G b (Some log)) is)

  pub spread_ready : (s : State) → OnDevice dev (Rewritten (slot_at pool G) bytes) a s → Ready pool flex p up h devs first G (Some log) s
  spread_ready s step =
      let same : s first ≡ a first = step.others first (λ e. ne (sym e)) in
      record {
        slots = slots_step pool devs dev (slot_at pool G) bytes (Ranked p h G) off a s (rewriting_on (slot_at pool G) bytes dev a s step) ready.held ready.slots;
        held = held_step pool devs dev (slot_at pool G) bytes (Ranked p h G) off a s step ready.held;
        base = still s same;
      }

  pub spread_bears : (s : State) → OnDevice dev (Rewritten (slot_at pool G) bytes) a s → BearsRecord pool G rec (s dev)
  spread_bears s step = record_new pool G (slot_at pool G) bytes rec (a dev) (s dev) (λ f e. slot_reads pool G rec f eight some until small fits e) step.here

  pub spread_others : (s : State) (d : Path) → OnDevice dev (Rewritten (slot_at pool G) bytes) a s → BearsRecord pool G rec (a d) → BearsRecord pool G rec (s d)
  spread_others s d step bears = elim (cases_Bool (bytes_eq d dev)) [
    | inl hit ↦ subst (λ (q : Path). BearsRecord pool G rec (s q)) (sym ((bytes_eq-Decides d dev).0 hit)) (spread_bears s step)
    | inr miss ↦ subst (λ (x : DevState). BearsRecord pool G rec x) (sym (step.others d (λ e. absurd (not_both d e miss)))) bears
  ]
    where
      not_both : (d : Path) → d ≡ dev → bytes_eq d dev ≡ false → ⊥
      not_both d e miss = let hit = (bytes_eq-Decides d dev).1 e in cc

-- the record goes to the first device, whose log of the new generation stands
module _ (pool : Area) (flex : FlexArea) (p up : ℕ) (h : ℕ → List ℕ) (devs : List Path) (first : Path) (g G : ℕ) (old : Option Log) (rec : List ℕ) (log : Log)
    (eight : length pool.magic ≡ 8) (sound : IsSound flex) (some : 1 ≤ G) (until : G ≤ 2 ^ 48) (small : pool.slot ≤ 2 ^ 32) (fits : length (slot_bytes pool.magic G rec) ≤ 512 * pool.slot)
    (areas : AreApart pool flex.area) (step_is : G ≡ g + 1) (head : slice_get devs 0 ≡ Some first) (same : serial_in rec ≡ p) (a : State)
    (ready : Ready pool flex p g h devs first g old a) (logged : Rests flex p up G log (a first)) where
  abbrev line : List ℕ
  line = slot_bytes pool.magic G rec

  -- an old one or the new one
  abbrev Now : Found → Type 0
  Now o = Ranked p h g o ⊎ (o ≡ Some (G, rec))

  place : (r : ℕ) → r < 2 → Off (place_at pool r) (512 * pool.slot) (slot_at pool G) (length line) ⊎ ((f : Content) → cells f (slot_at pool G) (length line) ≡ line → Now (read_slot pool r f))
  place = off_slot pool Now G rec eight some until small fits (inr refl)

  old_off : Off (slot_at pool g) (512 * pool.slot) (slot_at pool G) (length line)
  old_off = apart pool (g % 2) G (length line) (omega arith) (λ e. odd e) fits
    where
      odd : g % 2 ≡ G % 2 → ⊥
      odd e = omega (arith, step_is, e)

  flex_off : (r : ℕ) → r < 2 → Off (place_at flex.area r) (512 * flex.area.slot) (slot_at pool G) (length line)
  flex_off r lt = off_area flex.area pool r G (length line) (turned pool flex.area areas) lt fits

  all_now : (s : State) → OnDevice first (Rewriting (slot_at pool G) line) a s → AllSlots pool devs Now s
  all_now s step = slots_step pool devs first (slot_at pool G) line Now place a s step (λ d of r lt. inl (ready.held d of r lt)) (λ d of r lt m meant. inl (ready.slots d of r lt m meant))

  log_on : (s : State) → OnDevice first (Rewriting (slot_at pool G) line) a s → Rests flex p up G log (s first)
  log_on s step = log_far flex p up G log (slot_at pool G) line sound flex_off (a first) (s first) step.here logged

  pub first_at : (s : State) → OnDevice first (Rewriting (slot_at pool G) line) a s → OneOf pool flex p devs first (standing_of g (h g) old) (standing_of G rec (Some log)) s
  first_at s step =
      either pool flex p h devs first g head sound s old
      (based_sure pool flex p g g (h g) old (s first) (based_off pool flex p g g (h g) old (slot_at pool G) line sound old_off flex_off (a first) (s first) step.here ready.base))
      up G rec log step_is same (log_on s step).bears (all_now s step)

  pub first_ready : (s : State) → OnDevice first (Rewritten (slot_at pool G) line) a s → Ready pool flex p up (next G rec h) devs first G (Some log) s
  first_ready s step =
      let top : next G rec h G ≡ rec = ap (λ (t : Bool). cond t rec (h G)) (same_true G) in
      let going = rewriting_on (slot_at pool G) line first a s step in
      record {
        slots = λ d of r lt m meant. ranked_next p h g G rec step_is same (read_slot pool r m) (all_now s going d of r lt m meant);
        held = λ d of r lt. ranked_next p h g G rec step_is same (read_slot pool r (s d).holds) (held_step pool devs first (slot_at pool G) line Now place a s step (λ d of r lt. inl (ready.held d of r lt)) d of r lt);
        base = (
          subst (λ (b : List ℕ). BearsRecord pool G b (s first)) (sym top) (record_new pool G (slot_at pool G) line rec (a first) (s first) (λ f e. slot_reads pool G rec f eight some until small fits e) step.here),
          log_on s going,
          ap serial_in top ∙ same,
        );
      }
    where
      same_true : (n : ℕ) → nat_eq n n ≡ true
      same_true n = grind (arith, nat_tests)
