-- What the calls of a commit keep.
use Rattle.std.proofs.Common.{◌≡◌, ◌⊎◌, inl, inr, ℕ, ◌+◌, ◌*◌, ◌%◌, ◌<◌, ◌≤◌, Bool, true, false, cond, nat_eq, List, length, Option, Some, None, refl, sym, ◌∙◌, ap, subst, arith}
use Rattle.std.specs.List.{slice_get}
use Rattle.std.specs.Str.{bytes_eq}
use Rattle.std.proofs.lemmas.Slice.Eq.{bytes_eq-Decides}
use Rattle.std.proofs.lemmas.Bool.{cases_Bool}
use Rattle.std.proofs.lemmas.Bool.Decides.{nat_tests}
use Rattle.st_fields.specs.Slot.{Found}
use Rattle.st_fields.proofs.Slots.{sealed_of-is}
use Rattle.st_rack.specs.Story.{Content}
use Rattle.st_rack.specs.Device.{Path, DevState, State, Image, Leaves, cells}
use Rattle.st_rack.specs.Moments.{OnDevice}
use Rattle.st_rack.specs.Readers.{Local, AllMeant}
use Rattle.st_rack.specs.Steps.{Changed, Rewriting, Rewritten}
use Rattle.st_rack.proofs.Chance.{found_in}
use Rattle.st_rack.proofs.Readers.{sure_elsewhere, held_elsewhere, meant_here, meant_elsewhere}
use Rattle.st_slots.specs.Places.{place_at, slot_at}
use Rattle.st_slots.specs.Reading.{bytes_at, read_slot, of_place}
use Rattle.st_slots.specs.declared.spot.Area.{Area}
use Rattle.st_slots.proofs.Texts.{looks_in}
use Rattle.st_slots.proofs.Places.{slot_is}
use Rattle.st_deltalog.specs.declared.area.FlexArea.{FlexArea}
use Rattle.st_deltalog.specs.Log.{Log, serial_in}
use Rattle.st_deltalog.specs.Bearing.{Bears, other}
use Rattle.st_deltalog.proofs.Bearing.{Off, log_left}
use Rattle.st_rack.proofs.Written.{rewritten_sure}
use Rattle.st_commit.specs.Standing.{keep, newest_over, with_log, stands, slots_in, records, standing_of, AreOne, OneOf, Only, LeftNow}
use Rattle.st_commit.specs.Ready.{IsOf, Ranked, AllSlots, HeldSlots, BearsRecord, IsSound, next}
use Rattle.st_commit.proofs.Roles.{slot_fair, checkpoint_fair, slots_left_on}
use Rattle.st_commit.proofs.Over.{AtLeast, over_all, over_least, is_top, kept}

-- a slot's reader looks at the slot alone
pub local : (area : Area) (place : ℕ) → Local (read_slot area place) (place_at area place) (512 * area.slot)
local area place = record { same = λ f h each. ap (of_place place) ((looks_in area place).same f h each) }

-- some bytes are written to one device: each slot lies off them, or they are its text
module _ (pool : Area) (devs : List Path) (dev : Path) (at : ℕ) (bytes : List ℕ) (P : Found → Type 0)
    (off : (r : ℕ) → r < 2 → Off (place_at pool r) (512 * pool.slot) at (length bytes) ⊎ ((f : Content) → cells f at (length bytes) ≡ bytes → P (read_slot pool r f))) where
  pub slot_meant : (r : ℕ) → r < 2 → (a b : DevState) → Rewriting at bytes a b → P (read_slot pool r a.holds) → AllMeant (read_slot pool r) P a → AllMeant (read_slot pool r) P b
  slot_meant r lt a b step held all = elim (off r lt) [
    | inl away ↦ meant_elsewhere (read_slot pool r) (place_at pool r) (512 * pool.slot) at bytes (local pool r) P a b away step held all
    | inr good ↦ meant_here (read_slot pool r) at bytes P a b good step all
  ]

  pub slot_held : (r : ℕ) → r < 2 → (a b : DevState) → Rewritten at bytes a b → P (read_slot pool r a.holds) → P (read_slot pool r b.holds)
  slot_held r lt a b step held = elim (off r lt) [
    | inl away ↦ subst P (sym (held_elsewhere (read_slot pool r) (place_at pool r) (512 * pool.slot) at bytes (local pool r) a b away step.changed)) held
    | inr good ↦ good b.holds step.given
  ]

  pub slots_step : (a s : State) → OnDevice dev (Rewriting at bytes) a s → HeldSlots pool devs P a → AllSlots pool devs P a → AllSlots pool devs P s
  slots_step a s step held all d of r lt = elim (cases_Bool (bytes_eq d dev)) [
    | inl hit ↦
        let e : dev ≡ d = sym ((bytes_eq-Decides d dev).0 hit) in
        subst (λ (q : Path). AllMeant (read_slot pool r) P (s q)) e
        (slot_meant r lt (a dev) (s dev) step.here (subst (λ (q : Path). P (read_slot pool r (a q).holds)) (sym e) (held d of r lt)) (subst (λ (q : Path). AllMeant (read_slot pool r) P (a q)) (sym e) (all d of r lt)))
    | inr miss ↦ subst (λ (x : DevState). AllMeant (read_slot pool r) P x) (sym (step.others d (λ e. absurd (not_both d e miss)))) (all d of r lt)
  ]
    where
      not_both : (d : Path) → d ≡ dev → bytes_eq d dev ≡ false → ⊥
      not_both d e miss = let hit = (bytes_eq-Decides d dev).1 e in cc

  pub held_step : (a s : State) → OnDevice dev (Rewritten at bytes) a s → HeldSlots pool devs P a → HeldSlots pool devs P s
  held_step a s step held d of r lt = elim (cases_Bool (bytes_eq d dev)) [
    | inl hit ↦
        let e : dev ≡ d = sym ((bytes_eq-Decides d dev).0 hit) in
        subst (λ (q : Path). P (read_slot pool r (s q).holds)) e (slot_held r lt (a dev) (s dev) step.here (subst (λ (q : Path). P (read_slot pool r (a q).holds)) (sym e) (held d of r lt)))
    | inr miss ↦ subst (λ (x : DevState). P (read_slot pool r x.holds)) (sym (step.others d (λ e. absurd (not_both d e miss)))) (held d of r lt)
  ]
    where
      not_both : (d : Path) → d ≡ dev → bytes_eq d dev ≡ false → ⊥
      not_both d e miss = let hit = (bytes_eq-Decides d dev).1 e in cc

-- a slot that lies off keeps its record
pub record_off : (area : Area) (g at : ℕ) (bytes body : List ℕ) (a b : DevState) → Off (slot_at area g) (512 * area.slot) at (length bytes) → Changed at (length bytes) a b → BearsRecord area g body a → BearsRecord area g body b
record_off area g at bytes body a b away step bears = record {
  sure = sure_elsewhere (read_slot area (g % 2)) (slot_at area g) (512 * area.slot) at bytes (local area (g % 2)) a b away step bears.sure;
  reads = held_elsewhere (read_slot area (g % 2)) (slot_at area g) (512 * area.slot) at bytes (local area (g % 2)) a b away step ∙ bears.reads;
}

-- what a crash leaves of it
pub record_left : (area : Area) (g : ℕ) (body : List ℕ) (s : DevState) (f : Content) → BearsRecord area g body s → Leaves s f → read_slot area (g % 2) f ≡ Some (g, body)
record_left area g body s f bears left = (local area (g % 2)).same f s.holds (λ i low high. left i (bears.sure i low high)) ∙ bears.reads

-- a slot that was rewritten bears its record
pub record_new : (area : Area) (g at : ℕ) (bytes body : List ℕ) (a b : DevState) → ((f : Content) → cells f at (length bytes) ≡ bytes → read_slot area (g % 2) f ≡ Some (g, body)) → Rewritten at bytes a b → BearsRecord area g body b
record_new area g at bytes body a b good step = record { sure = λ i low high. rewritten_sure at bytes a b step i; reads = good b.holds step.given }

-- P of all that was meant holds of what is left
pub slots_left : (pool : Area) (devs : List Path) (P : Found → Type 0) (s : State) (c : Image) → P None → AllSlots pool devs P s → LeftNow devs (λ k. slots_in pool) s c → (d : Path) → IsOf devs d → (r : ℕ) → r < 2 → P (read_slot pool r (c d))
slots_left pool devs P s c none all leaves d of r lt = found_in (read_slot pool r) P (s d).story (c d) none (all d of r lt) (slot_fair pool (s d) (c d) (leaves of.index d of.is) r lt)

-- what is kept was found, and has a generation from 1
pub keep_is : (p : ℕ) (o : Found) (x : ℕ × List ℕ) → keep p o ≡ Some x → o ≡ Some x
keep_is p None x is = is
keep_is p (Some y) x is = elim (cases_Bool (nat_eq (serial_in y.1) p)) [
  | inl hit ↦ sym (ap (λ (b : Bool). cond b (Some y) None) hit) ∙ is
  | inr miss ↦ absurd (none x (sym (ap (λ (b : Bool). cond b (Some y) None) miss) ∙ is))
]
  where
    none : (x : ℕ × List ℕ) → None ≡ Some x → ⊥
    none x e = cc

-- a slot of the history
abbrev pub OfHistory : (ℕ → List ℕ) → ℕ → Found → Type 0
OfHistory h g o = (x : ℕ × List ℕ) → o ≡ Some x → (x.0 ≤ g) × (h x.0 ≡ x.1) × (1 ≤ x.0)

of_ranked : (pool : Area) (p r : ℕ) (h : ℕ → List ℕ) (g : ℕ) (f : Content) → Ranked p h g (read_slot pool r f) → OfHistory h g (keep p (read_slot pool r f))
of_ranked pool p r h g f ranked x is =
    let both = ranked x is in
    (both.0, both.1, (sealed_of-is pool.magic (bytes_at pool r f) x (slot_is pool r f x (keep_is p (read_slot pool r f) x is)).0).from)

history_none : (h : ℕ → List ℕ) (g : ℕ) → OfHistory h g None
history_none h g x e = absurd (cc)

-- the history goes on
pub ranked_next : (p : ℕ) (h : ℕ → List ℕ) (g G : ℕ) (rec : List ℕ) → G ≡ g + 1 → serial_in rec ≡ p → (o : Found) → (Ranked p h g o ⊎ (o ≡ Some (G, rec))) → Ranked p (next G rec h) G o
ranked_next p h g G rec step same o (inl ranked) x is =
    let old = ranked x is in
    let lt = old.0 in
    let ne : nat_eq x.0 G ≡ false = grind (arith, nat_tests) in
    (omega (arith, lt), ap (λ (t : Bool). cond t rec (h x.0)) ne ∙ old.1)
ranked_next p h g G rec step same o (inr new) x is =
    let e : x ≡ (G, rec) = some_inj x (G, rec) (sym is ∙ kept p G rec o new same) in
    subst (λ (y : ℕ × List ℕ). (y.0 ≤ G) × (next G rec h y.0 ≡ y.1)) (sym e) (omega arith, ap (λ (t : Bool). cond t rec (h G)) (same_true G))
  where
    some_inj : (a b : ℕ × List ℕ) → Some a ≡ Some b → a ≡ b
    some_inj a b e = cc

    same_true : (n : ℕ) → nat_eq n n ≡ true
    same_true n = grind (arith, nat_tests)

-- slots of one history are one
pub one_history : (pool : Area) (p : ℕ) (h : ℕ → List ℕ) (g : ℕ) (devs : List Path) (c : Image) → ((d : Path) → IsOf devs d → (r : ℕ) → r < 2 → Ranked p h g (read_slot pool r (c d))) → AreOne pool p devs c
one_history pool p h g devs c each j k d e is_d is_e r q lt_r lt_q x y found_x found_y same =
    let first = each d (record { index = j; is = is_d }) r lt_r x found_x in
    let second = each e (record { index = k; is = is_e }) q lt_q y found_y in
    sym first.1 ∙ ap h same ∙ second.1

-- What the first device is sure of at a moment.
abbrev pub Sure : Area → FlexArea → ℕ → ℕ → List ℕ → Option Log → DevState → Type 0
Sure pool flex p g rec None s = g ≡ 0
Sure pool flex p g rec (Some log) s = BearsRecord pool g rec s × Bears flex p g g log s × (serial_in rec ≡ p)

module _ (pool : Area) (flex : FlexArea) (p : ℕ) (h : ℕ → List ℕ) (devs : List Path) (first : Path) (g : ℕ) (head : slice_get devs 0 ≡ Some first) (sound : IsSound flex) (s : State) where
  with_newest : (o : Found) (c : Image) → newest_over pool p devs c ≡ o → stands pool flex p devs first c ≡ with_log flex p (c first) o
  with_newest o c is = ap (with_log flex p (c first)) is

  log_there : (up k : ℕ) (rec : List ℕ) (log : Log) (c : Image) → Bears flex p up k log (s first) → LeftNow devs (records pool flex) s c → with_log flex p (c first) (Some (k, rec)) ≡ standing_of k rec (Some log)
  log_there up k rec log c bears leaves = ap (λ (l : Option Log). Some ((k, rec), l)) (log_left flex p up k log (s first) (c first) sound.eight sound.small bears (leaves 0 first head).left (checkpoint_fair pool flex (s first) (c first) (leaves 0 first head) (other log.slot) (omega arith)))

  least : (rec : List ℕ) (c : Image) → BearsRecord pool g rec (s first) → serial_in rec ≡ p → Leaves (s first) (c first) → AtLeast g (newest_over pool p devs c)
  least rec c bears serial left = over_least pool p c g devs first 0 (g % 2) head (omega arith) (record { one = (g, rec); is = kept p g rec (read_slot pool (g % 2) (c first)) (record_left pool g rec (s first) (c first) bears left) serial; from = omega arith })

  -- the newest is of the history: then it is the old one
  old_one : (old : Option Log) → Sure pool flex p g (h g) old (s first) → (c : Image) → LeftNow devs (records pool flex) s c → OfHistory h g (newest_over pool p devs c) → stands pool flex p devs first c ≡ standing_of g (h g) old
  old_one None sure c leaves each = with_newest None c (no_one (newest_over pool p devs c) each)
    where
      no_one : (o : Found) → OfHistory h g o → o ≡ None
      no_one None of = refl
      no_one (Some x) of = let all = of x refl in let low = all.0 in let high = all.2 in absurd (omega arith)
  old_one (Some log) sure c leaves each =
      with_newest (Some (g, h g)) c (is_top h g (newest_over pool p devs c) (λ x is. (let all = each x is in (all.0, all.1))) (least (h g) c sure.0 sure.2 (leaves 0 first head).left))
      ∙ log_there g g (h g) log c sure.1 leaves

  -- the devices stand for generation g
  pub certain : (old : Option Log) → Sure pool flex p g (h g) old (s first) → AllSlots pool devs (Ranked p h g) s → Only pool flex p devs first (standing_of g (h g) old) s
  certain old sure all c leaves =
      let each = slots_left pool devs (Ranked p h g) s c (λ x e. absurd (cc)) all (slots_left_on pool flex devs s c leaves) in
      (one_history pool p h g devs c each, old_one old sure c leaves (over_all pool p c (OfHistory h g) devs (history_none h g) (λ d of r lt. of_ranked pool p r h g (c d) (each d of r lt))))

  -- they stand for it, or for the next one
  pub either : (old : Option Log) → Sure pool flex p g (h g) old (s first) → (up G : ℕ) (rec : List ℕ) (log : Log) → G ≡ g + 1 → serial_in rec ≡ p → Bears flex p up G log (s first) → AllSlots pool devs (λ o. Ranked p h g o ⊎ (o ≡ Some (G, rec))) s
      → OneOf pool flex p devs first (standing_of g (h g) old) (standing_of G rec (Some log)) s
  either old sure up G rec log step same next_log all c leaves =
      let each = slots_left pool devs (λ o. Ranked p h g o ⊎ (o ≡ Some (G, rec))) s c (inl (λ x e. absurd (cc))) all (slots_left_on pool flex devs s c leaves) in
      let newest : OfHistory h g (newest_over pool p devs c) ⊎ (newest_over pool p devs c ≡ Some (G, rec)) =
      over_all pool p c (λ o. OfHistory h g o ⊎ (o ≡ Some (G, rec))) devs (inl (history_none h g)) (λ d of r lt. of_kept r d (each d of r lt)) in (
        one_history pool p (next G rec h) G devs c (λ d of r lt. ranked_next p h g G rec step same (read_slot pool r (c d)) (each d of r lt)),
        elim newest [
          | inl of_old ↦ inl (old_one old sure c leaves of_old)
          | inr new ↦ inr (with_newest (Some (G, rec)) c new ∙ log_there up G rec log c next_log leaves)
        ],
      )
    where
      of_kept : (r : ℕ) (d : Path) → (Ranked p h g (read_slot pool r (c d)) ⊎ (read_slot pool r (c d) ≡ Some (G, rec))) → OfHistory h g (keep p (read_slot pool r (c d))) ⊎ (keep p (read_slot pool r (c d)) ≡ Some (G, rec))
      of_kept r d (inl ranked) = inl (of_ranked pool p r h g (c d) ranked)
      of_kept r d (inr new) = inr (kept p G rec (read_slot pool r (c d)) new same)
