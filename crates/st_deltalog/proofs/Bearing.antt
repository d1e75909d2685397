-- What a crash leaves of a log, and what a write keeps of it.
use Rattle.std.proofs.Common.{◌≡◌, ◌⊎◌, inl, inr, ℕ, zero, suc, ◌+◌, ◌*◌, ◌^◌, ◌<◌, ◌≤◌, Bool, true, false, cond, nat_lt, List, length, Some, None, sym, ◌∙◌, ap, subst, arith}
use Rattle.std.proofs.lemmas.Bool.{cases_Bool}
use Rattle.std.proofs.lemmas.Bool.Decides.{nat_tests}
use Rattle.st_fields.specs.Slot.{Found, sector_of}
use Rattle.st_rack.specs.Story.{Content, Story, Meant, Fair}
use Rattle.st_rack.specs.Device.{DevState, pending, cells, Leaves}
use Rattle.st_rack.specs.Steps.{Changed, Rewriting, Rewritten}
use Rattle.st_rack.specs.Readers.{AllMeant}
use Rattle.st_rack.proofs.Chance.{found_in}
use Rattle.st_rack.proofs.Readers.{held_elsewhere, meant_elsewhere, meant_here}
use Rattle.st_slots.specs.declared.spot.Area.{Area}
use Rattle.st_slots.specs.Places.{place_at}
use Rattle.st_slots.proofs.Texts.{looks_in, any_fits}
use Rattle.st_deltalog.specs.declared.area.FlexArea.{FlexArea}
use Rattle.st_deltalog.specs.Log.{Log, sectors_of, next_of, checkpoint_in, sector_at, body_at, put_on, deltas_in, log_at}
use Rattle.st_deltalog.specs.Bearing.{other, Loses, Holds, Bears, Rests}
use Rattle.st_deltalog.proofs.Reading.{holds_same, log_is}

pub loses_down : (p low up slot c : ℕ) (o : Found) → low ≤ up → Loses p up slot c o → Loses p low slot c o
loses_down p low up slot c o le loses x is serial below = loses x is serial (omega arith)

pub loses_none : (p up slot c : ℕ) → Loses p up slot c None
loses_none p up slot c x is serial below = absurd (none x is)
  where
    none : (x : ℕ × List ℕ) → None ≡ Some x → ⊥
    none x e = cc

pub bears_down : (flex : FlexArea) (p low up g : ℕ) (log : Log) (s : DevState) → g ≤ low → low ≤ up → Bears flex p up g log s → Bears flex p low g log s
bears_down flex p low up g log s from until bears = record {
  holds = bears.holds;
  sure = bears.sure;
  upto = from;
  beside = λ m meant. loses_down p low up log.slot log.start (checkpoint_in flex (other log.slot) m) until (bears.beside m meant);
}

pub rests_down : (flex : FlexArea) (p low up g : ℕ) (log : Log) (s : DevState) → g ≤ low → low ≤ up → Rests flex p up g log s → Rests flex p low g log s
rests_down flex p low up g log s from until rests = record {
  bears = bears_down flex p low up g log s from until rests.bears;
  held = loses_down p low up log.slot log.start (checkpoint_in flex (other log.slot) s.holds) until rests.held;
}

-- Whatever is left reads as the log, where the reader of the other slot finds nothing torn in it.
pub log_left : (flex : FlexArea) (p up g : ℕ) (log : Log) (s : DevState) (f : Content) → length flex.area.magic ≡ 8 → flex.area.slot ≤ 2 ^ 32 → Bears flex p up g log s
    → Leaves s f → Fair (checkpoint_in flex (other log.slot)) s.story f → log_at flex p g f ≡ Some log
log_left flex p up g log s f eight small bears left fair =
    log_is flex p g log f (holds_same flex p g log s.holds f eight small (λ i low high. sym (left i (bears.sure i low high))) bears.holds)
    (loses_down p g up log.slot log.start (checkpoint_in flex (other log.slot) f) bears.upto
    (found_in (checkpoint_in flex (other log.slot)) (Loses p up log.slot log.start) s.story f (loses_none p up log.slot log.start) bears.beside fair))

-- What is held reads as it.
pub log_held : (flex : FlexArea) (p up g : ℕ) (log : Log) (s : DevState) → Rests flex p up g log s → log_at flex p g s.holds ≡ Some log
log_held flex p up g log s rests = log_is flex p g log s.holds rests.bears.holds (loses_down p g up log.slot log.start (checkpoint_in flex (other log.slot) s.holds) rests.bears.upto rests.held)

-- After a write and a sync all that was meant is what is held.
pub all_held : (at : ℕ) (bytes : List ℕ) (a b : DevState) → Rewritten at bytes a b → (m : Content) → Meant b.story m → m ≡ b.holds
all_held at bytes a b step m meant = subst (λ (y : Story). Meant y m) step.told meant

-- n bytes at `at` lie off m bytes at `a`
abbrev pub Off : ℕ → ℕ → ℕ → ℕ → Type 0
Off a m at n = (a + m ≤ at) ⊎ (at + n ≤ a)

-- n bytes that are written lie off the log, and off the other slot, or what stands in the other slot then loses
module _ (flex : FlexArea) (p up g : ℕ) (log : Log) (at : ℕ) (bytes : List ℕ) (eight : length flex.area.magic ≡ 8) (small : flex.area.slot ≤ 2 ^ 32)
    (away : Off (place_at flex.area log.slot) (512 * next_of log) at (length bytes))
    (beside : Off (place_at flex.area (other log.slot)) (512 * flex.area.slot) at (length bytes) ⊎ ((f : Content) → cells f at (length bytes) ≡ bytes → Loses p up log.slot log.start (checkpoint_in flex (other log.slot) f))) where
  abbrev read : Content → Found
  read = checkpoint_in flex (other log.slot)

  abbrev P : Found → Type 0
  P = Loses p up log.slot log.start

  unchanged : (a b : DevState) → Changed at (length bytes) a b → (i : ℕ) → place_at flex.area log.slot ≤ i → i < place_at flex.area log.slot + 512 * next_of log → (b.holds i ≡ a.holds i) × (pending a i ≡ false → pending b i ≡ false)
  unchanged a b step i low high = elim away [
    | inl before ↦ (step.below i (omega (arith, before)), step.sure_below i (omega (arith, before)))
    | inr after ↦ (step.above i (omega (arith, after)), step.sure_above i (omega (arith, after)))
  ]

  kept : (a b : DevState) → Changed at (length bytes) a b → AllMeant read P b → Bears flex p up g log a → Bears flex p up g log b
  kept a b step meant bears = record {
    holds = holds_same flex p g log a.holds b.holds eight small (λ i low high. sym (unchanged a b step i low high).0) bears.holds;
    sure = λ i low high. (unchanged a b step i low high).1 (bears.sure i low high);
    upto = bears.upto;
    beside = meant;
  }

  pub bears_during : (a b : DevState) → Rewriting at bytes a b → Rests flex p up g log a → Bears flex p up g log b
  bears_during a b step rests = kept a b step.changed (elim beside [
    | inl off ↦ meant_elsewhere read (place_at flex.area (other log.slot)) (512 * flex.area.slot) at bytes (looks_in flex.area (other log.slot)) P a b off step rests.held rests.bears.beside
    | inr good ↦ meant_here read at bytes P a b good step rests.bears.beside
  ]) rests.bears

  pub rests_after : (a b : DevState) → Rewritten at bytes a b → Rests flex p up g log a → Rests flex p up g log b
  rests_after a b step rests =
      let held : P (read b.holds) = elim beside [
        | inl off ↦ subst P (sym (held_elsewhere read (place_at flex.area (other log.slot)) (512 * flex.area.slot) at bytes (looks_in flex.area (other log.slot)) a b off step.changed)) rests.held
        | inr good ↦ good b.holds step.given
      ] in
      record { bears = kept a b step.changed (λ m meant. subst (λ (k : Content). P (read k)) (sym (all_held at bytes a b step m meant)) held) rests.bears; held = held }

-- they lie off both
pub rests_during : (flex : FlexArea) (p up g : ℕ) (log : Log) (at : ℕ) (bytes : List ℕ) → length flex.area.magic ≡ 8 → flex.area.slot ≤ 2 ^ 32 → Off (place_at flex.area log.slot) (512 * next_of log) at (length bytes)
    → Off (place_at flex.area (other log.slot)) (512 * flex.area.slot) at (length bytes) → (a b : DevState) → Rewriting at bytes a b → Rests flex p up g log a → Rests flex p up g log b
rests_during flex p up g log at bytes eight small away off a b step rests = record {
  bears = bears_during flex p up g log at bytes eight small away (inl off) a b step rests;
  held = subst (Loses p up log.slot log.start) (sym (held_elsewhere (checkpoint_in flex (other log.slot)) (place_at flex.area (other log.slot)) (512 * flex.area.slot) at bytes (looks_in flex.area (other log.slot)) a b off step.changed)) rests.held;
}

-- A log lies in its slot.
deltas_fit : (flex : FlexArea) (slot m c n : ℕ) (f : Content) (ds : List (List ℕ)) → deltas_in flex slot m c (suc n) f ≡ Some ds → m + n < flex.area.slot
deltas_fit flex slot m c n f ds is = elim (cases_Bool (nat_lt (m + n) flex.area.slot)) [
  | inl less ↦ lt_of (m + n) flex.area.slot less
  | inr not_less ↦ absurd (none ds (sym (ap (λ (b : Bool). put_on (body_at (c + suc n) (cond b (sector_of flex.delta (cells f (sector_at flex slot (m + n)) 512)) None)) (deltas_in flex slot m c n f)) not_less) ∙ is))
]
  where
    lt_of : (a b : ℕ) → nat_lt a b ≡ true → a < b
    lt_of a b is = grind (arith, nat_tests)

    none : (ds : List (List ℕ)) → None ≡ Some ds → ⊥
    none ds e = cc

pub log_fits : (flex : FlexArea) (p g : ℕ) (log : Log) (f : Content) → length flex.area.magic ≡ 8 → flex.area.slot ≤ 2 ^ 32 → Holds flex p g log f → next_of log ≤ flex.area.slot
log_fits flex p g log f eight small held = by_length (length log.deltas) log.deltas held.deltas
  where
    first : sectors_of log.body ≤ flex.area.slot
    first = let fits = any_fits flex.area log.slot f f (log.start, log.body) eight small held.checkpoint in omega arith

    by_length : (n : ℕ) (ds : List (List ℕ)) → deltas_in flex log.slot (sectors_of log.body) log.start n f ≡ Some ds → sectors_of log.body + n ≤ flex.area.slot
    by_length zero ds is = let le = first in omega arith
    by_length (suc n) ds is = let lt = deltas_fit flex log.slot (sectors_of log.body) log.start n f ds is in omega arith

-- the two slots of an area lie apart
pub slots_apart : (area : Area) (slot n : ℕ) → slot < 2 → n ≤ 512 * area.slot → Off (place_at area (other slot)) (512 * area.slot) (place_at area slot) n
slots_apart area zero n lt fits = inr (omega arith)
slots_apart area (suc zero) n lt fits = inl (omega arith)
slots_apart area (suc (suc k)) n lt fits = absurd (omega arith)

pub other_other : (slot : ℕ) → slot < 2 → other (other slot) ≡ slot
other_other slot lt = omega arith
