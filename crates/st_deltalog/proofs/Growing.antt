-- A log gets one delta more, or a new one begins with a checkpoint.
use Rattle.std.proofs.Common.{◌≡◌, inl, inr, ℕ, zero, suc, ◌+◌, ◌*◌, ◌/◌, ◌^◌, ◌<◌, ◌≤◌, Bool, true, cond, nat_lt, nat_eq, List, length, Some, None, refl, sym, ◌∙◌, ap, subst, arith}
use Rattle.std.proofs.lemmas.Bool.Decides.{nat_tests}
use Rattle.st_fields.specs.Slot.{Found, slot_bytes, sector_of}
use Rattle.st_fields.proofs.Sectors.{sector_of-bytes}
use Rattle.st_rack.specs.Story.{Content}
use Rattle.st_rack.specs.Device.{DevState, cells}
use Rattle.st_rack.specs.Steps.{Rewriting, Rewritten}
use Rattle.st_rack.proofs.Readers.{held_elsewhere}
use Rattle.st_slots.specs.Places.{place_at}
use Rattle.st_slots.proofs.Texts.{length-slot_bytes, looks_in, reads_text}
use Rattle.st_rack.proofs.Written.{rewritten_sure}
use Rattle.st_deltalog.specs.declared.area.FlexArea.{FlexArea}
use Rattle.st_deltalog.specs.Log.{Log, serial_in, sectors_of, next_of, checkpoint_in, sector_at, delta_in, body_at, put_on, begun, grown}
use Rattle.st_deltalog.specs.Bearing.{other, Loses, Holds, Bears, Rests}
use Rattle.st_deltalog.proofs.Bearing.{rests_down, bears_during, rests_after, rests_during, all_held, Off, log_fits, slots_apart}

-- the bytes of a delta fill a sector
pub one_sector : (magic body : List ℕ) (g : ℕ) → length magic ≡ 8 → 64 + length body ≤ 512 → length (slot_bytes magic g body) ≡ 512
one_sector magic body g eight fits = length-slot_bytes magic body g eight ∙ omega arith

-- A delta is written behind the log.
module _ (flex : FlexArea) (p up g : ℕ) (log : Log) (G : ℕ) (body : List ℕ) (eight : length flex.area.magic ≡ 8) (eight_delta : length flex.delta ≡ 8) (small : flex.area.slot ≤ 2 ^ 32)
    (left : next_of log < flex.area.slot) (fits : 64 + length body ≤ 512) where
  abbrev at : ℕ
  at = sector_at flex log.slot (next_of log)

  abbrev bytes : List ℕ
  bytes = slot_bytes flex.delta G body

  size : length bytes ≡ 512
  size = one_sector flex.delta body G eight_delta fits

  behind : Off (place_at flex.area log.slot) (512 * next_of log) at (length bytes)
  behind = inl (omega arith)

  beside_it : log.slot < 2 → Off (place_at flex.area (other log.slot)) (512 * flex.area.slot) at (length bytes)
  beside_it two = off_other log.slot (next_of log) two left
    where
      off_other : (slot k : ℕ) → slot < 2 → k < flex.area.slot → Off (place_at flex.area (other slot)) (512 * flex.area.slot) (sector_at flex slot k) (length bytes)
      off_other zero k lt less = inr (omega (arith, size))
      off_other (suc zero) k lt less = inl (omega (arith, size))
      off_other (suc (suc n)) k lt less = absurd (omega arith)

  pub append_during : (a b : DevState) → Rewriting at bytes a b → Rests flex p up g log a → Rests flex p up g log b
  append_during a b step rests = rests_during flex p up g log at bytes eight small behind (beside_it rests.bears.holds.of_two) a b step rests

  there : (f : Content) → G ≡ g + 1 → 1 ≤ G → G ≤ 2 ^ 48 → cells f at (length bytes) ≡ bytes → delta_in flex log.slot (next_of log) f ≡ Some (G, body)
  there f step from until is =
      let less : nat_lt (next_of log) flex.area.slot ≡ true = grind (arith, nat_tests) in
      ap (λ (b : Bool). cond b (sector_of flex.delta (cells f at 512)) None) less
      ∙ ap (λ (n : ℕ). sector_of flex.delta (cells f at n)) (sym size) ∙ ap (sector_of flex.delta) is
      ∙ sector_of-bytes flex.delta G body eight_delta from until (omega arith)

  pub appended : (a b : DevState) → Rewritten at bytes a b → G ≡ g + 1 → 1 ≤ G → G ≤ up → G ≤ 2 ^ 48 → Rests flex p up g log a → Rests flex p up G (grown log body) b
  appended a b step next from below until rests =
      let before = rests_after flex p up g log at bytes eight small behind (inl (beside_it rests.bears.holds.of_two)) a b step rests in
      let held = before.bears.holds in
      let counted = held.counted in
      let n = length log.deltas in
      let m = sectors_of log.body in
      let same_generation : G ≡ log.start + suc n = omega arith in
      let is_it : nat_eq G (log.start + suc n) ≡ true = grind (arith, nat_tests) in
      record {
        bears = record {
          holds = record {
            of_two = held.of_two;
            serial = held.serial;
            counted = same_generation;
            checkpoint = held.checkpoint;
            deltas = (λ i. put_on (body_at (log.start + suc n) (there b.holds next from until step.given i)) (held.deltas i)) ∙ ap (λ (t : Bool). put_on (cond t (Some body) None) (Some log.deltas)) is_it;
          };
          sure = λ i low high. rewritten_sure at bytes a b step i;
          upto = below;
          beside = before.bears.beside;
        };
        held = before.held;
      }

-- A checkpoint is written to a slot.
module _ (flex : FlexArea) (p slot G : ℕ) (body : List ℕ) (eight : length flex.area.magic ≡ 8) (small : flex.area.slot ≤ 2 ^ 32) (two : slot < 2) (fits : 64 + length body ≤ 512 * flex.area.slot) where
  abbrev place : ℕ
  place = place_at flex.area slot

  abbrev text : List ℕ
  text = slot_bytes flex.area.magic G body

  text_fits : length text ≤ 512 * flex.area.slot
  text_fits = let up : (64 + length body + 511) / 512 ≤ flex.area.slot = omega arith in omega (arith, length-slot_bytes flex.area.magic body G eight)

  -- What stands in the other slot loses against it.
  pub checkpointed : (up : ℕ) (a b : DevState) → Rewritten place text a b → serial_in body ≡ p → 1 ≤ G → G ≤ 2 ^ 48 → G ≤ up → Loses p up slot G (checkpoint_in flex (other slot) a.holds) → Rests flex p up G (begun slot (G, body)) b
  checkpointed up a b step serial from until below loses =
      let held : Loses p up slot G (checkpoint_in flex (other slot) b.holds) =
      subst (Loses p up slot G) (sym (held_elsewhere (checkpoint_in flex (other slot)) (place_at flex.area (other slot)) (512 * flex.area.slot) place text (looks_in flex.area (other slot)) a b (slots_apart flex.area slot (length text) two text_fits) step.changed)) loses in
      record {
        bears = record {
          holds = record {
            of_two = two;
            serial = serial;
            counted = omega arith;
            checkpoint = reads_text flex.area slot G body b.holds eight from until small fits step.given;
            deltas = refl;
          };
          sure = λ i low high. rewritten_sure place text a b step i;
          upto = below;
          beside = λ m meant. subst (λ (k : Content). Loses p up slot G (checkpoint_in flex (other slot) k)) (sym (all_held place text a b step m meant)) held;
        };
        held = held;
      }

  -- over a log in the other slot: it stays while the checkpoint is written
  module _ (g : ℕ) (log : Log) (is_other : slot ≡ other log.slot) (later : g < G) where
    off_log : (f : Content) → Holds flex p g log f → Off (place_at flex.area log.slot) (512 * next_of log) place (length text)
    off_log f held =
        let apart = slots_apart flex.area slot (length text) two text_fits in
        let same : other slot ≡ log.slot = (let lt = held.of_two in omega arith) in
        let le = log_fits flex p g log f eight small held in
        elim (subst (λ (k : ℕ). Off (place_at flex.area k) (512 * flex.area.slot) place (length text)) same apart) [
          | inl before ↦ inl (omega (arith, before, le))
          | inr after ↦ inr after
        ]

    loses_new : (o : Found) → o ≡ Some (G, body) → Loses p g log.slot log.start o
    loses_new o is x found serial below =
        let same : x ≡ (G, body) = some_same x (G, body) (sym found ∙ is) in
        let generation : x.0 ≡ G = ap (λ (y : ℕ × List ℕ). y.0) same in
        absurd (omega arith)
      where
        some_same : (a b : ℕ × List ℕ) → Some a ≡ Some b → a ≡ b
        some_same a b e = cc

    pub checkpoint_during : 1 ≤ G → G ≤ 2 ^ 48 → (up : ℕ) (a b : DevState) → Rewriting place text a b → Rests flex p up g log a → Bears flex p g g log b
    checkpoint_during from until up a b step rests =
        let low = rests_down flex p g up g log a (omega arith) rests.bears.upto rests in
        bears_during flex p g g log place text eight small (off_log a.holds rests.bears.holds) (inr (λ f is. loses_new (checkpoint_in flex (other log.slot) f) (subst (λ (k : ℕ). checkpoint_in flex k f ≡ Some (G, body)) is_other (reads_text flex.area slot G body f eight from until small fits is)))) a b step low

    -- It stays afterwards, for its own generation.
    pub checkpoint_after : 1 ≤ G → G ≤ 2 ^ 48 → (up : ℕ) (a b : DevState) → Rewritten place text a b → Rests flex p up g log a → Rests flex p g g log b
    checkpoint_after from until up a b step rests =
        let low = rests_down flex p g up g log a (omega arith) rests.bears.upto rests in
        rests_after flex p g g log place text eight small (off_log a.holds rests.bears.holds) (inr (λ f is. loses_new (checkpoint_in flex (other log.slot) f) (subst (λ (k : ℕ). checkpoint_in flex k f ≡ Some (G, body)) is_other (reads_text flex.area slot G body f eight from until small fits is)))) a b step low

    -- Afterwards the old log loses for every generation.
    pub checkpointed_over : (up : ℕ) (a b : DevState) → Rewritten place text a b → serial_in body ≡ p → 1 ≤ G → G ≤ 2 ^ 48 → Rests flex p up g log a → Rests flex p (2 ^ 48) G (begun slot (G, body)) b
    checkpointed_over up a b step serial from until rests =
        let held = rests.bears.holds in
        let same : other slot ≡ log.slot = (let lt = held.of_two in omega arith) in
        checkpointed (2 ^ 48) a b step serial from until until (loses_old (checkpoint_in flex (other slot) a.holds) held.counted (ap (λ (k : ℕ). checkpoint_in flex k a.holds) same ∙ held.checkpoint))
      where
        loses_old : (o : Found) → g ≡ log.start + length log.deltas → o ≡ Some (log.start, log.body) → Loses p (2 ^ 48) slot G o
        loses_old o counted is x found serial below =
            let same : x ≡ (log.start, log.body) = some_same x (log.start, log.body) (sym found ∙ is) in
            let generation : x.0 ≡ log.start = ap (λ (y : ℕ × List ℕ). y.0) same in
            omega arith
          where
            some_same : (a b : ℕ × List ℕ) → Some a ≡ Some b → a ≡ b
            some_same a b e = cc

-- The first checkpoint of a pool goes to slot 1, and nothing in slot 0 is taken in its place: no premise on the area at all.
pub first_loses : (p : ℕ) (o : Found) → Loses p 1 1 1 o
first_loses p o x is serial below = omega arith
