-- A log at each moment of a run on its device.
use Rattle.std.proofs.Common.{◌≡◌, ℕ, ◌+◌, ◌*◌, ◌^◌, ◌<◌, ◌≤◌, List, length, Some, sym, ◌∙◌, ap, subst, arith}
use Rattle.st_fields.specs.Slot.{slot_bytes}
use Rattle.st_rack.specs.Story.{Content}
use Rattle.st_rack.specs.Device.{Path, DevState, State, Leaves}
use Rattle.st_rack.specs.Moments.{Goes, OnDevice, Keeps, LeftSince}
use Rattle.st_rack.specs.Steps.{Rewriting, Rewritten, LeavesOutside}
use Rattle.st_rack.proofs.Moments.{goes_keeps, keeps_weak}
use Rattle.st_rack.proofs.Written.{rewritten_sure}
use Rattle.st_slots.specs.Places.{place_at}
use Rattle.st_slots.specs.Writing.{LeavesFor}
use Rattle.st_slots.proofs.Running.{same, outside}
use Rattle.st_deltalog.specs.declared.area.FlexArea.{FlexArea}
use Rattle.st_deltalog.specs.Log.{Log, serial_in, next_of, checkpoint_in, sector_at, log_at, begun, grown}
use Rattle.st_deltalog.specs.Bearing.{other, Bears, Rests, Loses, IsTail}
use Rattle.st_deltalog.proofs.Bearing.{log_left, log_held}
use Rattle.st_deltalog.proofs.Growing.{one_sector, append_during, appended, checkpointed, checkpoint_during, checkpointed_over}

-- a call that writes bytes on a device and syncs it
module _ {D : Type 0} (moment : D → ℕ) (state_at : D → ℕ → State) (dev : Path) (at : ℕ) (bytes : List ℕ) (old new : D) where
  abbrev now : D → State
  now r = state_at r (moment r)

  abbrev Run : Type 0
  Run = Goes moment state_at (OnDevice dev (Rewriting at bytes)) old new

  at_each : (Q : DevState → Type 0) → ((b : DevState) → Rewriting at bytes (now old dev) b → Q b) → Run → Keeps moment state_at (λ s. Q (s dev)) old new
  at_each Q each run = goes_keeps moment state_at (OnDevice dev (Rewriting at bytes)) (λ s. Q (s dev)) old new (same moment state_at dev at bytes (now old)) (λ s step. each (s dev) step.here) run

  read_each : (flex : FlexArea) (p up g : ℕ) (log : Log) → length flex.area.magic ≡ 8 → flex.area.slot ≤ 2 ^ 32 → Keeps moment state_at (λ s. Bears flex p up g log (s dev)) old new
      → Keeps moment state_at (λ s. (f : Content) → LeavesFor (checkpoint_in flex (other log.slot)) (s dev) f → log_at flex p g f ≡ Some log) old new
  read_each flex p up g log eight small keeps =
      keeps_weak moment state_at (λ s. Bears flex p up g log (s dev)) (λ s. (f : Content) → LeavesFor (checkpoint_in flex (other log.slot)) (s dev) f → log_at flex p g f ≡ Some log) old new
      (λ s bears f leaves. log_left flex p up g log (s dev) f eight small bears leaves.left (leaves.fair tt).now) keeps

-- After a sync nothing is left but what is held.
read_after : (flex : FlexArea) (p up g : ℕ) (log : Log) (at : ℕ) (bytes : List ℕ) (a b : DevState) → Rewritten at bytes a b → Rests flex p up g log b → (f : Content) → Leaves b f → log_at flex p g f ≡ Some log
read_after flex p up g log at bytes a b step rests f left = ap (log_at flex p g) (λ j i. left i (rewritten_sure at bytes a b step i) j) ∙ log_held flex p up g log b rests

-- A checkpoint is written.
module _ {D : Type 0} (moment : D → ℕ) (state_at : D → ℕ → State) (dev : Path) (flex : FlexArea) (slot G : ℕ) (body : List ℕ) (old new : D)
    (eight : length flex.area.magic ≡ 8) (small : flex.area.slot ≤ 2 ^ 32) (two : slot < 2) (from : 1 ≤ G) (until : G ≤ 2 ^ 48) (fits : 64 + length body ≤ 512 * flex.area.slot) where
  abbrev place : ℕ
  place = place_at flex.area slot

  abbrev text : List ℕ
  text = slot_bytes flex.area.magic G body

  abbrev before : DevState
  before = state_at old (moment old) dev

  abbrev after : DevState
  after = state_at new (moment new) dev

  -- over a log of an earlier generation in the other slot
  module _ (run : Goes moment state_at (OnDevice dev (Rewriting place text)) old new) (p up g : ℕ) (log : Log) (rests : Rests flex p up g log before) (is_other : slot ≡ other log.slot) (less : g < G) where
    pub checkpoint_stays : Keeps moment state_at (λ s. Bears flex p g g log (s dev)) old new
    checkpoint_stays = at_each moment state_at dev place text old new (λ b. Bears flex p g g log b)
        (λ b step. checkpoint_during flex p slot G body eight small two fits g log is_other less from until up before b step rests) run

    pub checkpoint_old_read : Keeps moment state_at (λ s. (f : Content) → LeavesFor (checkpoint_in flex (other log.slot)) (s dev) f → log_at flex p g f ≡ Some log) old new
    checkpoint_old_read = read_each moment state_at dev place text old new flex p g g log eight small checkpoint_stays

  module _ (done : Rewritten place text before after) where
    pub checkpoint_over : (p up g : ℕ) (log : Log) → Rests flex p up g log before → slot ≡ other log.slot → g < G → serial_in body ≡ p → Rests flex p (2 ^ 48) G (begun slot (G, body)) after
    checkpoint_over p up g log rests is_other less serial = checkpointed_over flex p slot G body eight small two fits g log is_other less up before after done serial from until rests

    pub checkpoint_new : (p up : ℕ) → serial_in body ≡ p → G ≤ up → Loses p up slot G (checkpoint_in flex (other slot) before.holds) → Rests flex p up G (begun slot (G, body)) after
    checkpoint_new p up serial below loses = checkpointed flex p slot G body eight small two fits up before after done serial from until below loses

    pub checkpoint_new_read : (p up : ℕ) → serial_in body ≡ p → G ≤ up → Loses p up slot G (checkpoint_in flex (other slot) before.holds) → (f : Content) → Leaves after f
        → log_at flex p G f ≡ Some (begun slot (G, body))
    checkpoint_new_read p up serial below loses = read_after flex p up G (begun slot (G, body)) place text before after done (checkpoint_new p up serial below loses)

-- A delta is written behind a log, by the tail's numbers.
module _ {D : Type 0} (moment : D → ℕ) (state_at : D → ℕ → State) (dev : Path) (flex : FlexArea) (slot next at G : ℕ) (body : List ℕ) (old new : D)
    (eight : length flex.area.magic ≡ 8) (eight_delta : length flex.delta ≡ 8) (small : flex.area.slot ≤ 2 ^ 32) (left : next < flex.area.slot) (fits : 64 + length body ≤ 512) (there : at ≡ sector_at flex slot next) where
  abbrev bytes : List ℕ
  bytes = slot_bytes flex.delta G body

  abbrev first : DevState
  first = state_at old (moment old) dev

  abbrev last : DevState
  last = state_at new (moment new) dev

  pub append_time : Goes moment state_at (OnDevice dev (Rewriting at bytes)) old new → Goes moment state_at (OnDevice dev (Rewriting (sector_at flex slot next) bytes)) old new
  append_time = subst (λ (n : ℕ). Goes moment state_at (OnDevice dev (Rewriting n bytes)) old new) there

  pub append_done : OnDevice dev (Rewritten at bytes) (state_at old (moment old)) (state_at new (moment new)) → OnDevice dev (Rewritten (sector_at flex slot next) bytes) (state_at old (moment old)) (state_at new (moment new))
  append_done = subst (λ (n : ℕ). OnDevice dev (Rewritten n bytes) (state_at old (moment old)) (state_at new (moment new))) there

  pub append_outside : Goes moment state_at (OnDevice dev (Rewriting at bytes)) old new → LeavesOutside dev (sector_at flex slot next) 512 (state_at old (moment old)) (LeftSince moment state_at new (moment old))
  append_outside run = outside moment state_at dev (sector_at flex slot next) bytes 512 old new (one_sector flex.delta body G eight_delta fits) (append_time run)

  module _ (p up g : ℕ) (log : Log) (tail : IsTail slot next log) (rests : Rests flex p up g log first) where
    where_it_is : sector_at flex slot next ≡ sector_at flex log.slot (next_of log)
    where_it_is = (λ i. sector_at flex (sym tail.in_slot i) (sym tail.behind i))

    room : next_of log < flex.area.slot
    room = let e = tail.behind in omega arith

    during : (b : DevState) → Rewriting (sector_at flex slot next) bytes first b → Rests flex p up g log b
    during b step = append_during flex p up g log G body eight eight_delta small room fits first b (subst (λ (n : ℕ). Rewriting n bytes first b) where_it_is step) rests

    pub append_stays : Goes moment state_at (OnDevice dev (Rewriting at bytes)) old new → Keeps moment state_at (λ s. Rests flex p up g log (s dev)) old new
    append_stays run = at_each moment state_at dev (sector_at flex slot next) bytes old new (λ b. Rests flex p up g log b) during (append_time run)

    pub append_old_read : Goes moment state_at (OnDevice dev (Rewriting at bytes)) old new
        → Keeps moment state_at (λ s. (f : Content) → LeavesFor (checkpoint_in flex (other log.slot)) (s dev) f → log_at flex p g f ≡ Some log) old new
    append_old_read run = read_each moment state_at dev (sector_at flex slot next) bytes old new flex p up g log eight small
        (at_each moment state_at dev (sector_at flex slot next) bytes old new (λ b. Bears flex p up g log b) (λ b step. (during b step).bears) (append_time run))

    module _ (from : 1 ≤ G) (until : G ≤ 2 ^ 48) (done : Rewritten (sector_at flex slot next) bytes first last) (is_next : G ≡ g + 1) (below : G ≤ up) where
      pub append_new : Rests flex p up G (grown log body) last
      append_new = appended flex p up g log G body eight eight_delta small room fits first last (subst (λ (n : ℕ). Rewritten n bytes first last) where_it_is done) is_next from below until rests

      pub append_new_read : (f : Content) → Leaves last f → log_at flex p G f ≡ Some (grown log body)
      append_new_read = read_after flex p up G (grown log body) (sector_at flex slot next) bytes first last done append_new
