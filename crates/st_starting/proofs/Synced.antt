-- A start is a sync of each device, reads, and a repair.
use Rattle.std.proofs.Common.{◌≡◌, ℕ, ◌≤◌, List, Result, Ok, Err, IfOk, OnOk, refl, sym, ◌∙◌, ap, subst, arith}
use Rattle.st_units.specs.Causes.{Rose}
use Rattle.st_looks.specs.declared.look.DevLook.{DevLook}
use Rattle.st_rack.specs.Device.{Path, State, Image, held}
use Rattle.st_rack.specs.Calls.{Devices}
use Rattle.st_rack.specs.Moments.{Goes, Keeps}
use Rattle.st_rack.proofs.Left.{left_settled}
use Rattle.st_rack.proofs.Moments.{at_end, goes_keeps, keeps_from, keeps_on, keeps_weak}
use Rattle.st_slots.specs.declared.spot.SlotFault.{SlotFault}
use Rattle.st_slots.specs.declared.spot.SlotFault.TheVariants.{Fault}
use Rattle.st_commit.specs.Ready.{Settles}
use Rattle.st_commit.proofs.Onward.{settles_self}
use Rattle.st_image.specs.Left.{LeftOf, first_sectors}
use Rattle.st_image.specs.Looks.{look_of}
use Rattle.st_starting.specs.declared.finding.Finding.{Finding}
use Rattle.st_starting.specs.Alike.{StandsAlike}
use Rattle.st_starting.specs.inner.Finding.{IsFinding}
use Rattle.st_starting.proofs.Mended.{alike_self}

pub rose_after : (a b n : ℕ) → a ≤ b → Rose b n → Rose a n
rose_after a b n le rose = omega (arith, le, rose)

-- what an `Ok` bears may be said otherwise
pub if_ok : (P Q : Finding → Type 0) (r : Result Finding SlotFault) → ((f : Finding) → P f → Q f) → IfOk r P → IfOk r Q
if_ok P Q (Ok f) each is = each f is
if_ok P Q (Err x) each is = tt

pub settled_now : (P : Type 0) (r : Result Finding SlotFault) → P → OnOk r P
settled_now P (Ok f) is = is
settled_now P (Err x) is = tt

pub found_now : {p : ℕ} {a b : Devices} {list : List Path} {s t : State} (f : Finding) → IsFinding p a list (held s) f → a ≡ b → s ≡ t → IsFinding p b list (held t) f
found_now {p} {a} {b} {list} {s} {t} f found devs states = subst (λ (x : Devices × State). IsFinding p x.0 list (held x.1) f) (λ i. (devs i, states i)) found

pub moved_looks : (a : SlotFault) → ◌≡◌ {A = Result Finding SlotFault} (Err a) (Err Fault) → ◌≡◌ {A = Result (List DevLook) SlotFault} (Err a) (Err Fault)
moved_looks a e = let same : a ≡ Fault = cc in ap (λ (f : SlotFault). Err f) same

module _ (p : ℕ) (devs : Devices) (a b : State) (settles : Settles a b) where
  left_before : (c : Image) → LeftOf p devs b c → LeftOf p devs a c
  left_before c leaves k d at = left_settled (look_of p (first_sectors devs) k) (a d) (b d) (c d) (settles d) (leaves k d at)

  pub before_alike : (s : State) → StandsAlike p devs b s → StandsAlike p devs a s
  before_alike s alike c leaves = let one = alike c leaves in record { image = one.image; left = left_before one.image one.left; same = one.same }

-- reads change nothing
pub read_on : {D : Type 0} (moment : D → ℕ) (state_at : D → ℕ → State) (r0 r1 r2 : D) → moment r2 ≡ moment r1 → state_at r2 ≡ state_at r1 → Goes moment state_at Settles r0 r1 → Goes moment state_at Settles r0 r2
read_on moment state_at r0 r1 r2 clock states goes = record {
  later = omega (arith, goes.later, clock);
  past = λ k q le. (λ i. states i k q) ∙ goes.past k q le;
  since = λ k lt le. subst (λ (f : ℕ → State). Settles (state_at r0 (moment r0)) (f k)) (sym states) (goes.since k lt (omega (arith, le, clock)));
}

module _ {D : Type 0} (moment : D → ℕ) (state_at : D → ℕ → State) (p : ℕ) (devs : Devices) where
  pub synced_alike : (r0 r1 : D) → Goes moment state_at Settles r0 r1 → Keeps moment state_at (StandsAlike p devs (state_at r0 (moment r0))) r0 r1
  synced_alike r0 r1 time = goes_keeps moment state_at Settles (StandsAlike p devs (state_at r0 (moment r0))) r0 r1 (settles_self (state_at r0 (moment r0)))
      (λ s step. before_alike p devs (state_at r0 (moment r0)) s step s (alike_self p devs s)) time

  -- and what comes after
  pub all_alike : (r0 r1 r2 : D) → Goes moment state_at Settles r0 r1 → Keeps moment state_at (StandsAlike p devs (state_at r1 (moment r1))) r1 r2 → Keeps moment state_at (StandsAlike p devs (state_at r0 (moment r0))) r0 r2
  all_alike r0 r1 r2 time after =
      let last = at_end moment state_at Settles r0 r1 (settles_self (state_at r0 (moment r0))) time in
      keeps_on moment state_at (StandsAlike p devs (state_at r0 (moment r0))) r0 r1 r2 (synced_alike r0 r1 time)
      (keeps_weak moment state_at (StandsAlike p devs (state_at r1 (moment r1))) (StandsAlike p devs (state_at r0 (moment r0))) r1 r2 (λ s. before_alike p devs (state_at r0 (moment r0)) (state_at r1 (moment r1)) last s) after)

  -- reads change nothing
  pub read_alike : (r1 r2 r3 : D) → moment r2 ≡ moment r1 → state_at r2 ≡ state_at r1 → Keeps moment state_at (StandsAlike p devs (state_at r2 (moment r2))) r2 r3 → Keeps moment state_at (StandsAlike p devs (state_at r1 (moment r1))) r1 r3
  read_alike r1 r2 r3 clock states keeps =
      keeps_from moment state_at (StandsAlike p devs (state_at r1 (moment r1))) r1 r2 r3 clock states
      (subst (λ (s : State). Keeps moment state_at (StandsAlike p devs s) r2 r3) (λ i. states i (clock i)) keeps)

  pub only_read : (r1 r2 : D) → moment r2 ≡ moment r1 → state_at r2 ≡ state_at r1 → Keeps moment state_at (StandsAlike p devs (state_at r1 (moment r1))) r1 r2
  only_read r1 r2 clock states = read_alike r1 r2 r2 clock states (record {
    later = omega arith;
    past = λ k q le. refl;
    all = λ k low high. (let here : moment r2 ≡ k = omega (arith, low, high) in subst (λ (j : ℕ). StandsAlike p devs (state_at r2 (moment r2)) (state_at r2 j)) here (alike_self p devs (state_at r2 (moment r2))));
  })
