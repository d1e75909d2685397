-- The rack without faults, as its past and its list.
use Rattle.std.proofs.Common.{◌≡◌, inl, inr, ℕ, ◌+◌, ◌-◌, ◌^◌, ◌≤◌, min, true, false, IsNone, List, get_or, slice_set, sym, ◌∙◌, ap, subst, arith}
use Rattle.st_rack.specs.Story.{Settled}
use Rattle.st_rack.specs.Device.{Path, DevState, State, Synced, Settling, Cut}
use Rattle.st_units.specs.Causes.{Rose}
use Rattle.st_rack.specs.Calls.{Has, sectors_of}
use Rattle.st_rack.proofs.Look.{has_or_not}
use Rattle.st_shelf.specs.Shelf.{rows_of, state_in, is_in, no_device, IsFirst}
use Rattle.st_shelf.specs.Past.{depth, was}
use Rattle.st_shelf.specs.declared.past.Past.{Past}
use Rattle.st_shelf.proofs.Look.{look_first, look_set_same, not_in}
use Rattle.st_shelf.proofs.Change.{was_now}
use Rattle.st_memrack.specs.Slab.{slab_path, slab_state}
use Rattle.st_memrack.specs.Blank.{IsSettled}
use Rattle.st_memrack.specs.declared.slab.Slab.{Slab}
use Rattle.st_memrack.specs.declared.nofault.NoFaultRack.{NoFaultRack}

abbrev pub past_of : NoFaultRack → Past Slab
past_of r = r.past.value

abbrev pub list_of : NoFaultRack → List Slab
list_of r = r.slabs.items

module _ {D : Type 0} (path : D → Path) (state : D → DevState) where
  -- the state now, as the clock tells it
  abbrev pub now_of : Past D → List D → State
  now_of past l = was path state past (state_in path state l) (depth past)

  pub now_is : (past : Past D) (l : List D) → now_of past l ≡ state_in path state l
  now_is past l = λ i p. was_now path state past (state_in path state l) p i

  pub both_now : (one two : Past D) (a b : List D) (step : State → State → Type 0) → step (state_in path state a) (state_in path state b) → step (now_of one a) (now_of two b)
  both_now one two a b step h =
      subst (λ (s : State). step s (now_of two b)) (sym (now_is one a))
      (subst (λ (s : State). step (state_in path state a) s) (sym (now_is two b)) h)

-- what a change of one device makes of it
pub set_state : (past : Past Slab) (l : List Slab) (dev : Path) (i : ℕ) (v : Slab) → IsFirst slab_path l dev i → slab_path v ≡ dev → now_of slab_path slab_state past (slice_set l i v) dev ≡ slab_state v
set_state past l dev i v first same = was_now slab_path slab_state past (state_in slab_path slab_state (slice_set l i v)) dev ∙ look_set_same slab_path slab_state no_device l dev i v first same

pub first_state : (past : Past Slab) (l : List Slab) (dev : Path) (i : ℕ) (d : Slab) → IsFirst slab_path l dev i → now_of slab_path slab_state past l dev ≡ slab_state (get_or l i d)
first_state past l dev i d first = was_now slab_path slab_state past (state_in slab_path slab_state l) dev ∙ look_first slab_path slab_state no_device l dev i d first

pub synced_settles : (a b : DevState) → Synced a b → Settling a b
synced_settles a b h = record { same = h.same; told = inr h.told }

pub settled_cut : (a b : Slab) → IsSettled a b → Cut (slab_state a) (slab_state b)
settled_cut a b h = record {
  left = λ i sure. ap (λ (f : ℕ → ℕ). f i) h.synced.same;
  told = h.synced.told ∙ ap (λ (f : ℕ → ℕ). Settled f (slab_state a).story) (sym h.synced.same);
}

pub rose_by : (a b : ℕ) → b ≡ min (a + 1) (2 ^ 64 - 1) → Rose a b
rose_by a b is = subst (λ (n : ℕ). min (a + 1) (2 ^ 64 - 1) ≤ n) (sym is) (omega arith)

-- the racks have no path in common
pub apart_in : {D : Type 0} (path : D → Path) (size : D → ℕ) (own others : List D)
    → ((p : Path) (n : ℕ) → Has (rows_of path size others) p n → IsNone (sectors_of (rows_of path size own) p)) → (p : Path) → is_in path others p ≡ true → is_in path own p ≡ false
apart_in path size own others apart p there = elim (has_or_not (rows_of path size others) p) [
  | inl has ↦ not_in path size own p (apart p has.0 has.1)
  | inr none ↦ absurd (let out = not_in path size others p none in cc)
]
