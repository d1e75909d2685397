-- What is left of a pool's devices, by the role of each.
use Rattle.std.proofs.Common.{◌≡◌, ◌⊎◌, inl, inr, ℕ, zero, suc, ◌<◌, Bool, true, false, ◌&&◌, cond, nat_eq, nat_lt, List, Option, Some, None, sym, ◌∙◌, ap, subst, arith}
use Rattle.std.specs.List.{slice_get}
use Rattle.std.proofs.lemmas.Bool.Decides.{nat_tests}
use Rattle.st_fields.specs.Slot.{Found}
use Rattle.st_rack.specs.Story.{Content, Meant, Fair}
use Rattle.st_rack.specs.Device.{Path, DevState, State, Image, Settling}
use Rattle.st_rack.specs.Left.{LeavesFairly, LeftOn}
use Rattle.st_rack.proofs.Left.{left_settled}
use Rattle.st_slots.specs.Reading.{read_slot}
use Rattle.st_slots.specs.declared.spot.Area.{Area}
use Rattle.st_deltalog.specs.declared.area.FlexArea.{FlexArea}
use Rattle.st_deltalog.specs.Log.{checkpoint_in}
use Rattle.st_commit.specs.Standing.{slots_in, records, owned_records, LeavesNow, LeftNow, Owned}
use Rattle.st_commit.specs.Ready.{Settles}

-- of a slot for records
pub slot_fair : (pool : Area) (s : DevState) (f : Content) → LeavesNow (slots_in pool) s f → (r : ℕ) → r < 2 → Fair (read_slot pool r) s.story f
slot_fair pool s f leaves zero lt = leaves.fair 0
slot_fair pool s f leaves (suc zero) lt = leaves.fair 1
slot_fair pool s f leaves (suc (suc k)) lt = absurd (omega arith)

-- of a slot for checkpoints on the first device
pub checkpoint_fair : (pool : Area) (flex : FlexArea) (s : DevState) (f : Content) → LeavesNow (records pool flex 0) s f → (slot : ℕ) → slot < 2 → Fair (checkpoint_in flex slot) s.story f
checkpoint_fair pool flex s f leaves zero lt = leaves.fair (false, 0)
checkpoint_fair pool flex s f leaves (suc zero) lt = leaves.fair (false, 1)
checkpoint_fair pool flex s f leaves (suc (suc k)) lt = absurd (omega arith)

-- the slots for records alone
pub slots_left_on : (pool : Area) (flex : FlexArea) (devs : List Path) (s : State) (c : Image) → LeftNow devs (records pool flex) s c → LeftNow devs (λ k. slots_in pool) s c
slots_left_on pool flex devs s c leaves k d is = record { left = (leaves k d is).left; fair = λ r. (leaves k d is).fair (true, r) }

pub owned_slots_left : (pool : Area) (flex : FlexArea) (owns : Content → Bool) (devs : List Path) (s : State) (c : Image) → LeftOn devs (owned_records pool flex owns) s c → LeftNow devs (λ k. slots_in pool) s c
owned_slots_left pool flex owns devs s c leaves k d is = record { left = (leaves k d is).left; fair = λ r. ((leaves k d is).fair (true, r)).now }

-- what a filtered reader finds fairly where the filter lets all pass
unfiltered : (owns : Content → Bool) (read : Content → Found) (s : DevState) (f : Content) → owns f ≡ true → ((m : Content) → Meant s.story m → owns m ≡ true) → Fair (λ h. cond (owns h) (read h) None) s.story f → Fair read s.story f
unfiltered owns read s f here meant fair = record {
  found = elim fair.found [
    | inl none ↦ inl (sym (passes f here) ∙ none)
    | inr like ↦ inr (like.0, like.1, sym (passes f here) ∙ like.2 ∙ passes like.0 (meant like.0 like.1))
  ];
}
  where
    passes : (h : Content) → owns h ≡ true → cond (owns h) (read h) None ≡ read h
    passes h is = ap (λ (b : Bool). cond b (read h) None) is

not_first : (k : ℕ) → nat_eq (suc k) 0 ≡ false
not_first k = grind (arith, nat_tests)

-- Where the pool owns its first device, filtered readers give what the bare ones ask.
pub owned_left : (pool : Area) (flex : FlexArea) (owns : Content → Bool) (devs : List Path) (first : Path) (s : State) (c : Image) → slice_get devs 0 ≡ Some first → Owned owns (s first)
    → LeftOn devs (owned_records pool flex owns) s c → LeftNow devs (records pool flex) s c
owned_left pool flex owns devs first s c head owned leaves zero d is = record { left = here.left; fair = fair }
  where
    here : LeavesFairly (owned_records pool flex owns 0) (s d) (c d)
    here = leaves 0 d is

    same : first ≡ d
    same = some_inj first d (sym head ∙ is)
      where
        some_inj : (a b : Path) → Some a ≡ Some b → a ≡ b
        some_inj a b e = cc

    owned_here : Owned owns (s d)
    owned_here = subst (λ (q : Path). Owned owns (s q)) same owned

    fair : (i : Bool × ℕ) → Fair (records pool flex 0 i) (s d).story (c d)
    fair (true, r) = (here.fair (true, r)).now
    fair (false, slot) = unfiltered owns (records pool flex 0 (false, slot)) (s d) (c d) (owned_here.left (c d) here.left) owned_here.meant (here.fair (false, slot)).now
owned_left pool flex owns devs first s c head owned leaves (suc k) d is = record { left = here.left; fair = fair }
  where
    here : LeavesFairly (owned_records pool flex owns (suc k)) (s d) (c d)
    here = leaves (suc k) d is

    fair : (i : Bool × ℕ) → Fair (records pool flex (suc k) i) (s d).story (c d)
    fair (true, r) = (here.fair (true, r)).now
    fair (false, slot) = record { found = inl (ap (λ (b : Bool). cond (b && nat_lt slot 2) (checkpoint_in flex slot (c d)) None) (not_first k)) }

-- A sync leaves nothing new.
pub none_new : (pool : Area) (flex : FlexArea) (owns : Content → Bool) (devs : List Path) (a s : State) (c : Image) → Settles a s → LeftOn devs (owned_records pool flex owns) s c → LeftOn devs (owned_records pool flex owns) a c
none_new pool flex owns devs a s c settles leaves k d is = left_settled (owned_records pool flex owns k) (a d) (s d) (c d) (settles d) (leaves k d is)
