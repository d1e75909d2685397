-- What a reader finds where it looks, when something is written there or elsewhere.
use Rattle.std.proofs.Common.{◌≡◌, ◌⊎◌, inl, inr, ℕ, ◌+◌, ◌-◌, ◌≤◌, Bool, false, cond, List, length, get_or, Option, sym, ◌∙◌, ap, subst, arith}
use Rattle.st_rack.specs.Story.{Content, Story, within, put_in, latest, Meant}
use Rattle.st_rack.specs.Device.{Path, DevState, State, Image, MayLeave, cells}
use Rattle.st_rack.specs.Steps.{Changed, Rewriting}
use Rattle.st_rack.specs.Readers.{Local, AllMeant, SureIn}
use Rattle.st_rack.proofs.Cells.{cells_is}
use Rattle.st_rack.proofs.Chance.{latest_meant}
use Rattle.st_rack.proofs.Pending.{within_below, within_above, within_inside}

-- where the bytes are sure, whatever a crash leaves is read as what is held
pub read_sure : {X : Type 0} (read : Content → Option X) (a n : ℕ) → Local read a n → (s : State) (dev : Path) (c : Image) → SureIn a n (s dev) → MayLeave s c → read (c dev) ≡ read (s dev).holds
read_sure read a n looks s dev c sure left = looks.same (c dev) (s dev).holds (λ i low high. left dev i (sure i low high))

-- bytes that are put in stand there
pub put_in_given : (at : ℕ) (bytes : List ℕ) (f : Content) → cells (put_in at bytes f) at (length bytes) ≡ bytes
put_in_given at bytes f = cells_is (put_in at bytes f) at bytes (λ k lt.
    ap (λ (b : Bool). cond b (get_or bytes (at + k - at) 0) (f (at + k))) (within_inside at (length bytes) (at + k) (omega arith) (omega (arith, lt)))
    ∙ ap (λ (j : ℕ). get_or bytes j 0) (back k))
  where
    back : (k : ℕ) → at + k - at ≡ k
    back k = omega arith

pub put_in_outside : (at : ℕ) (bytes : List ℕ) (f : Content) (i : ℕ) → within at (length bytes) i ≡ false → put_in at bytes f i ≡ f i
put_in_outside at bytes f i out = ap (λ (b : Bool). cond b (get_or bytes (i - at) 0) (f i)) out

module _ {X : Type 0} (read : Content → Option X) (a n at : ℕ) (bytes : List ℕ) (looks : Local read a n) where
  -- a write elsewhere
  pub put_elsewhere : (f : Content) → (a + n ≤ at) ⊎ (at + length bytes ≤ a) → read (put_in at bytes f) ≡ read f
  put_elsewhere f (inl before) = looks.same (put_in at bytes f) f (λ i low high. put_in_outside at bytes f i (within_below at (length bytes) i (omega (arith, high, before))))
  put_elsewhere f (inr after) = looks.same (put_in at bytes f) f (λ i low high. put_in_outside at bytes f i (within_above at (length bytes) i (omega (arith, low, after))))

  pub held_elsewhere : (old new : DevState) → (a + n ≤ at) ⊎ (at + length bytes ≤ a) → Changed at (length bytes) old new → read new.holds ≡ read old.holds
  held_elsewhere old new (inl before) step = looks.same new.holds old.holds (λ i low high. step.below i (omega arith))
  held_elsewhere old new (inr after) step = looks.same new.holds old.holds (λ i low high. step.above i (omega arith))

  pub sure_elsewhere : (old new : DevState) → (a + n ≤ at) ⊎ (at + length bytes ≤ a) → Changed at (length bytes) old new → SureIn a n old → SureIn a n new
  sure_elsewhere old new (inl before) step sure = λ i low high. step.sure_below i (omega arith) (sure i low high)
  sure_elsewhere old new (inr after) step sure = λ i low high. step.sure_above i (omega arith) (sure i low high)

  pub meant_elsewhere : (P : Option X → Type 0) (old new : DevState) → (a + n ≤ at) ⊎ (at + length bytes ≤ a) → Rewriting at bytes old new → P (read old.holds) → AllMeant read P old → AllMeant read P new
  meant_elsewhere P old new apart step holds all = elim step.told [
    | inl same ↦ subst (λ (y : Story). (m : Content) → Meant y m → P (read m)) (sym same) all
    | inr (inl wrote) ↦ subst (λ (y : Story). (m : Content) → Meant y m → P (read m)) (sym wrote) wrote_all
    | inr (inr settled) ↦ subst (λ (y : Story). (m : Content) → Meant y m → P (read m)) (sym settled.0)
        (λ m is. subst P (sym (ap read is ∙ held_elsewhere old new apart step.changed)) holds)
  ]
    where
      wrote_all : (m : Content) → (m ≡ put_in at bytes (latest old.story)) ⊎ Meant old.story m → P (read m)
      wrote_all m (inl is) = subst P (sym (ap read is ∙ put_elsewhere (latest old.story) apart)) (all (latest old.story) (latest_meant old.story))
      wrote_all m (inr meant) = all m meant

-- the bytes that are written are the ones that are read
pub meant_here : {X : Type 0} (read : Content → Option X) (at : ℕ) (bytes : List ℕ) (P : Option X → Type 0) (old new : DevState) → ((f : Content) → cells f at (length bytes) ≡ bytes → P (read f)) → Rewriting at bytes old new → AllMeant read P old → AllMeant read P new
meant_here read at bytes P old new good step all = elim step.told [
  | inl same ↦ subst (λ (y : Story). (m : Content) → Meant y m → P (read m)) (sym same) all
  | inr (inl wrote) ↦ subst (λ (y : Story). (m : Content) → Meant y m → P (read m)) (sym wrote) wrote_all
  | inr (inr settled) ↦ subst (λ (y : Story). (m : Content) → Meant y m → P (read m)) (sym settled.0)
      (λ m is. subst P (sym (ap read is)) (good new.holds settled.1))
]
  where
    wrote_all : (m : Content) → (m ≡ put_in at bytes (latest old.story)) ⊎ Meant old.story m → P (read m)
    wrote_all m (inl is) = subst P (sym (ap read is)) (good (put_in at bytes (latest old.story)) (put_in_given at bytes (latest old.story)))
    wrote_all m (inr meant) = all m meant
