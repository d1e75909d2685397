-- A change of a shelf, as its clock tells it; R is a rack with a past and a list of devices.
use Rattle.std.proofs.Common.{◌≡◌, inl, inr, ℕ, ◌+◌, ◌<◌, ◌≤◌, Bool, true, false, cond, nat_le, not, Option, Some, None, List, [], ◌∷◌, length, get_or, slice_set, refl, sym, ◌∙◌, ap, subst, arith}
use Rattle.std.specs.Str.{bytes_eq}
use Rattle.std.specs.List.{IsDistinct}
use Rattle.std.proofs.lemmas.Bool.{le-leb, cases_lt}
use Rattle.std.proofs.lemmas.Bool.Decides.{nat_tests}
use Rattle.st_rack.specs.Device.{Path, DevState, State}
use Rattle.st_rack.specs.Calls.{Devices, Has, Rises, names}
use Rattle.st_rack.specs.Moments.{Goes, OnDevice}
use Rattle.st_rack.specs.Parts.{Splits, Joins}
use Rattle.st_shelf.specs.Shelf.{look, rows_of, state_in, is_in, no_device, IsFirst, join_in}
use Rattle.st_shelf.specs.Past.{depth, was}
use Rattle.st_shelf.specs.declared.past.Past.{Past, Start, Then', Joined', Copied'}
use Rattle.st_shelf.proofs.Look.{look_first, look_set_same, look_set_other, sectors_look, has_in, not_in}
use Rattle.st_shelf.proofs.Leave.{keep, out, look-filter, count-listed}
use Rattle.st_shelf.proofs.Come.{look-join_in, length-join_in}

module _ {D : Type 0} (path : D → Path) (state : D → DevState) where
  -- the newest state is the one now
  pub was_now : (past : Past D) (now : State) (p : Path) → was path state past now (depth past) p ≡ now p
  was_now Start now p = refl
  was_now (Then' ds m past) now p =
      let after : nat_le (depth past + 1) (depth past) ≡ false = grind (arith, nat_tests) in
      ap (λ (b : Bool). cond b (was path state past (state_in path state ds.value.items) (depth past + 1) p) (now p)) after
  was_now (Joined' ds others m past) now p =
      let after : nat_le (depth past + 1) (depth past) ≡ false = grind (arith, nat_tests) in
      ap (λ (b : Bool). cond b (cond (is_in path others.value.items p) (state_in path state others.value.items p) (was path state past (state_in path state ds.value.items) (depth past + 1) p)) (now p)) after
  was_now (Copied' m n past) now p = was_now past now p

  -- it depends on the state now at this device alone
  pub was_same : (past : Past D) (k : ℕ) (p : Path) (one two : State) → one p ≡ two p → was path state past one k p ≡ was path state past two k p
  was_same Start k p one two same = same
  was_same (Then' ds m past) k p one two same = ap (λ (s : DevState). cond (nat_le k (depth past)) (was path state past (state_in path state ds.value.items) k p) s) same
  was_same (Joined' ds others m past) k p one two same =
      ap (λ (s : DevState). cond (nat_le k (depth past)) (cond (is_in path others.value.items p) (state_in path state others.value.items p) (was path state past (state_in path state ds.value.items) k p)) s) same
  was_same (Copied' m n past) k p one two same = was_same past k p one two same

  -- a change of one device
  pub one_device : (l : List D) (dev : Path) (i : ℕ) (v d : D) (P : DevState → DevState → Type 0) → IsFirst path l dev i → path v ≡ dev → P (state (get_or l i d)) (state v)
      → OnDevice dev P (state_in path state l) (state_in path state (slice_set l i v))
  one_device l dev i v d P first same step = record {
    here =
        subst (λ (s : DevState). P s (state_in path state (slice_set l i v) dev)) (sym (look_first path state no_device l dev i d first))
        (subst (λ (s : DevState). P (state (get_or l i d)) s) (sym (look_set_same path state no_device l dev i v first same)) step);
    others = λ p ne. look_set_other path state no_device l dev i v p first same ne;
  }

module _ {R D : Type 0} (past_of : R → Past D) (list_of : R → List D) (path : D → Path) (size : D → ℕ) (state : D → DevState) where
  abbrev pub clock : R → ℕ
  clock r = depth (past_of r)

  abbrev pub now_in : R → State
  now_in r = state_in path state (list_of r)

  abbrev pub states : R → ℕ → State
  states r = was path state (past_of r) (now_in r)

  abbrev pub rows : R → Devices
  rows r = rows_of path size (list_of r)

  pub at_now : (r : R) → states r (clock r) ≡ now_in r
  at_now r = λ i p. was_now path state (past_of r) (now_in r) p i

  module _ (old new : R) (longer : clock new ≡ clock old + 1)
      (remembers : (now : State) (k : ℕ) (p : Path) → was path state (past_of new) now k p ≡ cond (nat_le k (clock old)) (was path state (past_of old) (now_in old) k p) (now p)) where
    stays : (k : ℕ) (p : Path) → k ≤ clock old → states new k p ≡ states old k p
    stays k p le = remembers (now_in new) k p ∙ ap (λ (b : Bool). cond b (states old k p) (now_in new p)) (le-leb k (clock old) le)

    lasts : (k : ℕ) (p : Path) → clock old < k → states new k p ≡ now_in new p
    lasts k p lt =
        let after : nat_le k (clock old) ≡ false = grind (arith, nat_tests) in
        remembers (now_in new) k p ∙ ap (λ (b : Bool). cond b (states old k p) (now_in new p)) after

    pub goes : (step : State → State → Type 0) → step (now_in old) (now_in new) → Goes clock states step old new
    goes step h = record {
      later = omega (arith, longer);
      past = stays;
      since = λ k lt le.
          subst (λ (s : State). step s (states new k)) (sym (at_now old))
          (subst (λ (s : State). step (now_in old) s) (sym (λ i p. lasts k p lt i)) h);
    }

  pub ends : (old new : R) (step : State → State → Type 0) → step (now_in old) (now_in new) → step (states old (clock old)) (states new (clock new))
  ends old new step h =
      subst (λ (s : State). step s (states new (clock new))) (sym (at_now old))
      (subst (λ (s : State). step (now_in old) s) (sym (at_now new)) h)

  pub ends_at : (old new : R) (dev : Path) (step : DevState → DevState → Type 0) → step (now_in old dev) (now_in new dev) → step (states old (clock old) dev) (states new (clock new) dev)
  ends_at old new dev step h = ends old new (λ a b. step (a dev) (b dev)) h

  pub length-rows : (l : List D) → length (rows_of path size l) ≡ length l
  length-rows [] = refl
  length-rows (x ∷ l) = omega (arith, length-rows l)

  turned : {A : Type 0} (b : Bool) (x y : A) → cond (not b) x y ≡ cond b y x
  turned true x y = refl
  turned false x y = refl

  module _ (list : List Path) (old rest part : R) (stay : list_of rest ≡ keep path (names list) (list_of old)) (go : list_of part ≡ out path (names list) (list_of old)) where
    pub look_stay : {A : Type 0} (f : D → A) (none : A) (p : Path) → look path f none (list_of rest) p ≡ cond (names list p) none (look path f none (list_of old) p)
    look_stay f none p =
        ap (λ (l : List D). look path f none l p) stay ∙ look-filter path f none (λ (q : Path). not (names list q)) (list_of old) p
        ∙ turned (names list p) (look path f none (list_of old) p) none

    pub look_go : {A : Type 0} (f : D → A) (none : A) (p : Path) → look path f none (list_of part) p ≡ cond (names list p) (look path f none (list_of old) p) none
    look_go f none p = ap (λ (l : List D). look path f none l p) go ∙ look-filter path f none (names list) (list_of old) p

    pub splits : past_of rest ≡ past_of old → clock part ≡ clock old → ((now : State) (k : ℕ) (p : Path) → was path state (past_of part) now k p ≡ was path state (past_of old) now k p)
        → length (list_of rest) + length (list_of part) ≡ length (list_of old) → Rises (rows old) → IsDistinct bytes_eq list → ((p : Path) → names list p ≡ true → (n : ℕ) × Has (rows old) p n)
        → Splits rows clock states list old rest part
    splits same_past same_clock same_was total rises distinct there = record {
      stay = λ p.
          sectors_look path size (list_of rest) p ∙ look_stay (λ d. Some (size d)) None p
          ∙ ap (λ (o : Option ℕ). cond (names list p) None o) (sym (sectors_look path size (list_of old) p));
      go = λ p.
          sectors_look path size (list_of part) p ∙ look_go (λ d. Some (size d)) None p
          ∙ ap (λ (o : Option ℕ). cond (names list p) o None) (sym (sectors_look path size (list_of old) p));
      count = omega (arith, total, length-rows (list_of rest), length-rows (list_of part), length-rows (list_of old));
      listed = length-rows (list_of part) ∙ ap (λ (l : List D). length l) go
          ∙ count-listed path size list (list_of old) rises distinct (λ p named. (let has = there p named in has_in path size (list_of old) p has.0 has.1));
      clock = ap depth same_past;
      clock_gone = same_clock;
      states = λ k p here le.
          (λ i. was path state (same_past i) (now_in rest) k p)
          ∙ was_same path state (past_of old) k p (now_in rest) (now_in old) (look_stay state no_device p ∙ ap (λ (b : Bool). cond b no_device (now_in old p)) here);
      states_gone = λ k p gone le.
          same_was (now_in part) k p
          ∙ was_same path state (past_of old) k p (now_in part) (now_in old) (look_go state no_device p ∙ ap (λ (b : Bool). cond b (now_in old p) no_device) gone);
    }

  module _ (old other new : R) (longer : clock new ≡ clock old + 1)
      (remembers : (now : State) (k : ℕ) (p : Path) → was path state (past_of new) now k p
      ≡ cond (nat_le k (clock old)) (cond (is_in path (list_of other) p) (now_in other p) (states old k p)) (now p))
      (joined : list_of new ≡ join_in path (list_of old) (list_of other)) where
    pub look_join : {A : Type 0} (f : D → A) (none : A) (p : Path) → look path f none (list_of new) p ≡ cond (is_in path (list_of other) p) (look path f none (list_of other) p) (look path f none (list_of old) p)
    look_join f none p = ap (λ (l : List D). look path f none l p) joined ∙ look-join_in path f none (list_of old) (list_of other) p

    early : (k : ℕ) (p : Path) → k ≤ clock old → states new k p ≡ cond (is_in path (list_of other) p) (now_in other p) (states old k p)
    early k p le = remembers (now_in new) k p ∙ ap (λ (b : Bool). cond b (cond (is_in path (list_of other) p) (now_in other p) (states old k p)) (now_in new p)) (le-leb k (clock old) le)

    late : (k : ℕ) (p : Path) → clock old < k → states new k p ≡ now_in new p
    late k p lt =
        let after : nat_le k (clock old) ≡ false = grind (arith, nat_tests) in
        remembers (now_in new) k p ∙ ap (λ (b : Bool). cond b (cond (is_in path (list_of other) p) (now_in other p) (states old k p)) (now_in new p)) after

    pub joins : Joins rows clock states old other new
    joins = record {
      own = λ p none.
          sectors_look path size (list_of new) p ∙ look_join (λ d. Some (size d)) None p
          ∙ ap (λ (b : Bool). cond b (look path (λ d. Some (size d)) None (list_of other) p) (look path (λ d. Some (size d)) None (list_of old) p)) (not_in path size (list_of other) p none)
          ∙ sym (sectors_look path size (list_of old) p);
      others = λ p n has.
          sectors_look path size (list_of new) p ∙ look_join (λ d. Some (size d)) None p
          ∙ ap (λ (b : Bool). cond b (look path (λ d. Some (size d)) None (list_of other) p) (look path (λ d. Some (size d)) None (list_of old) p)) (has_in path size (list_of other) p n has)
          ∙ sym (sectors_look path size (list_of other) p) ∙ has;
      count = length-rows (list_of new) ∙ ap (λ (l : List D). length l) joined ∙ omega (arith, length-join_in path (list_of old) (list_of other), length-rows (list_of old), length-rows (list_of other));
      later = omega (arith, longer);
      states = λ k p none le. early k p le ∙ ap (λ (b : Bool). cond b (now_in other p) (states old k p)) (not_in path size (list_of other) p none);
      since = λ k p none lt le.
          late k p lt ∙ look_join state no_device p ∙ ap (λ (b : Bool). cond b (now_in other p) (now_in old p)) (not_in path size (list_of other) p none)
          ∙ sym (was_now path state (past_of old) (now_in old) p);
      states_others = λ k p n has le. others_at k p (has_in path size (list_of other) p n has);
    }
      where
        others_at : (k : ℕ) (p : Path) → is_in path (list_of other) p ≡ true → states new k p ≡ states other (clock other) p
        others_at k p there = elim (cases_lt (clock old) k) [
          | inl lt ↦ late k p lt ∙ look_join state no_device p ∙ ap (λ (b : Bool). cond b (now_in other p) (now_in old p)) there ∙ sym (was_now path state (past_of other) (now_in other) p)
          | inr le ↦ early k p le ∙ ap (λ (b : Bool). cond b (now_in other p) (states old k p)) there ∙ sym (was_now path state (past_of other) (now_in other) p)
        ]
