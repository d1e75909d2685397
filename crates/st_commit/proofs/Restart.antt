-- What a start reads, after its syncs, a commit may go on from.
use Rattle.std.proofs.Common.{◌≡◌, inl, inr, ℕ, zero, suc, ◌%◌, ◌<◌, ◌≤◌, Bool, true, cond, nat_eq, List, [], ◌∷◌, Some, None, refl, sym, ◌∙◌, ap, subst, arith}
use Rattle.std.specs.List.{slice_get}
use Rattle.std.proofs.lemmas.Bool.{cases_Bool, cases_lt}
use Rattle.std.proofs.lemmas.Bool.Decides.{nat_tests}
use Rattle.st_fields.specs.Slot.{Found}
use Rattle.st_rack.specs.Story.{Content}
use Rattle.st_rack.specs.Device.{Path, State, Image, held}
use Rattle.st_slots.proofs.Places.{slot_is}
use Rattle.st_slots.specs.Reading.{read_slot}
use Rattle.st_slots.specs.declared.spot.Area.{Area}
use Rattle.st_deltalog.specs.declared.area.FlexArea.{FlexArea}
use Rattle.st_deltalog.specs.Log.{Log, serial_in, log_at}
use Rattle.st_deltalog.specs.Bearing.{IsSettled}
use Rattle.st_deltalog.proofs.Restart.{rests_read}
use Rattle.st_commit.specs.Standing.{keep, newest_over, AreOne}
use Rattle.st_commit.specs.Ready.{IsOf, Ranked, AllSlots, HeldSlots, Ready}
use Rattle.st_commit.specs.Reading.{pick, history}
use Rattle.st_commit.specs.Repair.{Newest}
use Rattle.st_commit.proofs.Over.{over_all, over_least}
use Rattle.st_commit.proofs.Steps.{keep_is}

some_same : {A : Type 0} (a b : A) → Some a ≡ Some b → a ≡ b
some_same a b e = cc

none_some : {A : Type 0} (a : A) → None ≡ Some a → ⊥
none_some a e = cc

pick_is : (n : ℕ) (y : List ℕ) (o : Found) (rest : List ℕ) → ((z : ℕ × List ℕ) → o ≡ Some z → z.0 ≡ n → z.1 ≡ y) → rest ≡ y → pick n o rest ≡ y
pick_is n y None rest all same = same
pick_is n y (Some z) rest all same = elim (cases_Bool (nat_eq z.0 n)) [
  | inl hit ↦ ap (λ (b : Bool). cond b z.1 rest) hit ∙ all z refl (eq_of z.0 n hit)
  | inr miss ↦ ap (λ (b : Bool). cond b z.1 rest) miss ∙ same
]
  where
    eq_of : (a b : ℕ) → nat_eq a b ≡ true → a ≡ b
    eq_of a b is = grind (arith, nat_tests)

pick_hit : (n : ℕ) (y : List ℕ) (o : Found) (rest : List ℕ) (x : ℕ × List ℕ) → o ≡ Some x → x.0 ≡ n → x.1 ≡ y → pick n o rest ≡ y
pick_hit n y o rest x is same body =
    ap (λ (q : Found). pick n q rest) is ∙ ap (λ (b : Bool). cond b x.1 rest) (eq_true x.0 n same) ∙ body
  where
    eq_true : (a b : ℕ) → a ≡ b → nat_eq a b ≡ true
    eq_true a b is = grind (arith, nat_tests)

module _ (pool : Area) (p : ℕ) (c : Image) where
  history_is : (devs : List Path) (n : ℕ) (y : List ℕ) → ((d : Path) → IsOf devs d → (r : ℕ) → r < 2 → (z : ℕ × List ℕ) → keep p (read_slot pool r (c d)) ≡ Some z → z.0 ≡ n → z.1 ≡ y)
      → (d : Path) (k r : ℕ) → slice_get devs k ≡ Some d → r < 2 → (x : ℕ × List ℕ) → keep p (read_slot pool r (c d)) ≡ Some x → x.0 ≡ n → history pool p devs c n ≡ y
  history_is [] n y all d k r is lt x found same = absurd (cc)
  history_is (e ∷ ds) n y all d zero r is lt x found same =
      let there : e ≡ d = some_same e d is in
      let own : keep p (read_slot pool r (c e)) ≡ Some x = ap (λ (q : Path). keep p (read_slot pool r (c q))) there ∙ found in
      let here : IsOf (e ∷ ds) e = record { index = 0; is = refl } in
      let body : x.1 ≡ y = all e here r lt x own same in
      elim (cases_lt r 1) [
        | inl below ↦
            let z : r ≡ 0 = omega arith in
            pick_hit n y (keep p (read_slot pool 0 (c e))) (pick n (keep p (read_slot pool 1 (c e))) (history pool p ds c n)) x (subst (λ (j : ℕ). keep p (read_slot pool j (c e)) ≡ Some x) z own) same body
        | inr from ↦
            let o : r ≡ 1 = omega arith in
            pick_is n y (keep p (read_slot pool 0 (c e))) (pick n (keep p (read_slot pool 1 (c e))) (history pool p ds c n)) (all e here 0 (omega arith))
            (pick_hit n y (keep p (read_slot pool 1 (c e))) (history pool p ds c n) x (subst (λ (j : ℕ). keep p (read_slot pool j (c e)) ≡ Some x) o own) same body)
      ]
  history_is (e ∷ ds) n y all d (suc k) r is lt x found same =
      let here : IsOf (e ∷ ds) e = record { index = 0; is = refl } in
      pick_is n y (keep p (read_slot pool 0 (c e))) (pick n (keep p (read_slot pool 1 (c e))) (history pool p ds c n)) (all e here 0 (omega arith))
      (pick_is n y (keep p (read_slot pool 1 (c e))) (history pool p ds c n) (all e here 1 (omega arith))
      (history_is ds n y (λ q of. all q (record { index = suc of.index; is = of.is })) d k r is lt x found same))

  -- each slot of the serial tells its part of the history
  pub tells : (devs : List Path) → AreOne pool p devs c → (d : Path) → IsOf devs d → (r : ℕ) → r < 2 → (x : ℕ × List ℕ) → keep p (read_slot pool r (c d)) ≡ Some x → history pool p devs c x.0 ≡ x.1
  tells devs one d of r lt x found =
      history_is devs x.0 x.1 (λ e of_e q lt_q z found_z same. one of_e.index of.index e d of_e.is of.is q r lt_q lt z x found_z found same) d of.index r of.is lt x found refl

  -- and has no greater generation than the newest
  pub below_newest : (devs : List Path) (g : ℕ) (rec : List ℕ) → newest_over pool p devs c ≡ Some (g, rec) → (d : Path) → IsOf devs d → (r : ℕ) → r < 2 → (x : ℕ × List ℕ) → keep p (read_slot pool r (c d)) ≡ Some x → x.0 ≤ g
  below_newest devs g rec newest d of r lt x found =
      let least = over_least pool p c x.0 devs d of.index r of.is lt (record { one = x; is = found; from = omega arith }) in
      let same : least.one ≡ (g, rec) = some_same least.one (g, rec) (sym least.is ∙ newest) in
      let number : least.one.0 ≡ g = ap (λ (y : ℕ × List ℕ). y.0) same in
      let from = least.from in
      omega arith

  pub none_of : (devs : List Path) → newest_over pool p devs c ≡ None → (d : Path) → IsOf devs d → (r : ℕ) → r < 2 → (x : ℕ × List ℕ) → ¬ (keep p (read_slot pool r (c d)) ≡ Some x)
  none_of devs newest d of r lt x found =
      let least = over_least pool p c x.0 devs d of.index r of.is lt (record { one = x; is = found; from = omega arith }) in
      none_some least.one (sym newest ∙ least.is)

  serial_of : (o : Found) (x : ℕ × List ℕ) → keep p o ≡ Some x → serial_in x.1 ≡ p
  serial_of None x is = absurd (none_some x is)
  serial_of (Some y) x is = elim (cases_Bool (nat_eq (serial_in y.1) p)) [
    | inl hit ↦
        let same : y ≡ x = some_same y x (sym (ap (λ (b : Bool). cond b (Some y) None) hit) ∙ is) in
        subst (λ (z : ℕ × List ℕ). serial_in z.1 ≡ p) same (eq_of (serial_in y.1) p hit)
    | inr miss ↦ absurd (none_some x (sym (ap (λ (b : Bool). cond b (Some y) None) miss) ∙ is))
  ]
    where
      eq_of : (a b : ℕ) → nat_eq a b ≡ true → a ≡ b
      eq_of a b is = grind (arith, nat_tests)

  -- the newest is of the history, and of the serial
  pub newest_told : (devs : List Path) (g : ℕ) (rec : List ℕ) → AreOne pool p devs c → newest_over pool p devs c ≡ Some (g, rec) → (history pool p devs c g ≡ rec) × (serial_in rec ≡ p)
  newest_told devs g rec one newest =
      over_all pool p c (λ o. (x : ℕ × List ℕ) → o ≡ Some x → (history pool p devs c x.0 ≡ x.1) × (serial_in x.1 ≡ p)) devs (λ x e. absurd (none_some x e))
      (λ d of r lt x found. (tells devs one d of r lt x found, serial_of (read_slot pool r (c d)) x found)) (g, rec) newest

-- a record stands in its place on a device of the list
pub record Somewhere (pool : Area) (c : Image) (devs : List Path) (x : ℕ × List ℕ) : Type 0 where
  pub device : Path
  pub of : IsOf devs device
  pub reads : read_slot pool (x.0 % 2) (c device) ≡ Some x

pub somewhere : (pool : Area) (p : ℕ) (c : Image) (devs : List Path) (x : ℕ × List ℕ) → newest_over pool p devs c ≡ Some x → Somewhere pool c devs x
somewhere pool p c devs x newest =
    over_all pool p c (λ o. (y : ℕ × List ℕ) → o ≡ Some y → Somewhere pool c devs y) devs (λ y e. absurd (none_some y e))
    (λ d of r lt y found.
    (let there = keep_is p (read_slot pool r (c d)) y found in
    let place = (slot_is pool r (c d) y there).1 in
    record { device = d; of = of; reads = subst (λ (k : ℕ). read_slot pool k (c d) ≡ Some y) (sym place) there })) x newest

module _ (pool : Area) (p : ℕ) (devs : List Path) (s : State) (settled : (d : Path) → IsOf devs d → IsSettled (s d)) where
  pub all_of_held : (P : Found → Type 0) → HeldSlots pool devs P s → AllSlots pool devs P s
  all_of_held P held_all d of r lt m meant = subst (λ (f : Content). P (read_slot pool r f)) (sym ((settled d of).meant m meant)) (held_all d of r lt)

  -- the newest record stands in a slot of a device
  pub newest_read : (g : ℕ) (rec : List ℕ) → AreOne pool p devs (held s) → newest_over pool p devs (held s) ≡ Some (g, rec) → (bearer : Path) × Newest pool p (history pool p devs (held s)) devs bearer g rec s
  newest_read g rec one newest =
      let there = somewhere pool p (held s) devs (g, rec) newest in
      let told = newest_told pool p (held s) devs g rec one newest in
      let ranked : HeldSlots pool devs (Ranked p (history pool p devs (held s)) g) s =
      (λ d of_d r lt x found. (below_newest pool p (held s) devs g rec newest d of_d r lt x found, tells pool p (held s) devs one d of_d r lt x found)) in (
        there.device,
        record {
          slots = all_of_held (Ranked p (history pool p devs (held s)) g) ranked;
          held = ranked;
          is = told.0;
          serial = told.1;
          of = there.of;
          bears = record { sure = λ i low high. (settled there.device there.of).sure i; reads = there.reads };
        },
      )

module _ (pool : Area) (flex : FlexArea) (p : ℕ) (devs : List Path) (first : Path) (s : State) (settled : (d : Path) → IsOf devs d → IsSettled (s d)) where
  -- Where no slot of the serial is there, a first commit may be made.
  pub ready_new : (h : ℕ → List ℕ) → newest_over pool p devs (held s) ≡ None → Ready pool flex p 0 h devs first 0 None s
  ready_new h newest =
      let ranked : HeldSlots pool devs (Ranked p h 0) s = (λ d of r lt x found. absurd (none_of pool p (held s) devs newest d of r lt x found)) in
      record { slots = all_of_held pool p devs s settled (Ranked p h 0) ranked; held = ranked; base = refl }

  -- Where the first device bears the newest record and the log of its generation, the pool is ready; for the next generation a
  -- checkpoint has to be written.
  pub ready_read : slice_get devs 0 ≡ Some first → (g : ℕ) (rec : List ℕ) (log : Log) → AreOne pool p devs (held s) → newest_over pool p devs (held s) ≡ Some (g, rec) → read_slot pool (g % 2) (s first).holds ≡ Some (g, rec)
      → log_at flex p g (s first).holds ≡ Some log → Ready pool flex p g (history pool p devs (held s)) devs first g (Some log) s
  ready_read head g rec log one newest bears logged =
      let of : IsOf devs first = record { index = 0; is = head } in
      let told = newest_told pool p (held s) devs g rec one newest in
      let ranked : HeldSlots pool devs (Ranked p (history pool p devs (held s)) g) s =
      (λ d of_d r lt x found. (below_newest pool p (held s) devs g rec newest d of_d r lt x found, tells pool p (held s) devs one d of_d r lt x found)) in
      record {
        slots = all_of_held pool p devs s settled (Ranked p (history pool p devs (held s)) g) ranked;
        held = ranked;
        base = (
          record { sure = λ i low high. (settled first of).sure i; reads = bears ∙ ap (λ (b : List ℕ). Some (g, b)) (sym told.0) },
          rests_read flex p g log (s first) (settled first of) logged,
          ap serial_in told.0 ∙ told.1,
        );
      }
