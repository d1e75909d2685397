-- What is read as a log of a device on which all is settled, rests.
use Rattle.std.proofs.Common.{◌≡◌, ◌⊎◌, inl, inr, ℕ, zero, suc, ◌+◌, ◌-◌, ◌*◌, ◌<◌, ◌≤◌, Bool, true, false, ◌&&◌, cond, nat_le, nat_lt, nat_eq, List, [], ◌∷◌, length, Option, Some, None, refl, sym, ◌∙◌, ap, subst, arith}
use Rattle.std.proofs.lemmas.Bool.{cases_Bool, cases_lt}
use Rattle.std.proofs.lemmas.Bool.Decides.{nat_tests}
use Rattle.std.proofs.Math.Nat.{mul-le-mul_right}
use Rattle.st_fields.specs.Slot.{Found, sector_of}
use Rattle.st_rack.specs.Story.{Content, Story, Meant, unsettled}
use Rattle.st_rack.specs.Device.{DevState, cells, Synced, Cut}
use Rattle.st_deltalog.specs.declared.area.FlexArea.{FlexArea}
use Rattle.st_deltalog.specs.Log.{Log, serial_in, sectors_of, checkpoint_in, sector_at, delta_in, body_at, put_on, deltas_in, usable, begun, later, with_deltas, followed, log_at}
use Rattle.st_deltalog.specs.Bearing.{other, Loses, Holds, Rests, IsSettled}
use Rattle.st_deltalog.proofs.Reading.{usable_is, delta_same}
use Rattle.st_slots.proofs.Texts.{looks_in}

-- what is usable was found
pub record IsUsable (p g : ℕ) (o : Found) (x : ℕ × List ℕ) : Type 0 where
  pub found : o ≡ Some x
  pub serial : serial_in x.1 ≡ p
  pub until : x.0 ≤ g

both_true : (a b : Bool) → (a && b) ≡ true → (a ≡ true) × (b ≡ true)
both_true true b is = (refl, is)
both_true false b is = absurd (cc)

le_of : (a b : ℕ) → nat_le a b ≡ true → a ≤ b
le_of a b is = grind (arith, nat_tests)

eq_of : (a b : ℕ) → nat_eq a b ≡ true → a ≡ b
eq_of a b is = grind (arith, nat_tests)

some_same : {A : Type 0} (a b : A) → Some a ≡ Some b → a ≡ b
some_same a b e = cc

none_some : {A : Type 0} (a : A) → None ≡ Some a → ⊥
none_some a e = cc

pub usable_found : (p g : ℕ) (o : Found) (x : ℕ × List ℕ) → usable p g o ≡ Some x → IsUsable p g o x
usable_found p g None x is = absurd (none_some x is)
usable_found p g (Some y) x is = elim (cases_Bool (nat_eq (serial_in y.1) p && nat_le y.0 g)) [
  | inl good ↦
      let both = both_true (nat_eq (serial_in y.1) p) (nat_le y.0 g) good in
      let same : y ≡ x = some_same y x (sym (ap (λ (b : Bool). cond b (Some y) None) good) ∙ is) in
      subst (λ (z : ℕ × List ℕ). IsUsable p g (Some y) z) same (record { found = refl; serial = eq_of (serial_in y.1) p both.0; until = le_of y.0 g both.1 })
  | inr bad ↦ absurd (none_some x (sym (ap (λ (b : Bool). cond b (Some y) None) bad) ∙ is))
]

-- a checkpoint is taken from one of the slots, and the other one loses
pub record IsTaken (a b : Found) (log : Log) : Type 0 where
  pub slot : ℕ
  pub x : ℕ × List ℕ
  pub log_is : log ≡ begun slot x
  pub of_two : (slot ≡ 0) × (a ≡ Some x) × ((y : ℕ × List ℕ) → b ≡ Some y → y.0 < x.0 + slot) ⊎ (slot ≡ 1) × (b ≡ Some x) × ((y : ℕ × List ℕ) → a ≡ Some y → y.0 < x.0 + slot)

pub later_taken : (a b : Found) (log : Log) → later a b ≡ Some log → IsTaken a b log
later_taken None None log is = absurd (none_some log is)
later_taken (Some x) None log is = record { slot = 0; x = x; log_is = sym (some_same (begun 0 x) log is); of_two = inl (refl, refl, λ y e. absurd (none_some y e)) }
later_taken None (Some y) log is = record { slot = 1; x = y; log_is = sym (some_same (begun 1 y) log is); of_two = inr (refl, refl, λ x e. absurd (none_some x e)) }
later_taken (Some x) (Some y) log is = elim (cases_Bool (nat_lt y.0 x.0)) [
  | inl less ↦ record {
    slot = 0;
    x = x;
    log_is = sym (some_same (begun 0 x) log (sym (ap (λ (b : Bool). cond b (Some (begun 0 x)) (Some (begun 1 y))) less) ∙ is));
    of_two = inl (refl, refl, λ z e. subst (λ (w : ℕ × List ℕ). w.0 < x.0 + 0) (some_same y z e) (lt_of y.0 x.0 less));
  }
  | inr not_less ↦ record {
    slot = 1;
    x = y;
    log_is = sym (some_same (begun 1 y) log (sym (ap (λ (b : Bool). cond b (Some (begun 0 x)) (Some (begun 1 y))) not_less) ∙ is));
    of_two = inr (refl, refl, λ z e. subst (λ (w : ℕ × List ℕ). w.0 < y.0 + 1) (some_same x z e) (ge_of y.0 x.0 not_less));
  }
]
  where
    lt_of : (a b : ℕ) → nat_lt a b ≡ true → a < b + 0
    lt_of a b is = grind (arith, nat_tests)

    ge_of : (a b : ℕ) → nat_lt a b ≡ false → b < a + 1
    ge_of a b is = grind (arith, nat_tests)

pub deltas_count : (flex : FlexArea) (slot m c n : ℕ) (f : Content) (ds : List (List ℕ)) → deltas_in flex slot m c n f ≡ Some ds → length ds ≡ n
deltas_count flex slot m c zero f ds is = ap (λ (l : List (List ℕ)). length l) (sym (some_same [] ds is))
deltas_count flex slot m c (suc n) f ds is = counted (body_at (c + suc n) (delta_in flex slot (m + n) f)) (deltas_in flex slot m c n f) (λ rest e. deltas_count flex slot m c n f rest e) ds is
  where
    counted : (o : Option (List ℕ)) (r : Option (List (List ℕ))) → ((rest : List (List ℕ)) → r ≡ Some rest → length rest ≡ n) → (ds : List (List ℕ)) → put_on o r ≡ Some ds → length ds ≡ suc n
    counted None r each ds is = absurd (none_some ds is)
    counted (Some b) None each ds is = absurd (none_some ds is)
    counted (Some b) (Some rest) each ds is = ap (λ (l : List (List ℕ)). length l) (sym (some_same (b ∷ rest) ds is)) ∙ ap suc (each rest refl)

module _ (flex : FlexArea) (p g : ℕ) (f : Content) where
  loses_from : (slot : ℕ) (x : ℕ × List ℕ) (o : Found) → ((y : ℕ × List ℕ) → usable p g o ≡ Some y → y.0 < x.0 + slot) → Loses p g slot x.0 o
  loses_from slot x o below y is serial until = below y (ap (usable p g) is ∙ usable_is p g y serial until)

  -- what is held of a log, and that the other slot loses
  abbrev Both : Log → Type 0
  Both log = Holds flex p g log f × Loses p g log.slot log.start (checkpoint_in flex (other log.slot) f)

  with_rest : (slot : ℕ) (x : ℕ × List ℕ) → slot < 2 → IsUsable p g (checkpoint_in flex slot f) x → Loses p g slot x.0 (checkpoint_in flex (other slot) f) → (log : Log)
      → with_deltas (begun slot x) (deltas_in flex slot (sectors_of x.1) x.0 (g - x.0) f) ≡ Some log → Both log
  with_rest slot x two right loses log is = split (deltas_in flex slot (sectors_of x.1) x.0 (g - x.0) f) refl is
    where
      split : (r : Option (List (List ℕ))) → deltas_in flex slot (sectors_of x.1) x.0 (g - x.0) f ≡ r → with_deltas (begun slot x) r ≡ Some log → Both log
      split None e is = absurd (none_some log is)
      split (Some ds) e is =
          let until = right.until in
          let count : length ds ≡ g - x.0 = deltas_count flex slot (sectors_of x.1) x.0 (g - x.0) f ds e in
          let whole : Log = record { slot = slot; start = x.0; body = x.1; deltas = ds } in
          subst Both (some_same whole log is)
          (record { of_two = two; serial = right.serial; counted = omega arith; checkpoint = right.found; deltas = ap (λ (k : ℕ). deltas_in flex slot (sectors_of x.1) x.0 k f) count ∙ e }, loses)

  pub log_both : (log : Log) → log_at flex p g f ≡ Some log → Both log
  unfolding log_at
  log_both log is = begin_with (later (usable p g (checkpoint_in flex 0 f)) (usable p g (checkpoint_in flex 1 f))) refl is
    where
      begin_with : (o : Option Log) → later (usable p g (checkpoint_in flex 0 f)) (usable p g (checkpoint_in flex 1 f)) ≡ o → followed flex g f o ≡ Some log → Both log
      begin_with None e is = absurd (none_some log is)
      begin_with (Some first) e is =
          let taken = later_taken (usable p g (checkpoint_in flex 0 f)) (usable p g (checkpoint_in flex 1 f)) first e in
          let there : followed flex g f (Some (begun taken.slot taken.x)) ≡ Some log = ap (λ (l : Log). followed flex g f (Some l)) (sym taken.log_is) ∙ is in
          elim taken.of_two [
            | inl zero_one ↦
                let s : 0 ≡ taken.slot = sym zero_one.0 in
                with_rest taken.slot taken.x (omega arith) (subst (λ (k : ℕ). IsUsable p g (checkpoint_in flex k f) taken.x) s (usable_found p g (checkpoint_in flex 0 f) taken.x zero_one.1))
                (subst (λ (k : ℕ). Loses p g taken.slot taken.x.0 (checkpoint_in flex k f)) (ap other s) (loses_from taken.slot taken.x (checkpoint_in flex 1 f) zero_one.2)) log there
            | inr one_one ↦
                let s : 1 ≡ taken.slot = sym one_one.0 in
                with_rest taken.slot taken.x (omega arith) (subst (λ (k : ℕ). IsUsable p g (checkpoint_in flex k f) taken.x) s (usable_found p g (checkpoint_in flex 1 f) taken.x one_one.1))
                (subst (λ (k : ℕ). Loses p g taken.slot taken.x.0 (checkpoint_in flex k f)) (ap other s) (loses_from taken.slot taken.x (checkpoint_in flex 0 f) one_one.2)) log there
          ]

-- So a start goes on from what it reads. A delta can't follow yet: `up` is the generation itself.
pub rests_read : (flex : FlexArea) (p g : ℕ) (log : Log) (s : DevState) → IsSettled s → log_at flex p g s.holds ≡ Some log → Rests flex p g g log s
rests_read flex p g log s settled is =
    let both = log_both flex p g s.holds log is in
    record {
      bears = record {
        holds = both.0;
        sure = λ i low high. settled.sure i;
        upto = omega arith;
        beside = λ m meant. subst (λ (f : Content). Loses p g log.slot log.start (checkpoint_in flex (other log.slot) f)) (sym (settled.meant m meant)) both.1;
      };
      held = both.1;
    }

-- After a sync, and after a power cut, all of a device is settled.
pub synced_settled : (a b : DevState) → Synced a b → IsSettled b
synced_settled a b synced = record {
  meant = λ m meant. subst (λ (y : Story). Meant y m) synced.told meant ∙ sym synced.same;
  sure = λ i. ap (λ (y : Story). unsettled y i) synced.told;
}

pub cut_settled : (a b : DevState) → Cut a b → IsSettled b
cut_settled a b cut = record {
  meant = λ m meant. subst (λ (y : Story). Meant y m) cut.told meant;
  sure = λ i. ap (λ (y : Story). unsettled y i) cut.told;
}

-- A log is read from the area alone.
module _ (flex : FlexArea) (p g : ℕ) (f h : Content) (same : (i : ℕ) → 512 * flex.area.at ≤ i → i < 512 * (flex.area.at + 2 * flex.area.slot) → f i ≡ h i) where
  checkpoint_local : (slot : ℕ) → slot < 2 → checkpoint_in flex slot f ≡ checkpoint_in flex slot h
  checkpoint_local slot lt =
      let half : slot * flex.area.slot ≤ 1 * flex.area.slot = (let le : slot ≤ 1 = omega arith in mul-le-mul_right flex.area.slot le) in
      (looks_in flex.area slot).same f h (λ i low high. same i (omega (arith, low)) (omega (arith, high, half)))

  delta_local : (slot k : ℕ) → slot < 2 → delta_in flex slot k f ≡ delta_in flex slot k h
  delta_local slot k lt = elim (cases_lt k flex.area.slot) [
    | inl less ↦
        let half : slot * flex.area.slot ≤ 1 * flex.area.slot = (let le : slot ≤ 1 = omega arith in mul-le-mul_right flex.area.slot le) in
        delta_same flex slot k f h (λ i low high. same i (omega (arith, low)) (omega (arith, high, half, less)))
    | inr not_less ↦
        let no_less : nat_lt k flex.area.slot ≡ false = grind (arith, nat_tests) in
        ap (λ (b : Bool). cond b (sector_of flex.delta (cells f (sector_at flex slot k) 512)) None) no_less
        ∙ sym (ap (λ (b : Bool). cond b (sector_of flex.delta (cells h (sector_at flex slot k) 512)) None) no_less)
  ]

  deltas_local : (slot m c n : ℕ) → slot < 2 → deltas_in flex slot m c n f ≡ deltas_in flex slot m c n h
  deltas_local slot m c zero lt = refl
  deltas_local slot m c (suc n) lt = (λ i. put_on (body_at (c + suc n) (delta_local slot (m + n) lt i)) (deltas_local slot m c n lt i))

  pub log_local : log_at flex p g f ≡ log_at flex p g h
  unfolding log_at
  log_local =
      let first : later (usable p g (checkpoint_in flex 0 f)) (usable p g (checkpoint_in flex 1 f)) ≡ later (usable p g (checkpoint_in flex 0 h)) (usable p g (checkpoint_in flex 1 h)) =
      (λ i. later (usable p g (checkpoint_local 0 (omega arith) i)) (usable p g (checkpoint_local 1 (omega arith) i))) in
      ap (followed flex g f) first ∙ on (usable p g (checkpoint_in flex 0 h)) (usable p g (checkpoint_in flex 1 h))
    where
      on : (a b : Found) → followed flex g f (later a b) ≡ followed flex g h (later a b)
      on None None = refl
      on (Some x) None = ap (with_deltas (begun 0 x)) (deltas_local 0 (sectors_of x.1) x.0 (g - x.0) (omega arith))
      on None (Some y) = ap (with_deltas (begun 1 y)) (deltas_local 1 (sectors_of y.1) y.0 (g - y.0) (omega arith))
      on (Some x) (Some y) = choose (nat_lt y.0 x.0)
        where
          choose : (b : Bool) → followed flex g f (cond b (Some (begun 0 x)) (Some (begun 1 y))) ≡ followed flex g h (cond b (Some (begun 0 x)) (Some (begun 1 y)))
          choose true = ap (with_deltas (begun 0 x)) (deltas_local 0 (sectors_of x.1) x.0 (g - x.0) (omega arith))
          choose false = ap (with_deltas (begun 1 y)) (deltas_local 1 (sectors_of y.1) y.0 (g - y.0) (omega arith))
