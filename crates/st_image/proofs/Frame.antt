-- What a write and a sync on one device leave as it was.
use Rattle.std.proofs.Common.{◌≡◌, ◌⊎◌, inl, inr, ℕ, zero, suc, ◌+◌, ◌*◌, ◌<◌, ◌≤◌, Bool, true, false, ◌&&◌, ◌||◌, List, [], ◌∷◌, length, Some, refl, sym, ◌∙◌, ap, subst, arith}
use Rattle.std.specs.List.{slice_get}
use Rattle.std.specs.Str.{bytes_eq}
use Rattle.std.proofs.lemmas.Slice.Eq.{bytes_eq-Decides}
use Rattle.std.proofs.lemmas.Bool.{cases_Bool, cases_lt}
use Rattle.std.proofs.lemmas.Bool.Decides.{nat_tests}
use Rattle.st_rack.specs.Story.{Content, Story, Meant, within, put_in, latest}
use Rattle.st_rack.specs.Device.{Path, DevState, State, pending}
use Rattle.st_rack.specs.Moments.{OnDevice}
use Rattle.st_rack.specs.Steps.{Rewriting}
use Rattle.st_rack.proofs.Cells.{cells_same}
use Rattle.st_rack.proofs.Chance.{latest_meant}
use Rattle.st_rack.proofs.Look.{same_or_other}
use Rattle.st_rack.proofs.Pending.{within_below, within_above}
use Rattle.st_rack.proofs.Readers.{put_in_outside}
use Rattle.st_fields.specs.Slot.{sealed_of}
use Rattle.st_slots.specs.Reading.{of_place}
use Rattle.st_header.specs.Header.{copy_of}
use Rattle.st_image.specs.Looks.{Look, PoolSlot, Copy, Checkpoint, looks, looked_at, is_first, records_end, serial_found, pool_area, flex_area}
use Rattle.st_image.specs.Stands.{Range}
use Rattle.st_image.specs.Frame.{covers, Moved, StillRecords, Still, record_ranges}

-- what is looked at lies below the end of the records
pub local_look : (first : Bool) (l : Look) (f g : Content) → looked_at first l ≡ true → ((i : ℕ) → i < records_end first → f i ≡ g i) → looks l f ≡ looks l g
local_look first (PoolSlot r) f g at same = ap (λ (l : List ℕ). of_place r (sealed_of pool_area.magic l)) (cells_same f g (512 * (16 + r * 64)) 32768 (λ i low high. same i (in_it first i high)))
  where
    in_it : (first : Bool) (i : ℕ) → i < 512 * (16 + r * 64) + 32768 → i < records_end first
    in_it true i high = let lt : r < 2 = grind (arith, nat_tests) in omega (arith, high, lt)
    in_it false i high = let lt : r < 2 = grind (arith, nat_tests) in omega (arith, high, lt)
local_look first (Copy n k) f g at same = ap (λ (l : List ℕ). serial_found (copy_of n l)) (cells_same f g (512 * k) 512 (λ i low high. same i (in_it first i high)))
  where
    in_it : (first : Bool) (i : ℕ) → i < 512 * k + 512 → i < records_end first
    in_it true i high = let lt : k ≤ 9 = grind (arith, nat_tests) in omega (arith, high, lt)
    in_it false i high = let lt : k ≤ 9 = grind (arith, nat_tests) in omega (arith, high, lt)
local_look true (Checkpoint r) f g at same = ap (sealed_of flex_area.area.magic) (cells_same f g (512 * (256 + r * 1664)) 851968 (λ i low high. same i (in_it i high)))
  where
    in_it : (i : ℕ) → i < 512 * (256 + r * 1664) + 851968 → i < records_end true
    in_it i high = let lt : r < 2 = grind (arith, nat_tests) in omega (arith, high, lt)
local_look false (Checkpoint r) f g at same = absurd (cc)

module _ (first : Bool) where
  pub still_records_self : (a : DevState) → StillRecords first a a
  still_records_self a = record { same = λ i lt. refl; sure = λ i lt sure. sure; recalls = λ l at m meant. inl (m, meant, refl) }

  pub still_records_both : (a b c : DevState) → StillRecords first a b → StillRecords first b c → StillRecords first a c
  still_records_both a b c one two = record {
    same = λ i lt. two.same i lt ∙ one.same i lt;
    sure = λ i lt sure. two.sure i lt (one.sure i lt sure);
    recalls = λ l at m meant. elim (two.recalls l at m meant) [
      | inl before ↦ elim (one.recalls l at before.0 before.1) [
        | inl first_of ↦ inl (first_of.0, first_of.1, before.2 ∙ first_of.2)
        | inr held ↦ inr (before.2 ∙ held)
      ]
      | inr held ↦ inr (held ∙ local_look first l b.holds a.holds at one.same)
    ];
  }

  -- a write behind the records
  pub written_behind : (at : ℕ) (bytes : List ℕ) (a s : DevState) → records_end first ≤ at → Rewriting at bytes a s → StillRecords first a s
  written_behind at bytes a s behind step = record {
    same = λ i lt. step.changed.below i (omega (arith, lt, behind));
    sure = λ i lt sure. step.changed.sure_below i (omega (arith, lt, behind)) sure;
    recalls = λ l looked m meant. elim step.told [
      | inl same ↦ inl (m, subst (λ (y : Story). Meant y m) same meant, refl)
      | inr (inl wrote) ↦ wrote_one l looked m (subst (λ (y : Story). Meant y m) wrote meant)
      | inr (inr settled) ↦ inr (ap (looks l) (subst (λ (y : Story). Meant y m) settled.0 meant) ∙ local_look first l s.holds a.holds looked (λ i lt. step.changed.below i (omega (arith, lt, behind))))
    ];
  }
    where
      wrote_one : (l : Look) → looked_at first l ≡ true → (m : Content) → (m ≡ put_in at bytes (latest a.story)) ⊎ Meant a.story m → ((n : Content) × Meant a.story n × (looks l m ≡ looks l n)) ⊎ (looks l m ≡ looks l a.holds)
      wrote_one l looked m (inl is) = inl (
        latest a.story,
        latest_meant a.story,
        ap (looks l) is ∙ local_look first l (put_in at bytes (latest a.story)) (latest a.story) looked (λ i lt. put_in_outside at bytes (latest a.story) i (within_below at (length bytes) i (omega (arith, lt, behind)))),
      )
      wrote_one l looked m (inr meant) = inl (m, meant, refl)

module _ (devs : List Path) where
  pub still_self : (a : State) → Still devs a a
  still_self a k d is = still_records_self (is_first k) (a d)

  pub still_both : (a b c : State) → Still devs a b → Still devs b c → Still devs a c
  still_both a b c one two k d is = still_records_both (is_first k) (a d) (b d) (c d) (one k d is) (two k d is)

  pub still_step : (dev : Path) (at : ℕ) (bytes : List ℕ) (a s : State) → ((k : ℕ) → slice_get devs k ≡ Some dev → records_end (is_first k) ≤ at) → OnDevice dev (Rewriting at bytes) a s → Still devs a s
  still_step dev at bytes a s behind step k d is = elim (same_or_other d dev) [
    | inl e ↦ subst (λ (q : Path). StillRecords (is_first k) (a q) (s q)) (sym e) (written_behind (is_first k) at bytes (a dev) (s dev) (behind k (is ∙ ap (λ (q : Path). Some q) e)) step.here)
    | inr ne ↦ subst (λ (x : DevState). StillRecords (is_first k) (a d) x) (sym (step.others d ne)) (still_records_self (is_first k) (a d))
  ]

module _ (w : List Range) where
  pub moved_self : (a : State) → Moved w a a
  moved_self a = record { same = λ d i off. refl; sure = λ d i off sure. sure }

  pub moved_both : (a b c : State) → Moved w a b → Moved w b c → Moved w a c
  moved_both a b c one two = record { same = λ d i off. two.same d i off ∙ one.same d i off; sure = λ d i off sure. two.sure d i off (one.sure d i off sure) }

-- within more ranges
pub moved_more : (v w : List Range) (a s : State) → ((d : Path) (i : ℕ) → covers w d i ≡ false → covers v d i ≡ false) → Moved v a s → Moved w a s
moved_more v w a s more step = record { same = λ d i off. step.same d i (more d i off); sure = λ d i off sure. step.sure d i (more d i off) sure }

not_covered : (dev d : Path) (at n i : ℕ) → (bytes_eq dev d && within at n i || false) ≡ false → (d ≡ dev) → (i < at) ⊎ (at + n ≤ i)
not_covered dev d at n i off e = elim (cases_lt i at) [
  | inl low ↦ inl low
  | inr from ↦ elim (cases_lt i (at + n)) [
    | inl until ↦ let same = (bytes_eq-Decides dev d).1 (sym e) in absurd (grind (arith, nat_tests))
    | inr high ↦ inr high
  ]
]

pub moved_step : (dev : Path) (at : ℕ) (bytes : List ℕ) (a s : State) → OnDevice dev (Rewriting at bytes) a s → Moved ((dev, at, length bytes) ∷ []) a s
moved_step dev at bytes a s step = record {
  same = λ d i off. elim (same_or_other d dev) [
    | inl e ↦ subst (λ (q : Path). (s q).holds i ≡ (a q).holds i) (sym e) (same_here i (not_covered dev d at (length bytes) i off e))
    | inr ne ↦ ap (λ (x : DevState). x.holds i) (step.others d ne)
  ];
  sure = λ d i off sure. elim (same_or_other d dev) [
    | inl e ↦ subst (λ (q : Path). pending (s q) i ≡ false) (sym e) (sure_here i (not_covered dev d at (length bytes) i off e) (subst (λ (q : Path). pending (a q) i ≡ false) e sure))
    | inr ne ↦ ap (λ (x : DevState). pending x i) (step.others d ne) ∙ sure
  ];
}
  where
    same_here : (i : ℕ) → (i < at) ⊎ (at + length bytes ≤ i) → (s dev).holds i ≡ (a dev).holds i
    same_here i (inl low) = step.here.changed.below i low
    same_here i (inr high) = step.here.changed.above i high

    sure_here : (i : ℕ) → (i < at) ⊎ (at + length bytes ≤ i) → pending (a dev) i ≡ false → pending (s dev) i ≡ false
    sure_here i (inl low) sure = step.here.changed.sure_below i low sure
    sure_here i (inr high) sure = step.here.changed.sure_above i high sure

abbrev pub is_at : Bool → ℕ → Bool
is_at first zero = first
is_at first (suc k) = false

-- a byte behind the records is in no range of records
pub behind_records : (first : Bool) (devs : List Path) (d : Path) (i : ℕ) → ((k : ℕ) → slice_get devs k ≡ Some d → records_end (is_at first k) ≤ i) → covers (record_ranges first devs) d i ≡ false
behind_records first [] d i behind = refl
behind_records first (e ∷ ds) d i behind =
    let rest : covers (record_ranges false ds) d i ≡ false = behind_records false ds d i (λ k is. subst (λ (b : Bool). records_end b ≤ i) (later k) (behind (suc k) is)) in
    elim (cases_Bool (bytes_eq e d)) [
      | inl here ↦
          let same : e ≡ d = (bytes_eq-Decides e d).0 here in
          let off : within 0 (records_end first) i ≡ false = within_above 0 (records_end first) i (omega (arith, behind 0 (ap (λ (q : Path). Some q) same))) in
          (λ j. here j && off j || rest j)
      | inr there ↦ (λ j. there j && within 0 (records_end first) i || rest j)
    ]
  where
    later : (k : ℕ) → is_at first (suc k) ≡ is_at false k
    later zero = refl
    later (suc k) = refl
