-- Runs of writes and syncs within ranges.
use Rattle.std.proofs.Common.{Result, Ok, Err, OnOk, ◌≡◌, ◌⊎◌, inl, inr, ℕ, ◌+◌, ◌-◌, ◌<◌, ◌≤◌, Bool, true, false, ◌&&◌, ◌||◌, cond, List, [], ◌∷◌, ◌++◌, length, get_or, refl, sym, ◌∙◌, ap, subst, arith}
use Rattle.std.specs.Str.{bytes_eq}
use Rattle.std.proofs.lemmas.Bool.{cases_lt}
use Rattle.st_rack.specs.Story.{Content, Story, Meant, within, put_in, latest}
use Rattle.st_rack.specs.Device.{Path, DevState, State, Touched, Written, Settling, Synced, held}
use Rattle.st_rack.specs.Moments.{Goes, OnDevice}
use Rattle.st_rack.specs.Steps.{put_on}
use Rattle.st_rack.proofs.Cells.{get_or-cells}
use Rattle.st_rack.proofs.Chance.{latest_meant}
use Rattle.st_rack.proofs.Growth.{grows_self, grows_on, touched_grows, settling_grows}
use Rattle.st_rack.proofs.Look.{same_or_other, on_path, off_path}
use Rattle.st_rack.proofs.Moments.{goes_on, goes_weak, at_end}
use Rattle.st_rack.proofs.Pending.{within_below, within_above, within_inside, touched_outside, settling_sure}
use Rattle.st_rack.proofs.Readers.{put_in_outside}
use Rattle.st_ranges.specs.Ranges.{Range, covers, Recalls, Worked, Works}

module _ (w : ℕ → Bool) where
  pub worked_self : (a : DevState) → Worked w a a
  worked_self a = record {
    same = λ i off. refl;
    sure = λ i off sure. sure;
    told = λ m meant. record { from = m; known = inl meant; alike = λ i off. refl };
    grows = grows_self a.story;
  }

  recalls_both : (a b : DevState) → Worked w a b → (m : Content) → Recalls w b m → Recalls w a m
  recalls_both a b one m recalls = elim recalls.known [
    | inl meant ↦
        let before = one.told recalls.from meant in
        record { from = before.from; known = before.known; alike = λ i off. recalls.alike i off ∙ before.alike i off }
    | inr held ↦ record { from = a.holds; known = inr refl; alike = λ i off. recalls.alike i off ∙ ap (λ (f : Content). f i) held ∙ one.same i off }
  ]

  pub worked_both : (a b c : DevState) → Worked w a b → Worked w b c → Worked w a c
  worked_both a b c one two = record {
    same = λ i off. two.same i off ∙ one.same i off;
    sure = λ i off sure. two.sure i off (one.sure i off sure);
    told = λ m meant. recalls_both a b one m (two.told m meant);
    grows = grows_on a.story b.story c.story one.grows two.grows;
  }

  pub settling_works : (a b : DevState) → Settling a b → Worked w a b
  settling_works a b step = record {
    same = λ i off. ap (λ (f : Content). f i) step.same;
    sure = λ i off sure. settling_sure a b i step sure;
    told = λ m meant. elim step.told [
      | inl same ↦ record { from = m; known = inl (subst (λ (y : Story). Meant y m) same meant); alike = λ i off. refl }
      | inr settled ↦ record { from = a.holds; known = inr refl; alike = λ i off. ap (λ (f : Content). f i) (subst (λ (y : Story). Meant y m) settled meant) }
    ];
    grows = settling_grows a b step;
  }

-- within more bytes
pub worked_more : (v w : ℕ → Bool) (a b : DevState) → ((i : ℕ) → w i ≡ false → v i ≡ false) → Worked v a b → Worked w a b
worked_more v w a b more step = record {
  same = λ i off. step.same i (more i off);
  sure = λ i off sure. step.sure i (more i off) sure;
  told = λ m meant. (let r = step.told m meant in record { from = r.from; known = r.known; alike = λ i off. r.alike i (more i off) });
  grows = step.grows;
}

off_write : (at n i : ℕ) → within at n i ≡ false → (i < at) ⊎ (at + n ≤ i)
off_write at n i off = elim (cases_lt i at) [
  | inl low ↦ inl low
  | inr from ↦ elim (cases_lt i (at + n)) [ inl until ↦ absurd (let inside : within at n i ≡ true = within_inside at n i from until in cc) | inr high ↦ inr high ]
]

pub touched_works : (at : ℕ) (bytes : List ℕ) (a b : DevState) → Touched at bytes a b → Worked (within at (length bytes)) a b
touched_works at bytes a b step = record {
  same = λ i off. elim (off_write at (length bytes) i off) [ inl low ↦ step.below i low | inr high ↦ step.above i high ];
  sure = λ i off sure. touched_outside at bytes a b i step off ∙ sure;
  told = λ m meant. by m (subst (λ (y : Story). Meant y m) step.told meant);
  grows = touched_grows at bytes a b step;
}
  where
    by : (m : Content) → (m ≡ put_in at bytes (latest a.story)) ⊎ Meant a.story m → Recalls (within at (length bytes)) a m
    by m (inl is) = record {
      from = latest a.story;
      known = inl (latest_meant a.story);
      alike = λ i off. ap (λ (f : Content). f i) is ∙ put_in_outside at bytes (latest a.story) i off;
    }
    by m (inr before) = record { from = m; known = inl before; alike = λ i off. refl }

-- a byte outside the one range of a device
off_one : (dev : Path) (at n i : ℕ) → covers ((dev, at, n) ∷ []) dev i ≡ false → within at n i ≡ false
off_one dev at n i off =
    let here : bytes_eq dev dev ≡ true = on_path dev dev refl in
    sym (or_false (within at n i)) ∙ ap (λ (b : Bool). b && within at n i || false) (sym here) ∙ off
  where
    or_false : (b : Bool) → (b || false) ≡ b
    or_false true = refl
    or_false false = refl

module _ (dev : Path) (at : ℕ) (bytes : List ℕ) where
  pub works_write : (a b : State) → OnDevice dev (Touched at bytes) a b → Works ((dev, at, length bytes) ∷ []) a b
  works_write a b step p = elim (same_or_other p dev) [
    | inl e ↦ subst (λ (q : Path). Worked (covers ((dev, at, length bytes) ∷ []) q) (a q) (b q)) (sym e)
        (worked_more (within at (length bytes)) (covers ((dev, at, length bytes) ∷ []) dev) (a dev) (b dev) (off_one dev at (length bytes)) (touched_works at bytes (a dev) (b dev) step.here))
    | inr ne ↦ subst (λ (d : DevState). Worked (covers ((dev, at, length bytes) ∷ []) p) (a p) d) (sym (step.others p ne)) (worked_self (covers ((dev, at, length bytes) ∷ []) p) (a p))
  ]

module _ (rs : List Range) where
  pub works_self : (a : State) → Works rs a a
  works_self a p = worked_self (covers rs p) (a p)

  pub works_both : (a b c : State) → Works rs a b → Works rs b c → Works rs a c
  works_both a b c one two p = worked_both (covers rs p) (a p) (b p) (c p) (one p) (two p)

  pub works_sync : (dev : Path) (a b : State) → OnDevice dev Settling a b → Works rs a b
  works_sync dev a b step p = elim (same_or_other p dev) [
    | inl e ↦ subst (λ (q : Path). Worked (covers rs q) (a q) (b q)) (sym e) (settling_works (covers rs dev) (a dev) (b dev) step.here)
    | inr ne ↦ subst (λ (d : DevState). Worked (covers rs p) (a p) d) (sym (step.others p ne)) (worked_self (covers rs p) (a p))
  ]

pub works_more : (v w : List Range) (a b : State) → ((p : Path) (i : ℕ) → covers w p i ≡ false → covers v p i ≡ false) → Works v a b → Works w a b
works_more v w a b more step p = worked_more (covers v p) (covers w p) (a p) (b p) (more p) (step p)

pub covers-append : (v w : List Range) (p : Path) (i : ℕ) → covers (v ++ w) p i ≡ (covers v p i || covers w p i)
covers-append [] w p i = refl
covers-append (q ∷ v) w p i =
    ap (λ (b : Bool). bytes_eq q.0 p && within q.1 q.2 i || b) (covers-append v w p i) ∙ or_assoc (bytes_eq q.0 p && within q.1 q.2 i) (covers v p i) (covers w p i)
  where
    or_assoc : (a b c : Bool) → (a || (b || c)) ≡ (a || b || c)
    or_assoc true b c = refl
    or_assoc false b c = refl

or_left : (a b : Bool) → (a || b) ≡ false → a ≡ false
or_left true b off = off
or_left false b off = refl

or_right : (a b : Bool) → (a || b) ≡ false → b ≡ false
or_right true b off = absurd (let bad : true ≡ false = off in cc)
or_right false b off = off

pub off_left : (v w : List Range) (p : Path) (i : ℕ) → covers (v ++ w) p i ≡ false → covers v p i ≡ false
off_left v w p i off = or_left (covers v p i) (covers w p i) (sym (covers-append v w p i) ∙ off)

pub off_right : (v w : List Range) (p : Path) (i : ℕ) → covers (v ++ w) p i ≡ false → covers w p i ≡ false
off_right v w p i off = or_right (covers v p i) (covers w p i) (sym (covers-append v w p i) ∙ off)

pub off_first : (q : Range) (rs : List Range) (p : Path) (i : ℕ) → covers (q ∷ rs) p i ≡ false → covers (q ∷ []) p i ≡ false
off_first q rs p i off = (let first : (bytes_eq q.0 p && within q.1 q.2 i) ≡ false = or_left (bytes_eq q.0 p && within q.1 q.2 i) (covers rs p i) off in ap (λ (b : Bool). b || false) first)

pub off_rest : (q : Range) (rs : List Range) (p : Path) (i : ℕ) → covers (q ∷ rs) p i ≡ false → covers rs p i ≡ false
off_rest q rs p i off = or_right (bytes_eq q.0 p && within q.1 q.2 i) (covers rs p i) off

-- what is held after a write
pub write_holds : (dev : Path) (at : ℕ) (bytes : List ℕ) (a b : State) → OnDevice dev (Touched at bytes) a b → Written at bytes (b dev) → held b ≡ put_on dev at bytes (held a)
write_holds dev at bytes a b step given = λ j p i. each p i j
  where
    in_it : (i : ℕ) → at ≤ i → i < at + length bytes → (b dev).holds i ≡ get_or bytes (i - at) 0
    in_it i le lt =
        let k = i - at in
        let back : at + k ≡ i = omega arith in
        ap (b dev).holds (sym back) ∙ sym (get_or-cells (b dev).holds at (length bytes) k (omega arith)) ∙ ap (λ (l : List ℕ). get_or l k 0) given

    here : (i : ℕ) → (b dev).holds i ≡ put_in at bytes (a dev).holds i
    here i = elim (cases_lt i at) [
      | inl low ↦ step.here.below i low ∙ sym (put_in_outside at bytes (a dev).holds i (within_below at (length bytes) i low))
      | inr from ↦ elim (cases_lt i (at + length bytes)) [
        | inl until ↦ in_it i from until ∙ sym (ap (λ (t : Bool). cond t (get_or bytes (i - at) 0) ((a dev).holds i)) (within_inside at (length bytes) i from until))
        | inr high ↦ step.here.above i high ∙ sym (put_in_outside at bytes (a dev).holds i (within_above at (length bytes) i high))
      ]
    ]

    each : (p : Path) (i : ℕ) → (b p).holds i ≡ put_on dev at bytes (held a) p i
    each p i = elim (same_or_other p dev) [
      | inl e ↦
          subst (λ (q : Path). (b q).holds i ≡ put_in at bytes (a q).holds i) (sym e) (here i)
          ∙ sym (ap (λ (t : Bool). cond t (put_in at bytes (a p).holds) (a p).holds i) (on_path p dev e))
      | inr ne ↦
          ap (λ (d : DevState). d.holds i) (step.others p ne)
          ∙ sym (ap (λ (t : Bool). cond t (put_in at bytes (a p).holds) (a p).holds i) (off_path p dev ne))
    ]

-- a sync changes nothing that is held
pub sync_holds : (dev : Path) (a b : State) → OnDevice dev Settling a b → held b ≡ held a
sync_holds dev a b step = λ j p. each p j
  where
    each : (p : Path) → (b p).holds ≡ (a p).holds
    each p = elim (same_or_other p dev) [
      | inl e ↦ subst (λ (q : Path). (b q).holds ≡ (a q).holds) (sym e) step.here.same
      | inr ne ↦ ap (λ (d : DevState). d.holds) (step.others p ne)
    ]

module _ {D : Type 0} (moment : D → ℕ) (state_at : D → ℕ → State) (rs : List Range) where
  -- a run of two parts within ranges
  pub runs_both : (a b c : D) → Works rs (state_at a (moment a)) (state_at b (moment b)) → Goes moment state_at (Works rs) a b → Goes moment state_at (Works rs) b c → Goes moment state_at (Works rs) a c
  runs_both a b c here one two = goes_on moment state_at (Works rs) (Works rs) (Works rs) a b c (λ s step. step) (λ s step. works_both rs (state_at a (moment a)) (state_at b (moment b)) s here step) one two

  -- a run within fewer ranges
  pub runs_more : (v : List Range) (a b : D) → ((p : Path) (i : ℕ) → covers rs p i ≡ false → covers v p i ≡ false) → Goes moment state_at (Works v) a b → Goes moment state_at (Works rs) a b
  runs_more v a b more goes = goes_weak moment state_at (Works v) (Works rs) a b (λ s t step. works_more v rs s t more step) goes

  -- the state in which a run ends
  pub runs_end : (a b : D) → Goes moment state_at (Works rs) a b → Works rs (state_at a (moment a)) (state_at b (moment b))
  runs_end a b goes = at_end moment state_at (Works rs) a b (works_self rs (state_at a (moment a))) goes

  -- two runs, one after the other
  pub runs_on : (a b c : D) → Goes moment state_at (Works rs) a b → Goes moment state_at (Works rs) b c → Goes moment state_at (Works rs) a c
  runs_on a b c one two = runs_both a b c (runs_end a b one) one two

  pub runs_none : (a : D) → Goes moment state_at (Works rs) a a
  runs_none a = record { later = omega arith; past = λ k p le. refl; since = λ k lt le. absurd (omega arith) }

  -- nothing happened, as at a read
  pub runs_same : (a b : D) → moment b ≡ moment a → state_at b ≡ state_at a → Goes moment state_at (Works rs) a b
  runs_same a b clock states = record { later = omega (arith, clock); past = λ k p le. (λ i. states i k p); since = λ k lt le. absurd (omega (arith, clock, lt, le)) }

-- what a sync leaves is held as it was
pub synced_holds : {D : Type 0} (moment : D → ℕ) (state_at : D → ℕ → State) (dev : Path) (a b : D) → Goes moment state_at (OnDevice dev Settling) a b → Synced (state_at a (moment a) dev) (state_at b (moment b) dev)
    → held (state_at b (moment b)) ≡ held (state_at a (moment a))
synced_holds moment state_at dev a b goes synced =
    sync_holds dev (state_at a (moment a)) (state_at b (moment b)) (at_end moment state_at (OnDevice dev Settling) a b (record { here = record { same = refl; told = inl refl }; others = λ p ne. refl }) goes)

pub on_ok : {A E : Type 0} (r : Result A E) (P Q : Type 0) → (P → Q) → OnOk r P → OnOk r Q
on_ok (Ok x) P Q f h = f h
on_ok (Err e) P Q f h = h
