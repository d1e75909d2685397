-- The records of all rows are written, one row after the other.
use Rattle.std.proofs.Common.{◌≡◌, inl, inr, ℕ, ◌+◌, ◌%◌, ◌<◌, ◌≤◌, Bool, true, cond, nat_lt, List, Some, None, refl, sym, ◌∙◌, ap, subst, arith}
use Rattle.std.specs.List.{slice_get}
use Rattle.std.proofs.lemmas.Bool.{cases_lt}
use Rattle.std.proofs.lemmas.Bool.Decides.{nat_tests}
use Rattle.st_poolrec.specs.Record as pools
use Rattle.st_model.specs.declared.state.EngineState.{EngineState}
use Rattle.st_rack.specs.Story.{Content, Grows, NoChance}
use Rattle.st_rack.specs.Device.{Path, DevState, State, held}
use Rattle.st_rack.specs.Calls.{Devices, Has}
use Rattle.st_rack.specs.Left.{LeavesFairly}
use Rattle.st_rack.specs.Moments.{Keeps}
use Rattle.st_rack.proofs.Growth.{grows_self}
use Rattle.st_rack.proofs.Moments.{keeps_on, keeps_self, keeps_weak}
use Rattle.st_slots.specs.Reading.{read_slot}
use Rattle.st_slots.specs.Writing.{LeavesFor}
use Rattle.st_deltalog.specs.Bearing.{IsSettled}
use Rattle.st_commit.specs.Ready.{IsOf}
use Rattle.st_judge.specs.declared.rows.GoneRow.{GoneRow}
use Rattle.st_image.specs.Looks.{Look, PoolSlot, pool_area}
use Rattle.st_assemble.specs.Found.{AreGone}
use Rattle.st_parting.specs.Found.{IsFoundOn}
use Rattle.st_parting.proofs.Newest.{some_same}
use Rattle.st_parting.proofs.Parting.{left_settled}
use Rattle.st_finishing.specs.Finishing.{FoundStill, IsBeingWritten, IsFinished, IsFinishing, LeavesStill, StoriesGrow, heads}
use Rattle.st_finishing.specs.inner.Writing.{IsIn, IsWritten, LeavesWrite, WritesOn, WritesRows}
use Rattle.st_finishing.proofs.Standing.{all_finished, stands_still}
use Rattle.st_finishing.proofs.Told.{LacksIts, is_gone, lacking_named, lacks_of}

module _ {D : Type 0} (M : D → ℕ) (S : D → ℕ → State) (rows : List GoneRow) where
  abbrev now : D → State
  now r = S r (M r)

  pub rows_none : (r0 : D) → Keeps M S (WritesRows rows (now r0)) r0 r0
  rows_none r0 = keeps_self M S (WritesRows rows (now r0)) r0 (λ d. inl refl)

  module _ (r0 r1 r2 : D) (i : ℕ) (row : GoneRow) (at : slice_get rows i ≡ Some row) (before : Keeps M S (WritesRows rows (now r0)) r0 r1)
      (untouched : (j : ℕ) (other : GoneRow) → i ≤ j → slice_get rows j ≡ Some other → (d : Path) → IsOf other.devs d → now r1 d ≡ now r0 d) (step : Keeps M S (WritesOn row.generation row.rec row.devs (now r1)) r1 r2) where
    one_step : (s : State) → WritesOn row.generation row.rec row.devs (now r1) s → WritesRows rows (now r0) s
    one_step s here d = elim (here d) [
      | inl same ↦ elim (before.all (M r1) before.later (omega arith) d) [
        | inl unchanged ↦ inl (same ∙ unchanged)
        | inr one ↦ inr (one.0, subst (λ (x : DevState). LeavesWrite one.0.row.generation one.0.row.rec (now r0 d) x) (sym same) one.1)
      ]
      | inr one ↦ inr (record { index = i; row = row; of = at; on = one.0 }, subst (λ (x : DevState). LeavesWrite row.generation row.rec x (s d)) (untouched i row (omega arith) at d one.0) one.1)
    ]

    pub rows_more : Keeps M S (WritesRows rows (now r0)) r0 r2
    rows_more = keeps_on M S (WritesRows rows (now r0)) r0 r1 r2 before (keeps_weak M S (WritesOn row.generation row.rec row.devs (now r1)) (WritesRows rows (now r0)) r1 r2 one_step step)

    at_the_end : WritesOn row.generation row.rec row.devs (now r1) (now r2)
    at_the_end = step.all (M r2) step.later (omega arith)

    module _ (once : (i j : ℕ) (x y : GoneRow) (p : Path) → slice_get rows i ≡ Some x → slice_get rows j ≡ Some y → i < j → IsOf x.devs p → IsOf y.devs p → ⊥) where
      pub rows_untouched : (j : ℕ) (other : GoneRow) → i + 1 ≤ j → slice_get rows j ≡ Some other → (d : Path) → IsOf other.devs d → now r2 d ≡ now r0 d
      rows_untouched j other le at_j d of = elim (at_the_end d) [
        | inl same ↦ same ∙ untouched j other (omega (arith, le)) at_j d of
        | inr one ↦ absurd (once i j row other d at at_j (omega (arith, le)) one.0 of)
      ]

      pub rows_done : ((d : Path) → IsOf row.devs d → IsWritten row.generation row.rec (now r1 d) (now r2 d))
          → ((j : ℕ) (other : GoneRow) → j < i → slice_get rows j ≡ Some other → (d : Path) → IsOf other.devs d → IsWritten other.generation other.rec (now r0 d) (now r1 d))
          → (j : ℕ) (other : GoneRow) → j < i + 1 → slice_get rows j ≡ Some other → (d : Path) → IsOf other.devs d → IsWritten other.generation other.rec (now r0 d) (now r2 d)
      rows_done written done j other lt at_j d of = elim (cases_lt j i) [
        | inl below ↦ elim (at_the_end d) [
          | inl same ↦ subst (λ (x : DevState). IsWritten other.generation other.rec (now r0 d) x) (sym same) (done j other below at_j d of)
          | inr one ↦ absurd (once j i other row d at_j at below of one.0)
        ]
        | inr from ↦
            let here : i ≡ j = omega (arith, lt, from) in
            let same : row ≡ other = some_same row other (sym at ∙ ap (slice_get rows) here ∙ at_j) in
            let own : IsOf row.devs d = subst (λ (r : GoneRow). IsOf r.devs d) (sym same) of in
            subst (λ (r : GoneRow). IsWritten r.generation r.rec (now r0 d) (now r2 d)) same
            (subst (λ (x : DevState). IsWritten row.generation row.rec x (now r2 d)) (untouched i row (omega arith) at d own) (written d own))
      ]

-- a slot is one of the places that are read fairly
slot_fair : (g : ℕ) (p : Path) (s : DevState) (f : Content) → LeavesFairly (λ (l : Look). heads l p) s f → LeavesFor (read_slot pool_area (g % 2)) s f
slot_fair g p s f leaves = record { left = leaves.left; fair = λ u. subst (λ (b : Bool). NoChance (λ (x : Content). cond b (read_slot pool_area (g % 2) x) None) s.story f) (two g) (leaves.fair (PoolSlot (g % 2))) }
  where
    below : (k : ℕ) → k < 2 → nat_lt k 2 ≡ true
    below k lt = grind (arith, nat_tests)

    two : (g : ℕ) → nat_lt (g % 2) 2 ≡ true
    two g = below (g % 2) (omega arith)

-- stories only grow
pub rows_grow : (rows : List GoneRow) (a s : State) → WritesRows rows a s → StoriesGrow a s
rows_grow rows a s writes d = elim (writes d) [
  | inl same ↦ subst (λ (x : DevState). Grows (a d).story x.story) (sym same) (grows_self (a d).story)
  | inr one ↦ one.1.grows
]

module _ (devs : Devices) (a : State) (rows : List GoneRow) (are : AreGone devs (held a) rows) (e : EngineState) (found : IsFoundOn devs a e) (s : State) (writes : WritesRows rows a s) where
  lacks_in : (p : Path) (n : ℕ) → Has devs p n → (r : IsIn rows p) → LacksIts devs (held a) found.rises r.row (is_gone devs (held a) found.rises rows are r.index r.row r.of) p n
  lacks_in p n has r = lacks_of devs (held a) found.rises r.row (is_gone devs (held a) found.rises rows are r.index r.row r.of) p n r.on has

  as_lacking : (p : Path) (n : ℕ) (has : Has devs p n) (r : IsIn rows p) (f : Content) → IsBeingWritten r.row.generation r.row.rec (a p).holds f → IsBeingWritten (lacks_in p n has r).it.g (pools.record_text (lacks_in p n has r).it.rec) (a p).holds f
  as_lacking p n has r f written =
      subst (λ (g : ℕ). IsBeingWritten g (pools.record_text (lacks_in p n has r).it.rec) (a p).holds f) (lacks_in p n has r).g_is
      (subst (λ (l : List ℕ). IsBeingWritten r.row.generation l (a p).holds f) (lacks_in p n has r).text_is written)

  pub leaves_still : LeavesStill e devs s
  leaves_still c leaves = stands_still devs (held a) c found.rises finishing e found.stands
    where
      finishing : IsFinishing devs (held a) c
      finishing p n has = elim (writes p) [
        | inl same ↦ inl (left_settled (a p) (c p) (found.settled p n has) (subst (λ (x : DevState). LeavesFairly (λ (l : Look). heads l p) x (c p)) same (leaves p n has)).left)
        | inr one ↦ inr ((lacks_in p n has one.0).it, as_lacking p n has one.0 (c p) (one.1.left (found.settled p n has) (c p) (slot_fair one.0.row.generation p (s p) (c p) (leaves p n has))))
      ]

  module _ (done : (j : ℕ) (row : GoneRow) → slice_get rows j ≡ Some row → (d : Path) → IsOf row.devs d → IsWritten row.generation row.rec (a d) (s d)) where
    finishing : IsFinishing devs (held a) (held s)
    finishing p n has = elim (writes p) [
      | inl same ↦ inl (ap (λ (x : DevState). x.holds) same)
      | inr one ↦
          let r = one.0 in
          let w = done r.index r.row r.of p r.on in
          inr ((lacks_in p n has r).it, as_lacking p n has r (s p).holds (record { same = w.same; torn = inr (inr w.reads) }))
    ]

    finished : IsFinished devs (held a) (held s)
    finished p n has l =
        let one = lacking_named devs (held a) found.rises rows are p n has l in
        let w = done one.0 one.1 one.2 p one.3 in
        (λ i. read_slot pool_area (sym one.4 i % 2) (s p).holds) ∙ w.reads ∙ (λ i. Some (one.4 i, one.5 i))

    settled : (p : Path) (n : ℕ) → Has devs p n → IsSettled (s p)
    settled p n has = elim (writes p) [
      | inl same ↦ subst IsSettled (sym same) (found.settled p n has)
      | inr one ↦ (done one.0.index one.0.row one.0.of p one.0.on).settled
    ]

    pub found_still : FoundStill e devs s
    found_still =
        let still = stands_still devs (held a) (held s) found.rises finishing e found.stands in
        (still.0, still.1, record { rises = found.rises; settled = settled; stands = still.2 }, all_finished devs (held a) (held s) found.rises finishing e found.stands finished)
