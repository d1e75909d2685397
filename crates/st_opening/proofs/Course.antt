-- The three parts of an opening, one after the other.
use Rattle.std.proofs.Common.{◌≡◌, ℕ, sym, ◌∙◌, subst}
use Rattle.st_model.specs.declared.state.EngineState.{EngineState}
use Rattle.st_rack.specs.Device.{State, Image, held}
use Rattle.st_rack.specs.Calls.{Devices, Rises}
use Rattle.st_rack.specs.Moments.{Goes, Keeps}
use Rattle.st_commit.specs.Ready.{Settles}
use Rattle.st_image.specs.Rack.{IsForeign, RackStands}
use Rattle.st_assemble.specs.Found.{IsFound}
use Rattle.st_assemble.specs.declared.taking.Found.{Found}
use Rattle.st_parting.specs.Found.{AllSettled, IsFoundOn}
use Rattle.st_finishing.specs.Finishing.{FoundStill, LeavesStill, StoriesGrow}
use Rattle.st_opening.specs.Opened.{IsOpened, LeavesAlike}
use Rattle.st_opening.proofs.Alike.{alike_finished, alike_read, alike_synced, found_on, held_same, settles_end}

module _ {D : Type 0} (devs : D → Devices) (M : D → ℕ) (S : D → ℕ → State) (r0 r1 r2 : D) (rises : Rises (devs r0)) (time : Goes M S Settles r0 r1) (settled : AllSettled (devs r0) (S r1 (M r1)))
    (devs1 : devs r1 ≡ devs r0) (devs2 : devs r2 ≡ devs r1) (clock : M r2 ≡ M r1) (states : S r2 ≡ S r1) where
  now_same : S r2 (M r2) ≡ S r1 (M r1)
  now_same = λ i. states i (clock i)

  devs_same : devs r2 ≡ devs r0
  devs_same = devs2 ∙ devs1

  settles : Settles (S r0 (M r0)) (S r2 (M r2))
  settles = subst (Settles (S r0 (M r0))) (sym now_same) (settles_end (devs r0) M S r0 r1 time)

  settled_read : AllSettled (devs r0) (S r2 (M r2))
  settled_read = subst (AllSettled (devs r0)) (sym now_same) settled

  -- what is read is what was there
  pub image_same : held (S r1 (M r1)) ≡ held (S r0 (M r0))
  image_same = held_same (devs r0) (S r0 (M r0)) (S r1 (M r1)) (settles_end (devs r0) M S r0 r1 time) settled

  pub during_read : Keeps M S (LeavesAlike (devs r0) (S r0 (M r0))) r0 r2
  during_read = alike_read (devs r0) M S r0 r1 r2 clock states (alike_synced (devs r0) M S r0 r1 time)

  pub during_finish : (r3 : D) → Keeps M S (StoriesGrow (S r2 (M r2))) r2 r3 → ((e : EngineState) → IsFoundOn (devs r2) (S r2 (M r2)) e → Keeps M S (LeavesStill e (devs r2)) r2 r3) → Keeps M S (LeavesAlike (devs r0) (S r0 (M r0))) r0 r3
  during_finish r3 grow still = alike_finished (devs r0) M S r0 r2 r3 rises settles settled_read during_read grow
      (subst (λ (ds : Devices). (e : EngineState) → IsFoundOn ds (S r2 (M r2)) e → Keeps M S (LeavesStill e ds) r2 r3) devs_same still)

  pub foreign_at_start : (n : ℕ) → IsForeign (devs r1) (held (S r1 (M r1))) n → IsForeign (devs r0) (held (S r0 (M r0))) n
  foreign_at_start n foreign = subst (λ (ds : Devices). IsForeign ds (held (S r0 (M r0))) n) devs1 (subst (λ (m : Image). IsForeign (devs r1) m n) image_same foreign)

  pub opened : (r3 : D) (found : Found) → IsFound (devs r1) (held (S r1 (M r1))) found → ((e : EngineState) → IsFoundOn (devs r2) (S r2 (M r2)) e → FoundStill e (devs r2) (S r3 (M r3)))
      → IsOpened (devs r0) (S r0 (M r0)) (S r3 (M r3)) found
  opened r3 found is done =
      let stood : RackStands (devs r0) (held (S r0 (M r0))) is.state =
      subst (λ (ds : Devices). RackStands ds (held (S r0 (M r0))) is.state) devs1 (subst (λ (m : Image). RackStands (devs r1) m is.state) image_same is.stands) in
      let here : IsFoundOn (devs r2) (S r2 (M r2)) is.state =
      subst (λ (ds : Devices). IsFoundOn ds (S r2 (M r2)) is.state) (sym devs_same) (found_on (devs r0) (S r0 (M r0)) (S r2 (M r2)) settles settled_read is.state rises stood) in
      record {
        state = is.state;
        stood = stood;
        pools = is.pools;
        next = is.next;
        still = subst (λ (ds : Devices). FoundStill is.state ds (S r3 (M r3))) devs_same (done is.state here);
      }
