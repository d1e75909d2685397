-- Through the syncs, the reads and the finish of a rack.
use Rattle.std.proofs.Common.{◌≡◌, inl, inr, ℕ, refl, sym, ◌∙◌, ap, subst, arith}
use Rattle.st_model.specs.declared.state.EngineState.{EngineState}
use Rattle.st_rack.specs.Story.{Fair, FairPast, Meant, NoChance, Story, latest}
use Rattle.st_rack.specs.Device.{State, Image, held}
use Rattle.st_rack.specs.Calls.{Devices, Rises}
use Rattle.st_rack.specs.Left.{FairlyLeaves}
use Rattle.st_rack.specs.Moments.{Goes, Keeps}
use Rattle.st_rack.proofs.Chance.{latest_meant}
use Rattle.st_rack.proofs.Growth.{fair_before}
use Rattle.st_rack.proofs.Left.{left_settled}
use Rattle.st_rack.proofs.Moments.{at_end, goes_keeps, keeps_from, keeps_on, keeps_self}
use Rattle.st_commit.specs.Ready.{Settles}
use Rattle.st_image.specs.Looks.{Look}
use Rattle.st_image.specs.Rack.{RackStands}
use Rattle.st_parting.specs.Found.{AllSettled, IsFoundOn}
use Rattle.st_finishing.specs.Finishing.{LeavesStill, StandsStill, StoriesGrow, heads}
use Rattle.st_opening.specs.Opened.{LeavesAlike}

module _ (devs : Devices) (start : State) where
  stands_as : (e : EngineState) (c : Image) → RackStands devs c e → StandsStill e devs c
  stands_as e c stands = (e.next, omega arith, record { each = stands.each; serials = stands.serials; names = stands.names; few = stands.few; devices = stands.devices; next = stands.next })

  -- nothing is left that could not be left before
  pub synced_alike : (s : State) → Settles start s → LeavesAlike devs start s
  synced_alike s settles c leaves = (c, (λ p n has. left_settled (λ (l : Look). heads l p) (start p) (s p) (c p) (settles p) (leaves p n has)), λ e stands. stands_as e c stands)

  module _ (mid : State) (settles : Settles start mid) (settled : AllSettled devs mid) where
    pub held_same : held mid ≡ held start
    held_same = λ i p. (settles p).same i

    -- what is read could be left, fairly where what is left now is so
    held_left : (s : State) → StoriesGrow mid s → (c : Image) → FairlyLeaves devs heads s c → FairlyLeaves devs heads start (held start)
    held_left s grow c leaves p n has = record { left = λ i sure. refl; fair = λ r. fair r (before r) }
      where
        before : (r : Look) → FairPast (heads r p) (mid p).story
        before r = fair_before (heads r p) (mid p).story (s p).story (grow p) ((leaves p n has).fair r).past

        fair : (r : Look) → FairPast (heads r p) (mid p).story → NoChance (heads r p) (start p).story (held start p)
        fair r past = elim ((settles p).told) [
          | inl same ↦
              let meant : Meant (mid p).story (latest (start p).story) = subst (λ (y : Story). Meant y (latest (start p).story)) (sym same) (latest_meant (start p).story) in
              let is : latest (start p).story ≡ (start p).holds = (settled p n has).meant (latest (start p).story) meant ∙ (settles p).same in
              record { now = record { found = inr (latest (start p).story, latest_meant (start p).story, ap (heads r p) (sym is)) }; past = subst (λ (y : Story). FairPast (heads r p) y) same past }
          | inr told ↦
              let both : Fair (heads r p) (start p).story (start p).holds × FairPast (heads r p) (start p).story = subst (λ (y : Story). FairPast (heads r p) y) told past in
              record { now = both.0; past = both.1 }
        ]

    pub found_on : (e : EngineState) → Rises devs → RackStands devs (held start) e → IsFoundOn devs mid e
    found_on e rises stands = record { rises = rises; settled = settled; stands = subst (λ (m : Image). RackStands devs m e) (sym held_same) stands }

    pub finished_alike : (s : State) → Rises devs → StoriesGrow mid s → ((e : EngineState) → IsFoundOn devs mid e → LeavesStill e devs s) → LeavesAlike devs start s
    finished_alike s rises grow still c leaves = (held start, held_left s grow c leaves, λ e stands. still e (found_on e rises stands) c leaves)

module _ {D : Type 0} (devs : Devices) (M : D → ℕ) (S : D → ℕ → State) (r0 r1 : D) where
  now : D → State
  now r = S r (M r)

  settles_self : (a : State) → Settles a a
  settles_self a d = record { same = refl; told = inl refl }

  pub alike_synced : Goes M S Settles r0 r1 → Keeps M S (LeavesAlike devs (S r0 (M r0))) r0 r1
  alike_synced time = goes_keeps M S Settles (LeavesAlike devs (S r0 (M r0))) r0 r1 (settles_self (S r0 (M r0))) (λ s settles. synced_alike devs (S r0 (M r0)) s settles) time

  pub alike_finished : (r2 : D) → Rises devs → Settles (S r0 (M r0)) (S r1 (M r1)) → AllSettled devs (S r1 (M r1)) → Keeps M S (LeavesAlike devs (S r0 (M r0))) r0 r1
      → Keeps M S (StoriesGrow (S r1 (M r1))) r1 r2 → ((e : EngineState) → IsFoundOn devs (S r1 (M r1)) e → Keeps M S (LeavesStill e devs) r1 r2) → Keeps M S (LeavesAlike devs (S r0 (M r0))) r0 r2
  alike_finished r2 rises settles settled before grow still = keeps_on M S (LeavesAlike devs (S r0 (M r0))) r0 r1 r2 before (record {
    later = grow.later;
    past = grow.past;
    all = λ k from until. finished_alike devs (S r0 (M r0)) (S r1 (M r1)) settles settled (S r2 k) rises (grow.all k from until) (λ e found. (still e found).all k from until);
  })

  -- a read takes no time
  pub alike_read : (r2 : D) → M r2 ≡ M r1 → S r2 ≡ S r1 → Keeps M S (LeavesAlike devs (S r0 (M r0))) r0 r1 → Keeps M S (LeavesAlike devs (S r0 (M r0))) r0 r2
  alike_read r2 clock states before = keeps_on M S (LeavesAlike devs (S r0 (M r0))) r0 r1 r2 before
      (keeps_from M S (LeavesAlike devs (S r0 (M r0))) r1 r2 r2 clock states (keeps_self M S (LeavesAlike devs (S r0 (M r0))) r2 (subst (LeavesAlike devs (S r0 (M r0))) (λ i. sym states i (sym clock i)) (before.all (M r1) before.later (omega arith)))))

  pub settles_end : Goes M S Settles r0 r1 → Settles (S r0 (M r0)) (S r1 (M r1))
  settles_end time = at_end M S Settles r0 r1 (settles_self (S r0 (M r0))) time
