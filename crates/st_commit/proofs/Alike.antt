-- While records are repaired, the devices stand for what they stood for as they were read.
use Rattle.std.proofs.Common.{◌≡◌, inl, inr, ℕ, ◌+◌, ◌*◌, ◌%◌, ◌<◌, ◌≤◌, Bool, List, Option, Some, sym, ◌∙◌, ap, subst, arith}
use Rattle.std.specs.List.{slice_get}
use Rattle.std.proofs.Math.Nat.{mul-le-mul_right}
use Rattle.st_rack.specs.Story.{Content, Meant, NoChance, latest}
use Rattle.st_rack.specs.Device.{Path, State, Image, held}
use Rattle.st_rack.specs.Left.{LeftOn}
use Rattle.st_rack.specs.Moments.{Goes, Keeps}
use Rattle.st_rack.proofs.Moments.{goes_keeps, keeps_on, at_end, at_moment}
use Rattle.st_rack.proofs.Chance.{latest_meant}
use Rattle.st_rack.proofs.Growth.{fair_before}
use Rattle.st_slots.specs.declared.spot.Area.{Area}
use Rattle.st_deltalog.specs.declared.area.FlexArea.{FlexArea}
use Rattle.st_deltalog.specs.Log.{Log, log_at}
use Rattle.st_deltalog.specs.Bearing.{IsSettled}
use Rattle.st_deltalog.proofs.Restart.{log_local}
use Rattle.st_commit.specs.Standing.{newest_over, with_log, stands, owned_records}
use Rattle.st_commit.specs.Ready.{IsOf, AreApart, Outside, Spares, Settles}
use Rattle.st_commit.specs.Reading.{history}
use Rattle.st_commit.specs.Repair.{Newest, NewestOnly}
use Rattle.st_commit.specs.Restarting.{NoneByChance, StandsAlike, AllOne}
use Rattle.st_commit.proofs.Frame.{spares_self}
use Rattle.st_commit.proofs.Onward.{settles_self}
use Rattle.st_commit.proofs.Restart.{newest_read}
use Rattle.st_commit.proofs.Roles.{owned_slots_left, none_new}

module _ (pool : Area) (flex : FlexArea) (owns : Content → Bool) (p : ℕ) (devs : List Path) (first : Path) (g : ℕ) (rec : List ℕ) (head : slice_get devs 0 ≡ Some first) (apart : AreApart pool flex.area)
    (s1 : State) (settled : (d : Path) → IsOf devs d → IsSettled (s1 d)) where
  -- What is held of settled devices is fairly left of them.
  pub held_left : NoneByChance pool flex owns devs s1 → LeftOn devs (owned_records pool flex owns) s1 (held s1)
  held_left past k d is = record { left = λ i sure. refl_of i; fair = λ i. fair i }
    where
      of : IsOf devs d
      of = record { index = k; is = is }

      refl_of : (i : ℕ) → (s1 d).holds i ≡ (s1 d).holds i
      refl_of i = λ j. (s1 d).holds i

      fair : (i : Bool × ℕ) → NoChance (owned_records pool flex owns k i) (s1 d).story (s1 d).holds
      fair i =
          let is_settled = settled d of in
          let meant = latest_meant (s1 d).story in
          record {
            now = record { found = inr ((s1 d).holds, subst (λ (m : Content). Meant (s1 d).story m) (is_settled.meant (latest (s1 d).story) meant) meant, (λ j. owned_records pool flex owns k i (s1 d).holds)) };
            past = past k d is i;
          }

  -- While nothing but slots of generation g is touched, the log on the first device reads as it was read.
  pub stands_held : (s : State) (c : Image) → Spares pool g devs s1 s → LeftOn devs (owned_records pool flex owns) s c → newest_over pool p devs c ≡ Some (g, rec) → newest_over pool p devs (held s1) ≡ Some (g, rec)
      → stands pool flex p devs first c ≡ stands pool flex p devs first (held s1)
  stands_held s c spares leaves newest was =
      let of : IsOf devs first = record { index = 0; is = head } in
      let log : log_at flex p g (c first) ≡ log_at flex p g (s1 first).holds =
      log_local flex p g (c first) (s1 first).holds (λ i low high. (let out = outside i low high in
      (leaves 0 first head).left i ((spares first).0.sure i out ((settled first of).sure i)) ∙ (spares first).0.same i out)) in
      ap (with_log flex p (c first)) newest ∙ ap (λ (l : Option Log). Some ((g, rec), l)) log ∙ sym (ap (with_log flex p (s1 first).holds) was)
    where
      outside : (i : ℕ) → 512 * flex.area.at ≤ i → i < 512 * (flex.area.at + 2 * flex.area.slot) → Outside pool g i
      outside i low high =
          let half : g % 2 * pool.slot ≤ 1 * pool.slot = (let le : g % 2 ≤ 1 = omega arith in mul-le-mul_right pool.slot le) in
          elim apart [ inl before ↦ inr (omega (arith, low, before, half)) | inr after ↦ inl (omega (arith, high, after)) ]

-- A start syncs, reads and repairs: each image during it stands for one of those that images at its start stood for.
module _ {D : Type 0} (moment : D → ℕ) (state_at : D → ℕ → State) (pool : Area) (flex : FlexArea) (owns : Content → Bool) (p : ℕ) (devs : List Path) (first : Path) (head : slice_get devs 0 ≡ Some first) (apart : AreApart pool flex.area) where
  abbrev now : D → State
  now r = state_at r (moment r)

  pub synced_alike : (r0 r1 : D) → Goes moment state_at Settles r0 r1 → Keeps moment state_at (StandsAlike pool flex owns p devs first (now r0)) r0 r1
  synced_alike r0 r1 synced = goes_keeps moment state_at Settles (StandsAlike pool flex owns p devs first (now r0)) r0 r1 (settles_self (now r0))
      (λ s step c leaves. (c, none_new pool flex owns devs (now r0) s c step leaves, (λ j. stands pool flex p devs first c))) synced

  pub repaired_alike : (g : ℕ) (rec : List ℕ) (r0 r1 r2 : D) → Goes moment state_at Settles r0 r1 → ((d : Path) → IsOf devs d → IsSettled (now r1 d)) → newest_over pool p devs (held (now r1)) ≡ Some (g, rec)
      → Goes moment state_at (Spares pool g devs) r1 r2 → ((h : ℕ → List ℕ) (bearer : Path) → Newest pool p h devs bearer g rec (now r1) → Keeps moment state_at (NewestOnly pool p devs g rec) r1 r2)
      → AllOne pool flex owns p devs (now r0) → NoneByChance pool flex owns devs (now r2) → Keeps moment state_at (StandsAlike pool flex owns p devs first (now r0)) r0 r2
  repaired_alike g rec r0 r1 r2 synced settled newest spares repaired all_one chance =
      keeps_on moment state_at (StandsAlike pool flex owns p devs first (now r0)) r0 r1 r2 (synced_alike r0 r1 synced) (record { later = spares.later; past = spares.past; all = at_each })
    where
      past : NoneByChance pool flex owns devs (now r1)
      past k d is i =
          let last = at_end moment state_at (Spares pool g devs) r1 r2 (spares_self pool g devs (now r1)) spares in
          fair_before (owned_records pool flex owns k i) (now r1 d).story (now r2 d).story (last d).0.grows (chance k d is i)

      at_start : LeftOn devs (owned_records pool flex owns) (now r0) (held (now r1))
      at_start = none_new pool flex owns devs (now r0) (now r1) (held (now r1)) (at_end moment state_at Settles r0 r1 (settles_self (now r0)) synced)
          (held_left pool flex owns p devs first g rec head apart (now r1) settled past)

      at_each : (k : ℕ) → moment r1 ≤ k → k ≤ moment r2 → StandsAlike pool flex owns p devs first (now r0) (state_at r2 k)
      at_each k from until c leaves =
          let s = state_at r2 k in
          let here = at_moment moment state_at (Spares pool g devs) r1 r2 (spares_self pool g devs (now r1)) spares k from until in
          let new = newest_read pool p devs (now r1) settled g rec (all_one (held (now r1)) at_start) newest in
          let both = (repaired (history pool p devs (held (now r1))) new.0 new.1).all k from until c (owned_slots_left pool flex owns devs s c leaves) in
          (held (now r1), at_start, stands_held pool flex owns p devs first g rec head apart (now r1) settled s c here leaves both.1 newest)
