-- What the newest record on a rack is on the devices of its rows alone.
use Rattle.std.proofs.Common.{◌≡◌, inl, inr, ℕ, zero, suc, ◌<◌, ◌≤◌, Bool, true, false, cond, List, [], ◌∷◌, map, Some, None, refl, sym, ◌∙◌, ap, subst, arith}
use Rattle.std.specs.List.{slice_get}
use Rattle.st_fields.specs.Slot.{Found}
use Rattle.st_poolrec.specs.declared.record.PoolRec.{PoolRec}
use Rattle.st_poolrec.specs.Record as pools
use Rattle.st_rack.specs.Device.{Path, Image}
use Rattle.st_rack.specs.Calls.{Devices, Has, Rises}
use Rattle.st_slots.specs.Reading.{read_slot, newer}
use Rattle.st_commit.specs.Standing as commits
use Rattle.st_commit.specs.Standing.{keep, AreOne}
use Rattle.st_commit.specs.Ready.{IsOf, Ranked}
use Rattle.st_commit.specs.Reading.{history}
use Rattle.st_commit.proofs.Over.{AtLeast, newer_either, newer_first, newer_last, over_all, over_least, is_top}
use Rattle.st_commit.proofs.Restart.{tells}
use Rattle.st_image.specs.Looks.{pool_area, has_header, slot_on}
use Rattle.st_image.specs.Bears.{AreRecords, Bears, Candidate, OnRowsAlone, candidate, newest_on, newest_over, paths}
use Rattle.st_image.specs.Kept.{as_pair}
use Rattle.st_image.proofs.Committing.{path_at, row_at, pair_at}
use Rattle.st_judge.proofs.Newest.{even_looked, odd_looked}
use Rattle.st_judge.proofs.Placed.{has_at}
use Rattle.st_starting.proofs.Devices.{some_same, none_some, row_or_none}

-- with headers, the newest is the newest of all slots
pub newest_same : (p : ℕ) (c : Image) (ds : Devices) → ((k : ℕ) (d : Path × ℕ) → slice_get ds k ≡ Some d → has_header p d.1 (c d.0) ≡ true) → newest_over p ds c ≡ commits.newest_over pool_area p (paths ds) c
newest_same p c [] headers = refl
newest_same p c (d ∷ ds) headers =
    let here = headers 0 d refl in
    let rest = newest_same p c ds (λ k e is. headers (suc k) e is) in
    λ i. newer (newer (cond (here i) (keep p (read_slot pool_area 0 (c d.0))) None) (cond (here i) (keep p (read_slot pool_area 1 (c d.0))) None)) (rest i)

module _ (p : ℕ) (c : Image) where
  -- what holds of each candidate holds of the newest
  pub all_over : (P : Found → Type 0) (ds : Devices) → P None → ((k : ℕ) (d : Path × ℕ) → slice_get ds k ≡ Some d → (place : ℕ) → place < 2 → P (candidate p d.1 place (c d.0))) → P (newest_over p ds c)
  all_over P [] none each = none
  all_over P (d ∷ ds) none each =
      newer_either P (newest_on p d.1 (c d.0)) (newest_over p ds c)
      (newer_either P (candidate p d.1 0 (c d.0)) (candidate p d.1 1 (c d.0)) (each 0 d refl 0 (omega arith)) (each 0 d refl 1 (omega arith)))
      (all_over P ds none (λ k e at. each (suc k) e at))

  -- it is no older than a candidate
  pub least_over : (g : ℕ) (ds : Devices) (k : ℕ) (d : Path × ℕ) → slice_get ds k ≡ Some d → (place : ℕ) → place < 2 → AtLeast g (candidate p d.1 place (c d.0)) → AtLeast g (newest_over p ds c)
  least_over g [] k d at place lt least = absurd (none_some d at)
  least_over g (e ∷ ds) zero d at place lt least =
      newer_first g (newest_on p e.1 (c e.0)) (newest_over p ds c) (subst (λ (q : Path × ℕ). AtLeast g (newest_on p q.1 (c q.0))) (sym (some_same e d at)) (in_one place lt least))
    where
      in_one : (place : ℕ) → place < 2 → AtLeast g (candidate p d.1 place (c d.0)) → AtLeast g (newest_on p d.1 (c d.0))
      in_one zero lt least = newer_first g (candidate p d.1 0 (c d.0)) (candidate p d.1 1 (c d.0)) least
      in_one (suc zero) lt least = newer_last g (candidate p d.1 0 (c d.0)) (candidate p d.1 1 (c d.0)) least
      in_one (suc (suc k)) lt least = absurd (omega arith)
  least_over g (e ∷ ds) (suc k) d at place lt least = newer_last g (newest_on p e.1 (c e.0)) (newest_over p ds c) (least_over g ds k d at place lt least)

  -- the newest is a candidate
  pub newest_candidate : (ds : Devices) (x : ℕ × List ℕ) → newest_over p ds c ≡ Some x → Candidate p ds c x
  newest_candidate ds x is =
      all_over (λ o. (y : ℕ × List ℕ) → o ≡ Some y → Candidate p ds c y) ds (λ y e. absurd (none_some y e))
      (λ k d at place lt y found. record { index = k; dev = d; of = at; place = place; of_two = lt; found = found }) x is

  -- where none is found there is no candidate
  pub no_candidate : (ds : Devices) → newest_over p ds c ≡ None → (x : ℕ × List ℕ) → Candidate p ds c x → ⊥
  no_candidate ds none x one =
      let least = least_over x.0 ds one.index one.dev one.of one.place one.of_two (record { one = x; is = one.found; from = omega arith }) in
      none_some least.one (sym none ∙ least.is)

  pub none_over : (ds : Devices) → ((x : ℕ × List ℕ) → Candidate p ds c x → ⊥) → newest_over p ds c ≡ None
  none_over ds not_one = by (newest_over p ds c) refl
    where
      by : (o : Found) → newest_over p ds c ≡ o → o ≡ None
      by None e = refl
      by (Some x) e = absurd (not_one x (newest_candidate ds x e))

  -- a candidate by what its slot is seen as
  seen_slot : (d : Path × ℕ) (place : ℕ) → place < 2 → candidate p d.1 place (c d.0) ≡ cond (has_header p d.1 (c d.0)) (keep p (slot_on d.1 place (c d.0))) None
  seen_slot d zero lt = sym (even_looked p c d)
  seen_slot d (suc zero) lt = sym (odd_looked p c d)
  seen_slot d (suc (suc k)) lt = absurd (omega arith)

  silent : (b : Bool) (o : Found) → o ≡ None → cond b o None ≡ None
  silent true o e = e
  silent false o e = refl

  module _ (rack devs : Devices) (rises : Rises rack) (inside : (k : ℕ) (d : Path × ℕ) → slice_get devs k ≡ Some d → (j : ℕ) × (slice_get rack j ≡ Some d)) where
    pub candidate_in : (x : ℕ × List ℕ) → Candidate p devs c x → Candidate p rack c x
    candidate_in x one =
        let there = inside one.index one.dev one.of in
        record { index = there.0; dev = one.dev; of = there.1; place = one.place; of_two = one.of_two; found = one.found }

    pub none_inside : newest_over p rack c ≡ None → newest_over p devs c ≡ None
    none_inside none = none_over devs (λ x one. no_candidate rack none x (candidate_in x one))

    module _ (g : ℕ) (rec : PoolRec) (bears : Bears p rack g rec c) (on : map as_pair rec.devs ≡ devs) (headed : (k : ℕ) (d : Path × ℕ) → slice_get devs k ≡ Some d → has_header p d.1 (c d.0) ≡ true) where
      -- a candidate stands on a device of the rows
      candidate_on : (x : ℕ × List ℕ) → Candidate p rack c x → Candidate p devs c x
      candidate_on x one = elim (row_or_none rec.devs one.dev.0) [
        | inl there ↦
            let own = subst (λ (ds : Devices). slice_get ds there.1 ≡ Some (as_pair there.0)) on (pair_at rec.devs there.1 there.0 there.2) in
            let place = inside there.1 (as_pair there.0) own in
            let row_size : Has rack there.0.path there.0.sectors = has_at rack place.0 (as_pair there.0) rises place.1 in
            let dev_size : Has rack there.0.path one.dev.1 = subst (λ (q : Path). Has rack q one.dev.1) (sym there.3) (has_at rack one.index one.dev rises one.of) in
            let size : there.0.sectors ≡ one.dev.1 = some_same there.0.sectors one.dev.1 (sym row_size ∙ dev_size) in
            record { index = there.1; dev = one.dev; of = own ∙ (λ i. Some (there.3 i, size i)); place = one.place; of_two = one.of_two; found = one.found }
        | inr none ↦
            let quiet = bears.alone one.index one.dev one.of none one.place one.of_two in
            absurd (none_some x (sym (seen_slot one.dev one.place one.of_two ∙ silent (has_header p one.dev.1 (c one.dev.0)) (keep p (slot_on one.dev.1 one.place (c one.dev.0))) quiet) ∙ one.found))
      ]

      pub records : AreRecords p devs c
      records = record { one = λ x y a b. bears.sound.one x y (candidate_in x a) (candidate_in y b); each = λ x a. bears.sound.each x (candidate_in x a) }

      pub newest_there : Candidate p devs c (g, pools.record_text rec)
      newest_there = candidate_on (g, pools.record_text rec) (newest_candidate rack (g, pools.record_text rec) bears.newest)

      pub below : (x : ℕ × List ℕ) → Candidate p devs c x → x.0 ≤ g
      below x one =
          let up = candidate_in x one in
          let least = least_over x.0 rack up.index up.dev up.of up.place up.of_two (record { one = x; is = up.found; from = omega arith }) in
          let same : least.one ≡ (g, pools.record_text rec) = some_same least.one (g, pools.record_text rec) (sym least.is ∙ bears.newest) in
          let number : least.one.0 ≡ g = ap (λ (y : ℕ × List ℕ). y.0) same in
          let from = least.from in
          omega arith

      -- any slot of the serial is a candidate
      pub slot_candidate : (k : ℕ) (d : Path × ℕ) → slice_get devs k ≡ Some d → (place : ℕ) → place < 2 → (x : ℕ × List ℕ) → keep p (read_slot pool_area place (c d.0)) ≡ Some x → Candidate p devs c x
      slot_candidate k d at place lt x found =
          record { index = k; dev = d; of = at; place = place; of_two = lt; found = ap (λ (b : Bool). cond b (keep p (read_slot pool_area place (c d.0))) None) (headed k d at) ∙ found }

      pub alone_there : OnRowsAlone p devs rec.devs c
      alone_there k d at no_row place lt =
          let row = row_at rec.devs k d (subst (λ (ds : Devices). slice_get ds k ≡ Some d) (sym on) at) in
          absurd (no_row row.0 k row.1 (ap (λ (x : Path × ℕ). x.0) row.2))

      -- the device of a path
      pub dev_at : (ds : Devices) (k : ℕ) (d : Path) → slice_get (paths ds) k ≡ Some d → (e : Path × ℕ) × (slice_get ds k ≡ Some e) × (e.0 ≡ d)
      dev_at [] k d at = absurd (none_some d at)
      dev_at (e ∷ ds) zero d at = (e, refl, some_same e.0 d at)
      dev_at (e ∷ ds) (suc k) d at = dev_at ds k d at

      pub slot_of_path : (d : Path) → IsOf (paths devs) d → (place : ℕ) → place < 2 → (x : ℕ × List ℕ) → keep p (read_slot pool_area place (c d)) ≡ Some x → Candidate p devs c x
      slot_of_path d of place lt x found =
          let dev = dev_at devs of.index d of.is in
          slot_candidate of.index dev.0 dev.1 place lt x (subst (λ (q : Path). keep p (read_slot pool_area place (c q)) ≡ Some x) (sym dev.2) found)

      pub one_body : AreOne pool_area p (paths devs) c
      one_body j k d e at_d at_e r q lt_r lt_q x y found_x found_y same =
          records.one x y (slot_of_path d (record { index = j; is = at_d }) r lt_r x found_x) (slot_of_path e (record { index = k; is = at_e }) q lt_q y found_y) same

      -- the slot of the newest record
      header_slot : (x : ℕ × List ℕ) (one : Candidate p devs c x) → keep p (read_slot pool_area one.place (c one.dev.0)) ≡ Some x
      header_slot x one = sym (ap (λ (b : Bool). cond b (keep p (read_slot pool_area one.place (c one.dev.0))) None) (headed one.index one.dev one.of)) ∙ one.found

      pub newest_body : history pool_area p (paths devs) c g ≡ pools.record_text rec
      newest_body =
          let one = newest_there in
          tells pool_area p c (paths devs) one_body one.dev.0 (record { index = one.index; is = path_at devs one.index one.dev one.of }) one.place one.of_two (g, pools.record_text rec) (header_slot (g, pools.record_text rec) one)

      pub ranked : (d : Path) → IsOf (paths devs) d → (place : ℕ) → place < 2 → Ranked p (history pool_area p (paths devs) c) g (read_slot pool_area place (c d))
      ranked d of place lt x found = (below x (slot_of_path d of place lt x found), tells pool_area p c (paths devs) one_body d of place lt x found)

      pub newest_slots : commits.newest_over pool_area p (paths devs) c ≡ Some (g, pools.record_text rec)
      newest_slots =
          let one = newest_there in
          is_top (history pool_area p (paths devs) c) g (commits.newest_over pool_area p (paths devs) c)
          (over_all pool_area p c (λ o. (x : ℕ × List ℕ) → o ≡ Some x → (x.0 ≤ g) × (history pool_area p (paths devs) c x.0 ≡ x.1)) (paths devs) (λ x e. absurd (none_some x e)) ranked)
          (over_least pool_area p c g (paths devs) one.dev.0 one.index one.place (path_at devs one.index one.dev one.of) one.of_two
          (record { one = (g, pools.record_text rec); is = header_slot (g, pools.record_text rec) one; from = omega arith }))
          ∙ ap (λ (b : List ℕ). Some (g, b)) newest_body

      pub bears_there : Bears p devs g rec c
      bears_there = record { newest = newest_same p c devs headed ∙ newest_slots; is = bears.is; serial = bears.serial; sound = records; alone = alone_there }
