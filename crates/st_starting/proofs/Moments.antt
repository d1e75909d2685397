-- What the devices of a pool stand for while its newest record is written where it is missing.
use Rattle.std.proofs.Common.{◌≡◌, inl, inr, ℕ, suc, ◌+◌, ◌<◌, Bool, true, false, cond, List, [], ◌∷◌, map, length, Option, Some, None, refl, sym, ◌∙◌, ap, subst, arith}
use Rattle.std.specs.List.{slice_get, AllByRecursion}
use Rattle.st_units.specs.declared.rows.DevRow.{DevRow}
use Rattle.st_header.specs.Header.{header_of}
use Rattle.st_poolrec.specs.declared.record.PoolRec.{PoolRec}
use Rattle.st_poolrec.specs.Record as pools
use Rattle.st_flexrec.specs.declared.rows.CellRow.{CellRow}
use Rattle.st_flexlog.specs.declared.state.FlexState.{FlexState}
use Rattle.st_flexlog.specs.declared.state.Mapping.{Mapping}
use Rattle.st_flexlog.specs.Said.{Says}
use Rattle.st_seg.specs.Blocks.{blocks_of}
use Rattle.st_model.specs.declared.state.PoolState.{PoolState}
use Rattle.st_model.specs.Merged.{merged}
use Rattle.st_rack.specs.Story.{Content, FairPast, Meant, NoChance, latest}
use Rattle.st_rack.specs.Device.{Path, State, Image, held}
use Rattle.st_rack.specs.Calls.{Devices}
use Rattle.st_rack.proofs.Cells.{cells_same}
use Rattle.st_rack.proofs.Chance.{found_in, latest_meant}
use Rattle.st_rack.proofs.Growth.{fair_before}
use Rattle.st_slots.specs.Reading.{read_slot}
use Rattle.st_deltalog.specs.Log.{Log}
use Rattle.st_deltalog.specs.Bearing.{IsSettled, Rests}
use Rattle.st_commit.specs.Standing as commits
use Rattle.st_commit.specs.Standing.{keep, records, slots_in, AreOne, LeftNow}
use Rattle.st_commit.specs.Ready.{IsOf, AllSlots, Outside, Ranked, Spares}
use Rattle.st_commit.specs.Repair.{NewestOnly}
use Rattle.st_commit.proofs.Repairing.{only_of_both}
use Rattle.st_commit.proofs.Roles.{slot_fair, slots_left_on}
use Rattle.st_image.specs.Left.{first_sectors, LeftOf}
use Rattle.st_image.specs.Looks.{Look, look_of, pool_area, flex_area, has_header, is_serial}
use Rattle.st_image.specs.Bears.{AreRecords, Bears, BearsWhole, HasRow, OnRowsAlone, SpellsPool, candidate, first_of, paths}
use Rattle.st_image.specs.Stands.{Gone, StandsFor, Whole, cell_rows, cells_of, state_of}
use Rattle.st_image.specs.Committed.{HasOwnHeader}
use Rattle.st_image.specs.Kept.{as_pair}
use Rattle.st_image.proofs.Committing.{IsRecord, bears_whole, commit_left, first_at, flex_sound, for_no_other, header_at, pair_at, path_at, row_at}
use Rattle.st_image.proofs.Unique.{stands_once}
use Rattle.st_starting.specs.Alike.{StandsAs, WasLeft}
use Rattle.st_starting.proofs.Restrict.{newest_same}

-- a pool without mappings is the same whatever the image
pub bare_state : (g : ℕ) (rec : PoolRec) (st : FlexState) (c m : Image) → st.mappings ≡ [] → state_of g rec st c ≡ state_of g rec st m
bare_state g rec st c m none =
    ap (λ (ms : List Mapping). record (state_of g rec st m) { cells = cells_of rec (cell_rows ms) c }) none
    ∙ sym (ap (λ (ms : List Mapping). record (state_of g rec st m) { cells = cells_of rec (cell_rows ms) m }) none)

pub bare_places : (rec : PoolRec) (st : FlexState) → st.mappings ≡ [] → AllByRecursion (λ (row : CellRow). row.place < length (blocks_of rec.segments)) (cell_rows st.mappings)
bare_places rec st none = subst (λ (ms : List Mapping). AllByRecursion (λ (row : CellRow). row.place < length (blocks_of rec.segments)) (cell_rows ms)) (sym none) tt

-- what is held of settled devices is fairly left of them
pub held_left : (p : ℕ) (devs : Devices) (s : State) → ((d : Path) → IsOf (paths devs) d → IsSettled (s d))
    → ((k : ℕ) (d : Path) → slice_get (paths devs) k ≡ Some d → (l : Look) → FairPast (look_of p (first_sectors devs) k l) (s d).story) → LeftOf p devs s (held s)
held_left p devs s settled past k d at = record { left = λ i sure. refl; fair = fair }
  where
    fair : (l : Look) → NoChance (look_of p (first_sectors devs) k l) (s d).story (s d).holds
    fair l =
        let own = settled d (record { index = k; is = at }) in
        let meant = latest_meant (s d).story in
        record {
          now = record { found = inr ((s d).holds, subst (λ (m : Content). Meant (s d).story m) (own.meant (latest (s d).story) meant) meant, refl) };
          past = past k d at l;
        }

by_index : (P : DevRow → Type 0) (rs : List DevRow) → ((k : ℕ) (r : DevRow) → slice_get rs k ≡ Some r → P r) → AllByRecursion P rs
by_index P [] each = tt
by_index P (r ∷ rs) each = (each 0 r refl, by_index P rs (λ k x is. each (suc k) x is))

-- the rows of the record are the devices
pub have_rows : (p : ℕ) (devs : Devices) (c : Image) (rec : PoolRec) → map as_pair rec.devs ≡ devs → ((k : ℕ) (d : Path × ℕ) → slice_get devs k ≡ Some d → has_header p d.1 (c d.0) ≡ true) → AllByRecursion (HasRow p devs c) rec.devs
have_rows p devs c rec on headed = by_index (HasRow p devs c) rec.devs (λ k r at. (
    let there = subst (λ (ds : Devices). slice_get ds k ≡ Some (as_pair r)) on (pair_at rec.devs k r at) in
    record { index = k; of = there; header = headed k (as_pair r) there }))

-- a header stays while slots of a generation are written
pub header_stays : (p sectors g : ℕ) (devs : List Path) (d : Path) (a s : State) → IsSettled (a d) → has_header p sectors (a d).holds ≡ true → Spares pool_area g devs a s → HasOwnHeader p sectors (s d)
header_stays p sectors g devs d a s settled own spares = record {
  sure = λ i low high. (spares d).0.sure i (out i high) (settled.sure i);
  header = ap (λ (l : List ℕ). is_serial p (header_of sectors l)) (cells_same (s d).holds (a d).holds 0 8192 (λ i low high. (spares d).0.same i (out i high))) ∙ own;
}
  where
    out : (i : ℕ) → i < 0 + 8192 → Outside pool_area g i
    out i high = inl (omega (arith, high))

module _ (p : ℕ) (devs : Devices) (g : ℕ) (rec : PoolRec) (is : pools.IsPoolRec rec) (own : rec.serial ≡ p) (on : map as_pair rec.devs ≡ devs) (h : ℕ → List ℕ) (past : (n : ℕ) → (old : PoolRec) × SpellsPool (h n) old)
    (s : State) (headers : (k : ℕ) (d : Path × ℕ) → slice_get devs k ≡ Some d → HasOwnHeader p d.1 (s d.0))
    (newest : NewestOnly pool_area p (paths devs) g (pools.record_text rec) s) (slots : AllSlots pool_area (paths devs) (Ranked p h g) s) (c : Image) (leaves : LeftOf p devs s c) where
  fairly : LeftNow (paths devs) (records pool_area flex_area) s c
  fairly = commit_left p devs s c headers leaves

  both : AreOne pool_area p (paths devs) c × (commits.newest_over pool_area p (paths devs) c ≡ Some (g, pools.record_text rec))
  both = newest c (slots_left_on pool_area flex_area (paths devs) s c fairly)

  headed : (k : ℕ) (d : Path × ℕ) → slice_get devs k ≡ Some d → has_header p d.1 (c d.0) ≡ true
  headed = header_at p devs s c headers leaves

  each_record : (k : ℕ) (d : Path × ℕ) → slice_get devs k ≡ Some d → (r : ℕ) → r < 2 → IsRecord p (read_slot pool_area r (c d.0))
  each_record k d at r lt x kept =
      let there = path_at devs k d at in
      let ranked = found_in (read_slot pool_area r) (Ranked p h g) (s d.0).story (c d.0) (λ x e. absurd (cc)) (slots d.0 (record { index = k; is = there }) r lt)
      (slot_fair pool_area (s d.0) (c d.0) (slots_left_on pool_area flex_area (paths devs) s c fairly k d.0 there) r lt) x kept in
      subst (λ (b : List ℕ). (old : PoolRec) × SpellsPool b old) ranked.1 (past x.0)

  slot_of : (k : ℕ) (d : Path × ℕ) → slice_get devs k ≡ Some d → (r : ℕ) (x : ℕ × List ℕ) → candidate p d.1 r (c d.0) ≡ Some x → keep p (read_slot pool_area r (c d.0)) ≡ Some x
  slot_of k d at r x found = sym (ap (λ (b : Bool). cond b (keep p (read_slot pool_area r (c d.0))) None) (headed k d at)) ∙ found

  sound : AreRecords p devs c
  sound = record {
    one = λ x y a b same. both.0 a.index b.index a.dev.0 b.dev.0 (path_at devs a.index a.dev a.of) (path_at devs b.index b.dev b.of) a.place b.place a.of_two b.of_two x y
        (slot_of a.index a.dev a.of a.place x a.found) (slot_of b.index b.dev b.of b.place y b.found) same;
    each = λ x a. each_record a.index a.dev a.of a.place a.of_two x (slot_of a.index a.dev a.of a.place x a.found);
  }

  alone : OnRowsAlone p devs rec.devs c
  alone k d at no_row place lt =
      let row = row_at rec.devs k d (subst (λ (ds : Devices). slice_get ds k ≡ Some d) (sym on) at) in
      absurd (no_row row.0 k row.1 (ap (λ (x : Path × ℕ). x.0) row.2))

  pub bears_left : Bears p devs g rec c
  bears_left = record { newest = newest_same p c devs headed ∙ both.1; is = is; serial = own; sound = sound; alone = alone }

  -- of a pool that is gone
  pub gone_left : (m : Image) → rec.gone ≡ true → StandsFor p devs m None → StandsAs p devs m c
  gone_left m gone was found stands =
      let same : found ≡ None = stands_once p devs m found None stands was in
      (subst (λ (o : Option PoolState). StandsFor p devs c o) (sym same) (Gone g rec bears_left gone), λ others. for_no_other p devs s c headers leaves)

  -- of a pool whose log is there
  pub whole_left : (m : Image) (st : FlexState) (log : Log) → rec.gone ≡ false → Says log.start log.body log.deltas st → st.version2 ≡ rec.version2 → st.mappings ≡ [] → Rests flex_area p g g log (s (first_of rec))
      → StandsFor p devs m (Some (merged (state_of g rec st m))) → StandsAs p devs m c
  whole_left m st log alive says version none rests was found stands =
      let same : found ≡ Some (merged (state_of g rec st m)) = stands_once p devs m found (Some (merged (state_of g rec st m))) stands was in
      let only = only_of_both pool_area flex_area p g g (pools.record_text rec) log (paths devs) (first_of rec) s (first_at devs rec is on) flex_sound newest rests c fairly in
      let bears : BearsWhole p devs g rec st c = bears_whole p devs c headed g rec st log is own on says version only.0 only.1 each_record in
      let whole : Whole p devs c g rec st = record { bears = bears; alive = alive; places = bare_places rec st none } in (
        subst (λ (o : Option PoolState). StandsFor p devs c o) (sym same) (inl (g, rec, st, whole, ap merged (bare_state g rec st m c none))),
        λ others. for_no_other p devs s c headers leaves,
      )

-- what a crash leaves at a moment stands for what the settled devices held, which a crash at their start could leave
pub was_left : (p : ℕ) (devs : Devices) (g : ℕ) (a s : State) (c : Image) → ((d : Path) → IsOf (paths devs) d → IsSettled (a d)) → Spares pool_area g (paths devs) a s → LeftOf p devs s c → StandsAs p devs (held a) c → WasLeft p devs a c
was_left p devs g a s c settled spares leaves same = record {
  image = held a;
  left = held_left p devs a settled (λ k d at l. fair_before (look_of p (first_sectors devs) k l) (a d).story (s d).story (spares d).0.grows ((leaves k d at).fair l).past);
  same = same;
}
