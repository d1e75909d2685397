-- What commits leave shows in each image that a crash may leave.
use Rattle.std.proofs.Common.{◌≡◌, ◌⊎◌, inl, inr, ◌≢◌, ℕ, zero, suc, ◌<◌, ◌≤◌, Bool, true, false, ◌&&◌, ◌||◌, leb, cond, nat_eq, nat_lt, List, [], ◌∷◌, length, map, Option, Some, None, refl, sym, ◌∙◌, ap, subst, arith}
use Rattle.std.specs.List.{slice_get, AllByRecursion}
use Rattle.std.proofs.lemmas.Bool.{and_parts, leb-true}
use Rattle.std.proofs.lemmas.Bool.Decides.{nat_tests}
use Rattle.st_limits.specs.declared.TheConstants.{MAX_POOL_DEVICES}
use Rattle.st_fields.specs.Slot.{Found}
use Rattle.st_units.specs.declared.rows.DevRow.{DevRow}
use Rattle.st_header.specs.Header.{header_of}
use Rattle.st_poolrec.specs.declared.record.PoolRec.{PoolRec}
use Rattle.st_poolrec.specs.Record as pools
use Rattle.st_poolrec.specs.Conditions.{most_filesystems, rows_fit}
use Rattle.st_flexlog.specs.declared.state.FlexState.{FlexState}
use Rattle.st_rack.specs.Story.{Content, Story, Meant, Fair}
use Rattle.st_rack.specs.Device.{Path, DevState, State, Image, Leaves, cells}
use Rattle.st_rack.specs.Left.{LeavesFairly}
use Rattle.st_rack.specs.Calls.{Devices}
use Rattle.st_rack.proofs.Cells.{cells_same}
use Rattle.st_rack.proofs.Chance.{found_in}
use Rattle.st_slots.specs.Reading.{read_slot, newer}
use Rattle.st_flexlog.specs.Said.{Says}
use Rattle.st_deltalog.specs.Log.{Log, log_at, checkpoint_in}
use Rattle.st_commit.specs.Standing as commits
use Rattle.st_commit.specs.Standing.{keep, with_log, records, AreOne, LeftNow}
use Rattle.st_commit.specs.Ready.{IsSound, Ranked}
use Rattle.st_commit.proofs.Roles.{slot_fair, slots_left_on}
use Rattle.st_commit.proofs.Steps.{Sure, certain, record_left}
use Rattle.st_commit.proofs.Whole.{based_sure}
use Rattle.st_image.specs.Looks.{PoolSlot, Checkpoint, is_serial, has_header, look_of, pool_area, flex_area}
use Rattle.st_image.specs.Left.{first_sectors, LeftOf}
use Rattle.st_image.specs.Bears.{candidate, newest_on, newest_over, AreRecords, BearsWhole, HasRow, OnRowsAlone, SpellsPool, first_of, path_in, paths}
use Rattle.st_image.specs.Kept.{NoneOrGone, as_pair}
use Rattle.st_image.specs.Calm.{ForNoOther, Shows}
use Rattle.st_image.specs.Committed.{HasOwnHeader, Committed}

not_zero : (k : ℕ) → nat_eq (suc k) 0 ≡ false
not_zero k = grind (arith, nat_tests)

-- where a content is seen, what is found in it is fair by itself
unseen : (a : Bool) (own : Content → Bool) (read : Content → Found) (story : Story) (c : Content) → own c ≡ true
    → Fair (λ (f : Content). cond a (cond (own f) (read f) None) None) story c → Fair (λ (f : Content). cond a (read f) None) story c
unseen a own read story c owns fair = record {
  found = elim fair.found [
    | inl none ↦ inl (sym here ∙ none)
    | inr like ↦ by (own like.0) like.0 refl like.1 like.2
  ];
}
  where
    here : cond a (cond (own c) (read c) None) None ≡ cond a (read c) None
    here = ap (λ (b : Bool). cond a (cond b (read c) None) None) owns

    nothing : (a : Bool) → cond {A = Found} a None None ≡ None
    nothing true = refl
    nothing false = refl

    by : (b : Bool) (m : Content) → own m ≡ b → Meant story m → cond a (cond (own c) (read c) None) None ≡ cond a (cond (own m) (read m) None) None → (cond a (read c) None ≡ None) ⊎ ((n : Content) × Meant story n × (cond a (read c) None ≡ cond a (read n) None))
    by true m e meant same = inr (m, meant, sym here ∙ same ∙ ap (λ (b : Bool). cond a (cond b (read m) None) None) e)
    by false m e meant same = inl (sym here ∙ same ∙ ap (λ (b : Bool). cond a (cond b (read m) None) None) e ∙ nothing a)

-- a place of a path
pub path_at : (devs : Devices) (k : ℕ) (d : Path × ℕ) → slice_get devs k ≡ Some d → slice_get (paths devs) k ≡ Some d.0
path_at [] k d is = absurd (cc)
path_at (e ∷ ds) zero d is = ap path_found is
  where
    path_found : Option (Path × ℕ) → Option Path
    path_found None = None
    path_found (Some x) = Some x.0
path_at (e ∷ ds) (suc k) d is = path_at ds k d is

pub row_at : (rs : List DevRow) (k : ℕ) (d : Path × ℕ) → slice_get (map as_pair rs) k ≡ Some d → (r : DevRow) × (slice_get rs k ≡ Some r) × (as_pair r ≡ d)
row_at [] k d is = absurd (cc)
row_at (r ∷ rs) zero d is = (r, refl, same_of (as_pair r) d is)
  where
    same_of : (x z : Path × ℕ) → Some x ≡ Some z → x ≡ z
    same_of x z e = cc
row_at (r ∷ rs) (suc k) d is = row_at rs k d is

pub pair_at : (rs : List DevRow) (k : ℕ) (r : DevRow) → slice_get rs k ≡ Some r → slice_get (map as_pair rs) k ≡ Some (as_pair r)
pair_at [] k r is = absurd (cc)
pair_at (x ∷ rs) zero r is = ap paired is
  where
    paired : Option DevRow → Option (Path × ℕ)
    paired None = None
    paired (Some y) = Some (as_pair y)
pair_at (x ∷ rs) (suc k) r is = pair_at rs k r is

head_path : (rs : List DevRow) → 1 ≤ length rs → slice_get (paths (map as_pair rs)) 0 ≡ Some (path_in (slice_get rs 0))
head_path [] lt = absurd (omega arith)
head_path (r ∷ rs) lt = refl

pub some_device : (rec : PoolRec) → pools.is_record rec ≡ true → 1 ≤ length rec.devs
some_device rec valid =
    let rest = (and_parts (leb rec.fs_limit (most_filesystems rec.version2)) (leb 1 (length rec.devs) && (leb (length rec.devs) MAX_POOL_DEVICES && (leb (length rec.segments) MAX_POOL_DEVICES && rows_fit rec.devs rec.segments))) valid).1 in
    leb-true _ _ (and_parts (leb 1 (length rec.devs)) (leb (length rec.devs) MAX_POOL_DEVICES && (leb (length rec.segments) MAX_POOL_DEVICES && rows_fit rec.devs rec.segments)) rest).0

by_index : (P : DevRow → Type 0) (rs : List DevRow) → ((k : ℕ) (r : DevRow) → slice_get rs k ≡ Some r → P r) → AllByRecursion P rs
by_index P [] each = tt
by_index P (r ∷ rs) each = (each 0 r refl, by_index P rs (λ k x is. each (suc k) x is))

-- the header of a device
pub header_left : (p sectors : ℕ) (s : DevState) (f : Content) → HasOwnHeader p sectors s → Leaves s f → has_header p sectors f ≡ true
header_left p sectors s f own left = ap (λ (l : List ℕ). is_serial p (header_of sectors l)) (cells_same f s.holds 0 8192 (λ i low high. left i (own.sure i low high))) ∙ own.header

pub not_serial : (p q : ℕ) (o : Option ℕ) → q ≢ p → is_serial p o ≡ true → is_serial q o ≡ false
not_serial p q None ne e = refl
not_serial p q (Some n) ne e = grind (arith, nat_tests)

-- what a record with its log tells
record Told (p g : ℕ) (body : List ℕ) (log : Log) (f : Content) (o : Found) : Type 0 where
  newest : o ≡ Some (g, body)
  log_is : log_at flex_area p g f ≡ Some log

told : (p g : ℕ) (body : List ℕ) (log : Log) (f : Content) (o : Found) → with_log flex_area p f o ≡ Some ((g, body), Some log) → Told p g body log f o
told p g body log f None e = absurd (cc)
told p g body log f (Some x) e =
    let pair = inner (x, log_at flex_area p x.0 f) ((g, body), Some log) e in
    let same : x ≡ (g, body) = ap (λ (y : (ℕ × List ℕ) × Option Log). y.0) pair in
    record {
      newest = ap (λ (y : ℕ × List ℕ). Some y) same;
      log_is = subst (λ (y : ℕ × List ℕ). log_at flex_area p y.0 f ≡ Some log) same (ap (λ (y : (ℕ × List ℕ) × Option Log). y.1) pair);
    }
  where
    inner : (a b : (ℕ × List ℕ) × Option Log) → Some a ≡ Some b → a ≡ b
    inner a b e = cc

module _ (p : ℕ) (c : Image) where
  -- with headers, the newest is the newest of all slots
  newest_same : (ds : Devices) → ((k : ℕ) (d : Path × ℕ) → slice_get ds k ≡ Some d → has_header p d.1 (c d.0) ≡ true) → newest_over p ds c ≡ commits.newest_over pool_area p (paths ds) c
  newest_same [] headers = refl
  newest_same (d ∷ ds) headers =
      let here = headers 0 d refl in
      let rest = newest_same ds (λ k e is. headers (suc k) e is) in
      λ i. newer (newer (cond (here i) (keep p (read_slot pool_area 0 (c d.0))) None) (cond (here i) (keep p (read_slot pool_area 1 (c d.0))) None)) (rest i)

-- the first device of a record
pub first_at : (devs : Devices) (rec : PoolRec) → pools.IsPoolRec rec → map as_pair rec.devs ≡ devs → slice_get (paths devs) 0 ≡ Some (first_of rec)
first_at devs rec is rows = subst (λ (ds : Devices). slice_get (paths ds) 0 ≡ Some (first_of rec)) rows (head_path rec.devs (some_device rec is.valid))

pub flex_sound : IsSound flex_area
flex_sound = record { eight = refl; small = omega arith }

-- devices that bear the pool's headers for sure
module _ (p : ℕ) (devs : Devices) (s : State) (c : Image) (headers : (k : ℕ) (d : Path × ℕ) → slice_get devs k ≡ Some d → HasOwnHeader p d.1 (s d.0)) (leaves : LeftOf p devs s c) where
  pub header_at : (k : ℕ) (d : Path × ℕ) → slice_get devs k ≡ Some d → has_header p d.1 (c d.0) ≡ true
  header_at k d is = header_left p d.1 (s d.0) (c d.0) (headers k d is) (leaves k d.0 (path_at devs k d is)).left

  own_first : (ds : Devices) (d : Path) → slice_get (paths ds) 0 ≡ Some d → ((k : ℕ) (e : Path × ℕ) → slice_get ds k ≡ Some e → has_header p e.1 (c e.0) ≡ true) → has_header p (first_sectors ds) (c d) ≡ true
  own_first [] d is headers = absurd (cc)
  own_first (e ∷ ds) d is headers = let same : e.0 ≡ d = cc in subst (λ (q : Path). has_header p e.1 (c q) ≡ true) same (headers 0 e refl)

  -- what is fairly left of the pool, as a commit's readers have it
  pub commit_left : LeftNow (paths devs) (records pool_area flex_area) s c
  commit_left k d is = record { left = (leaves k d is).left; fair = λ i. by k i.0 i.1 is (leaves k d is) }
    where
      by : (k : ℕ) (b : Bool) (r : ℕ) → slice_get (paths devs) k ≡ Some d → LeavesFairly (look_of p (first_sectors devs) k) (s d) (c d) → Fair (records pool_area flex_area k (b, r)) (s d).story (c d)
      by k true r at left = (left.fair (PoolSlot r)).now
      by zero false r at left = unseen (nat_lt r 2) (has_header p (first_sectors devs)) (checkpoint_in flex_area r) (s d).story (c d) (own_first devs d at header_at) (left.fair (Checkpoint r)).now
      by (suc k) false r at left = record { found = inl (ap (λ (b : Bool). cond (b && nat_lt r 2) (checkpoint_in flex_area r (c d)) None) (not_zero k)) }

  -- by themselves they stand for no other pool
  pub for_no_other : ForNoOther p devs c
  for_no_other q k d ne is = subst NoneOrGone (sym other_none) tt
    where
      other_none : newest_on q d.1 (c d.0) ≡ None
      other_none =
          let none : has_header q d.1 (c d.0) ≡ false = not_serial p q (header_of d.1 (cells (c d.0) 0 8192)) ne (header_at k d is) in
          λ i. newer (cond (none i) (keep q (read_slot pool_area 0 (c d.0))) None) (cond (none i) (keep q (read_slot pool_area 1 (c d.0))) None)

-- a slot of the pool holds a record
abbrev pub IsRecord : ℕ → Found → Type 0
IsRecord p o = (x : ℕ × List ℕ) → keep p o ≡ Some x → (rec : PoolRec) × SpellsPool x.1 rec

-- records of an image in which each device has the pool's header
module _ (p : ℕ) (devs : Devices) (c : Image) (headed : (k : ℕ) (d : Path × ℕ) → slice_get devs k ≡ Some d → has_header p d.1 (c d.0) ≡ true) (g : ℕ) (rec : PoolRec) (st : FlexState) (log : Log)
    (is : pools.IsPoolRec rec) (own : rec.serial ≡ p) (rows : map as_pair rec.devs ≡ devs) (says : Says log.start log.body log.deltas st) (version : st.version2 ≡ rec.version2)
    (one : AreOne pool_area p (paths devs) c) (stands : commits.stands pool_area flex_area p (paths devs) (first_of rec) c ≡ commits.standing_of g (pools.record_text rec) (Some log))
    (each : (k : ℕ) (d : Path × ℕ) → slice_get devs k ≡ Some d → (r : ℕ) → r < 2 → IsRecord p (read_slot pool_area r (c d.0))) where
  tells : Told p g (pools.record_text rec) log (c (first_of rec)) (commits.newest_over pool_area p (paths devs) c)
  tells = told p g (pools.record_text rec) log (c (first_of rec)) (commits.newest_over pool_area p (paths devs) c) stands

  slot_of : (k : ℕ) (d : Path × ℕ) → slice_get devs k ≡ Some d → (r : ℕ) (x : ℕ × List ℕ) → candidate p d.1 r (c d.0) ≡ Some x → keep p (read_slot pool_area r (c d.0)) ≡ Some x
  slot_of k d at r x found = sym (ap (λ (b : Bool). cond b (keep p (read_slot pool_area r (c d.0))) None) (headed k d at)) ∙ found

  are_records : AreRecords p devs c
  are_records = record {
    one = λ x y a b same. one a.index b.index a.dev.0 b.dev.0 (path_at devs a.index a.dev a.of) (path_at devs b.index b.dev b.of) a.place b.place a.of_two b.of_two x y
        (slot_of a.index a.dev a.of a.place x a.found) (slot_of b.index b.dev b.of b.place y b.found) same;
    each = λ x a. each a.index a.dev a.of a.place a.of_two x (slot_of a.index a.dev a.of a.place x a.found);
  }

  alone : OnRowsAlone p devs rec.devs c
  alone k d at no_row place lt =
      let row = row_at rec.devs k d (subst (λ (ds : Devices). slice_get ds k ≡ Some d) (sym rows) at) in
      absurd (no_row row.0 k row.1 (ap (λ (x : Path × ℕ). x.0) row.2))

  has_rows : AllByRecursion (HasRow p devs c) rec.devs
  has_rows = by_index (HasRow p devs c) rec.devs (λ k r at. (
      let there = subst (λ (ds : Devices). slice_get ds k ≡ Some (as_pair r)) rows (pair_at rec.devs k r at) in
      record { index = k; of = there; header = headed k (as_pair r) there }))

  pub bears_whole : BearsWhole p devs g rec st c
  bears_whole = record {
    record_of = record { newest = newest_same p c devs headed ∙ tells.newest; is = is; serial = own; sound = are_records; alone = alone };
    rows = has_rows;
    flexed = record { log = log; is = tells.log_is; says = says };
    version = version;
  }

module _ (p : ℕ) (devs : Devices) (g : ℕ) (rec : PoolRec) (st : FlexState) (s : State) (c : Image) (pool : Committed p devs g rec st s) (leaves : LeftOf p devs s c) where
  fairly : LeftNow (paths devs) (records pool_area flex_area) s c
  fairly = commit_left p devs s c pool.headers leaves

  first_sure : Sure pool_area flex_area p g (pool.h g) (Some pool.log) (s (first_of rec))
  first_sure = based_sure pool_area flex_area p pool.up g (pool.h g) (Some pool.log) (s (first_of rec)) pool.ready.base

  shown : AreOne pool_area p (paths devs) c × (commits.stands pool_area flex_area p (paths devs) (first_of rec) c ≡ commits.standing_of g (pool.h g) (Some pool.log))
  shown = certain pool_area flex_area p pool.h (paths devs) (first_of rec) g (first_at devs rec pool.is pool.rows) flex_sound s (Some pool.log) first_sure pool.ready.slots c fairly

  each_record : (k : ℕ) (d : Path × ℕ) → slice_get devs k ≡ Some d → (r : ℕ) → r < 2 → IsRecord p (read_slot pool_area r (c d.0))
  each_record k d is r lt x kept =
      let at = path_at devs k d is in
      let ranked = found_in (read_slot pool_area r) (Ranked p pool.h g) (s d.0).story (c d.0) (λ x e. absurd (cc)) (pool.ready.slots d.0 (record { index = k; is = at }) r lt)
      (slot_fair pool_area (s d.0) (c d.0) (slots_left_on pool_area flex_area (paths devs) s c fairly k d.0 at) r lt) x kept in
      subst (λ (b : List ℕ). (old : PoolRec) × SpellsPool b old) ranked.1 (pool.past x.0)

  pub committed_shows : Shows p devs g rec st c
  committed_shows = record {
    bears = bears_whole p devs c (header_at p devs s c pool.headers leaves) g rec st pool.log pool.is pool.serial pool.rows pool.says pool.version shown.0
        (shown.1 ∙ ap (λ (b : List ℕ). commits.standing_of g b (Some pool.log)) pool.top) each_record;
    borne = λ k d is. record_left pool_area g (pools.record_text rec) (s d.0) (c d.0) (pool.borne k d is) (leaves k d.0 (path_at devs k d is)).left;
    others = for_no_other p devs s c pool.headers leaves;
  }
