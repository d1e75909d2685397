-- At each moment while a pool is made a crash leaves no pool or the new one.
use Rattle.std.proofs.Common.{◌≡◌, ◌⊎◌, inl, inr, ℕ, zero, suc, ◌+◌, ◌/◌, ◌<◌, ◌≤◌, Bool, true, false, cond, not, nat_eq, List, [], ◌∷◌, length, filter, Option, Some, None, refl, sym, ◌∙◌, ap, subst, arith}
use Rattle.std.specs.List.{slice_get, AllByRecursion}
use Rattle.std.proofs.lemmas.List.{append-nil}
use Rattle.st_fields.specs.Slot.{Found}
use Rattle.st_header.specs.Header.{IsSerial}
use Rattle.st_limits.specs.Sums.{IsDeviceSize}
use Rattle.st_units.specs.declared.rows.DevRow.{DevRow}
use Rattle.st_units.specs.declared.rows.Tier.{Tier}
use Rattle.st_units.specs.declared.rows.Tier.TheVariants.{DataTier}
use Rattle.st_recrows.specs.Rows.{Spells}
use Rattle.st_poolrec.specs.declared.record.PoolRec.{PoolRec}
use Rattle.st_poolrec.specs.Record as pools
use Rattle.st_flexrec.specs.Conditions.{IsFlexRec}
use Rattle.st_flexrec.specs.Record.{record_text}
use Rattle.st_flexrec.specs.declared.rows.CellRow.{CellRow}
use Rattle.st_flexlog.specs.Said.{Says}
use Rattle.st_flexlog.proofs.Saying.{says_begun}
use Rattle.st_model.specs.Sums.{cache_rows, is_data}
use Rattle.st_model.specs.Merged.{merged}
use Rattle.st_model.specs.declared.state.PoolState.{PoolState}
use Rattle.st_seg.specs.Blocks.{blocks_from, blocks_of}
use Rattle.st_seg.proofs.Parts.{length-blocks_from}
use Rattle.st_rack.specs.Story.{Content, Fair}
use Rattle.st_rack.specs.Device.{Path, State, Image}
use Rattle.st_rack.specs.Left.{LeavesFairly}
use Rattle.st_rack.specs.Calls.{Devices}
use Rattle.st_slots.specs.Reading.{read_slot, newer}
use Rattle.st_deltalog.specs.Bearing.{IsSettled, IsTail}
use Rattle.st_deltalog.specs.Log.{Log, begun}
use Rattle.st_commit.specs.Standing as commits
use Rattle.st_commit.specs.Standing.{keep, standing_of, stands, with_log, records, LeftNow, OneOf}
use Rattle.st_commit.specs.Ready.{BearsRecord, IsOf, Moves, NoOther, Ready, WasThere, next}
use Rattle.st_commit.proofs.Roles.{slots_left_on}
use Rattle.st_commit.proofs.Restart.{none_of}
use Rattle.st_commit.proofs.Steps.{keep_is}
use Rattle.st_image.specs.Looks.{pool_area, flex_area, has_header, look_of, Copy}
use Rattle.st_image.specs.Left.{LeftOf, first_sectors}
use Rattle.st_image.specs.Bears.{candidate, newest_over, SpellsPool, first_of, paths}
use Rattle.st_image.specs.Stands.{cell_rows, cold_cache, state_of, StandsFor, Nothing}
use Rattle.st_image.specs.Calm.{ForNoOther}
use Rattle.st_image.specs.Committed.{HasOwnHeader, Committed}
use Rattle.st_image.proofs.Committing.{IsRecord, path_at, row_at, header_at, commit_left, for_no_other, bears_whole}
use Rattle.st_books.specs.declared.books.Books.{Books}
use Rattle.st_books.specs.Spelled.{IsBare}
use Rattle.st_books.specs.Ready.{AreReady, AreSafe, rows_of}
use Rattle.st_books.proofs.Between.{stands_whole}
use Rattle.st_books.proofs.Moving.{header_stays}
use Rattle.st_making.specs.First.{AreNew, first_flex, first_record, first_segment, flex_record}
use Rattle.st_making.specs.Made.{AreFree, BearHeaders, IsMade, made}
use Rattle.st_making.specs.inner.Heading.{AllHeading, AllHeaded}
use Rattle.st_making.proofs.Heads.{look_at, alone_left, slot_left, bears_header, headed_own, headed_settled, headed_slot}

-- no candidate on any device
none_over : (p : ℕ) (c : Image) (ds : Devices) → ((k : ℕ) (d : Path × ℕ) → slice_get ds k ≡ Some d → (r : ℕ) → r < 2 → candidate p d.1 r (c d.0) ≡ None) → newest_over p ds c ≡ None
none_over p c [] none = refl
none_over p c (d ∷ ds) none =
    let zero_none = none 0 d refl 0 (omega arith) in
    let one_none = none 0 d refl 1 (omega arith) in
    let rest = none_over p c ds (λ k e is. none (suc k) e is) in
    (λ i. newer (newer (zero_none i) (one_none i)) (rest i))

either_none : (b : Bool) (o : Found) → o ≡ None → cond b o None ≡ None
either_none true o none = none
either_none false o none = refl

none_or_some : (o : Found) → (o ≡ None) ⊎ ((x : ℕ × List ℕ) × (o ≡ Some x))
none_or_some None = inl refl
none_or_some (Some x) = inr (x, refl)

none_some : (x : ℕ × List ℕ) → None ≡ Some x → ⊥
none_some x e = cc

no_log : (p : ℕ) (f : Content) (o : Found) → with_log flex_area p f o ≡ None → o ≡ None
no_log p f None e = refl
no_log p f (Some x) e = absurd (cc)

at_row : (P : DevRow → Type 0) (rows : List DevRow) → AllByRecursion P rows → (k : ℕ) (r : DevRow) → slice_get rows k ≡ Some r → P r
at_row P [] all k r is = absurd (cc)
at_row P (x ∷ xs) all zero r is = subst P (some_inj x r is) all.0
  where
    some_inj : (a b : DevRow) → Some a ≡ Some b → a ≡ b
    some_inj a b e = cc
at_row P (x ∷ xs) all (suc k) r is = at_row P xs all.1 k r is

-- data devices are no cache
pub no_cache : (rows : List DevRow) → AllByRecursion (λ (row : DevRow). row.tier ≡ DataTier) rows → cache_rows rows ≡ []
no_cache [] all = refl
no_cache (r ∷ rows) all =
    ap (λ (t : Tier). cond (not (is_data t)) (r ∷ filter (λ (row : DevRow). not (is_data row.tier)) rows) (filter (λ (row : DevRow). not (is_data row.tier)) rows)) all.0 ∙ no_cache rows all.1

pub first_blocks : length (blocks_of (first_segment ∷ [])) ≡ 32
first_blocks = ap length (append-nil (blocks_from 0 26 32)) ∙ length-blocks_from 0 26 32

-- what the model makes of the call is what the first records say
stood_made : (serial : ℕ) (name : List ℕ) (devs : List DevRow) (m : Image) → cache_rows devs ≡ [] → merged (state_of 1 (first_record serial name devs) (first_flex serial) m) ≡ made (first_record serial name devs)
stood_made serial name devs m none = ap (λ (x : ℕ × List DevRow). merged (record (state_of 1 (first_record serial name devs) (first_flex serial) m) { allocated = x.0; cache = cold_cache x.1 })) (λ i. (first_blocks i, none i))

pub new_stood : (b : Books) (m : Image) → AreNew b → merged (state_of b.generation b.rec b.flex m) ≡ made b.rec
new_stood b m new =
    ap (λ (x : Books). merged (state_of x.generation x.rec x.flex m)) new.are
    ∙ stood_made b.rec.serial b.rec.name b.rec.devs m (no_cache b.rec.devs new.rows.data_rows)
    ∙ ap (λ (x : Books). made x.rec) (sym new.are)

module _ (b : Books) (new : AreNew b) where
  abbrev pub p : ℕ
  p = b.rec.serial

  abbrev pub devs : Devices
  devs = rows_of b.rec

  abbrev pub text : List ℕ
  text = pools.record_text b.rec

  pub serial : IsSerial p
  serial = record { from = new.from; until = new.until }

  pub large : (k : ℕ) (d : Path × ℕ) → slice_get devs k ≡ Some d → 8192 ≤ d.1
  large k d at =
      let row = row_at b.rec.devs k d at in
      let size : 8192 ≤ row.0.sectors = (at_row (λ (r : DevRow). IsDeviceSize r.sectors) b.rec.devs new.rows.sizes k row.0 row.1).0 in
      subst (λ (e : Path × ℕ). 8192 ≤ e.1) row.2 size

  alive : b.rec.gone ≡ false
  alive = ap (λ (x : Books). x.rec.gone) new.are

  safe : (s : State) → AreSafe b.rec b.flex s
  safe s k row is = absurd (none row (sym (ap (λ (x : Books). slice_get (cell_rows x.flex.mappings) k) new.are) ∙ is))
    where
      none : (row : CellRow) → slice_get (cell_rows (first_flex p).mappings) k ≡ Some row → ⊥
      none row e = cc

  version : b.flex.version2 ≡ b.rec.version2
  version = ap (λ (x : Books). x.flex.version2) new.are ∙ sym (ap (λ (x : Books). x.rec.version2) new.are)

  generation_one : b.generation ≡ 1
  generation_one = ap (λ (x : Books). x.generation) new.are

  -- while the headers are written
  module _ (a : State) (free : AreFree p devs a) where
    module _ (s : State) (heading : AllHeading p devs a s) (c : Image) (leaves : LeftOf p devs s c) where
      here : (k : ℕ) (d : Path × ℕ) → slice_get devs k ≡ Some d → LeavesFairly (look_of p (first_sectors devs) k) (s d.0) (c d.0)
      here k d at = leaves k d.0 (path_at devs k d at)

      one_fair : (k : ℕ) (d : Path × ℕ) → slice_get devs k ≡ Some d → Fair (look_at d.1 512) (s d.0).story (c d.0)
      one_fair k d at = ((here k d at).fair (Copy d.1 1)).now

      nine_fair : (k : ℕ) (d : Path × ℕ) → slice_get devs k ≡ Some d → Fair (look_at d.1 4608) (s d.0).story (c d.0)
      nine_fair k d at = ((here k d at).fair (Copy d.1 9)).now

      no_slot : (k : ℕ) (d : Path × ℕ) → slice_get devs k ≡ Some d → (r : ℕ) → r < 2 → candidate p d.1 r (c d.0) ≡ None
      no_slot k d at r lt =
          either_none (has_header p d.1 (c d.0)) (keep p (read_slot pool_area r (c d.0)))
          (ap (keep p) (slot_left p d.1 (large k d at) serial (a d.0) (s d.0) (free k d at).settled (heading.here k d at) (c d.0) (here k d at).left r lt) ∙ (free k d at).no_slot r lt)

      others : ForNoOther p devs c
      others q k d ne at = alone_left p d.1 (large k d at) serial (a d.0) (s d.0) (free k d at).settled (heading.here k d at) (c d.0) (here k d at).left (one_fair k d at) (nine_fair k d at) q ne ((free k d at).alone q)

      pub no_pool_left : (found : Option PoolState) × StandsFor p devs c found × IsMade (made b.rec) found × ForNoOther p devs c
      no_pool_left = (None, Nothing (none_over p c devs no_slot), inl refl, others)

    -- when they are written
    module _ (m : State) (headed : AllHeaded p devs a m) where
      pub own_headers : (k : ℕ) (d : Path × ℕ) → slice_get devs k ≡ Some d → HasOwnHeader p d.1 (m d.0)
      own_headers k d at = headed_own p d.1 (large k d at) serial (a d.0) (m d.0) (headed.here k d at)

      pub bear_headers : BearHeaders p devs m
      bear_headers k d at = bears_header p d.1 (large k d at) serial (a d.0) (m d.0) (headed.here k d at)

      pair_in : (ds : Devices) (k : ℕ) (d : Path) → slice_get (paths ds) k ≡ Some d → (e : Path × ℕ) × (slice_get ds k ≡ Some e) × (e.0 ≡ d)
      pair_in [] k d is = absurd (cc)
      pair_in (e ∷ es) zero d is = (e, refl, some_inj e.0 d is)
        where
          some_inj : (x y : Path) → Some x ≡ Some y → x ≡ y
          some_inj x y same = cc
      pair_in (e ∷ es) (suc k) d is = pair_in es k d is

      pub all_settled : (d : Path) → IsOf (paths devs) d → IsSettled (m d)
      all_settled d of =
          let pair = pair_in devs of.index d of.is in
          subst (λ (q : Path). IsSettled (m q)) pair.2 (headed_settled p pair.0.1 (large of.index pair.0 pair.1) serial (a pair.0.0) (m pair.0.0) (headed.here of.index pair.0 pair.1))

      pub no_slots : (d : Path) → IsOf (paths devs) d → (r : ℕ) → r < 2 → keep p (read_slot pool_area r (m d).holds) ≡ None
      no_slots d of r lt =
          let pair = pair_in devs of.index d of.is in
          subst (λ (q : Path). keep p (read_slot pool_area r (m q).holds) ≡ None) pair.2
          (ap (keep p) (headed_slot p pair.0.1 (large of.index pair.0 pair.1) serial (a pair.0.0) (m pair.0.0) (headed.here of.index pair.0 pair.1) r lt) ∙ (free of.index pair.0 pair.1).no_slot r lt)

      -- a first commit may be made
      pub may_commit : (h : ℕ → List ℕ) (first : Path) → Ready pool_area flex_area p 0 h (paths devs) first 0 None m
      may_commit h first = record {
        slots = λ d of r lt f meant x kept. absurd (none_some x (sym (ap (λ (g : Content). keep p (read_slot pool_area r g)) ((all_settled d of).meant f meant) ∙ no_slots d of r lt) ∙ kept));
        held = λ d of r lt x kept. absurd (none_some x (sym (no_slots d of r lt) ∙ kept));
        base = refl;
      }

      -- while it is made
      module _ (is : pools.IsPoolRec b.rec) (body : List ℕ) (spelled : Spells (IsFlexRec 1) record_text body (flex_record p)) where
        abbrev pub log : Log
        log = begun 1 (1, body)

        says : Says log.start log.body log.deltas b.flex
        says = says_begun 1 body (flex_record p) b.flex spelled (ap (λ (x : Books). x.flex) new.are)

        module _ (s : State) (moves : Moves pool_area flex_area 1 (paths devs) m s) where
          headers_here : (k : ℕ) (d : Path × ℕ) → slice_get devs k ≡ Some d → HasOwnHeader p d.1 (s d.0)
          headers_here k d at = header_stays p d.1 1 (paths devs) d.0 m s moves (own_headers k d at)

          module _ (one : OneOf pool_area flex_area p (paths devs) (first_of b.rec) None (standing_of 1 text (Some log)) s) (known : NoOther pool_area (paths devs) 1 text m s) (c : Image) (leaves : LeftOf p devs s c) where
            fairly : LeftNow (paths devs) (records pool_area flex_area) s c
            fairly = commit_left p devs s c headers_here leaves

            headed_now : (k : ℕ) (d : Path × ℕ) → slice_get devs k ≡ Some d → has_header p d.1 (c d.0) ≡ true
            headed_now = header_at p devs s c headers_here leaves

            not_there : (d : Path) → IsOf (paths devs) d → (r : ℕ) → r < 2 → (x : ℕ × List ℕ) → keep p (Some x) ≡ Some x → WasThere pool_area r (m d) x → ⊥
            not_there d of r lt x kept was = elim was.known [
              | inl meant ↦ none_some x (sym (ap (λ (g : Content). keep p (read_slot pool_area r g)) ((all_settled d of).meant was.content meant) ∙ no_slots d of r lt) ∙ ap (keep p) was.reads ∙ kept)
              | inr holds ↦ none_some x (sym (ap (λ (g : Content). keep p (read_slot pool_area r g)) holds ∙ no_slots d of r lt) ∙ ap (keep p) was.reads ∙ kept)
            ]

            kept_found : (o : Found) (x : ℕ × List ℕ) → keep p o ≡ Some x → o ≡ Some x
            kept_found o x e = keep_is p o x e

            each_record : (k : ℕ) (d : Path × ℕ) → slice_get devs k ≡ Some d → (r : ℕ) → r < 2 → IsRecord p (read_slot pool_area r (c d.0))
            each_record k d at r lt x kept =
                let found = kept_found (read_slot pool_area r (c d.0)) x kept in
                let of : IsOf (paths devs) d.0 = record { index = k; is = path_at devs k d at } in
                elim (known c (slots_left_on pool_area flex_area (paths devs) s c fairly) d.0 of r lt x found) [
                  | inl this ↦ (b.rec, record { is = is; spelled = ap (λ (y : ℕ × List ℕ). y.1) this })
                  | inr was ↦ absurd (not_there d.0 of r lt x (sym (ap (keep p) found) ∙ kept) was)
                ]

            nothing : commits.newest_over pool_area p (paths devs) c ≡ None → newest_over p devs c ≡ None
            nothing none = none_over p c devs (λ k d at r lt.
                either_none (has_header p d.1 (c d.0)) (keep p (read_slot pool_area r (c d.0))) (by k d at r lt (none_or_some (keep p (read_slot pool_area r (c d.0))))))
              where
                by : (k : ℕ) (d : Path × ℕ) → slice_get devs k ≡ Some d → (r : ℕ) → r < 2 → (keep p (read_slot pool_area r (c d.0)) ≡ None) ⊎ ((x : ℕ × List ℕ) × (keep p (read_slot pool_area r (c d.0)) ≡ Some x)) → keep p (read_slot pool_area r (c d.0)) ≡ None
                by k d at r lt (inl here) = here
                by k d at r lt (inr found) = absurd (none_of pool_area p c (paths devs) none d.0 (record { index = k; is = path_at devs k d at }) r lt found.0 found.1)

            pub made_left : (found : Option PoolState) × StandsFor p devs c found × IsMade (made b.rec) found × ForNoOther p devs c
            made_left =
                let all = one c fairly in
                elim all.1 [
                  | inl before ↦ (None, Nothing (nothing (no_log p (c (first_of b.rec)) (commits.newest_over pool_area p (paths devs) c) before)), inl refl, for_no_other p devs s c headers_here leaves)
                  | inr after ↦ (
                    Some (merged (state_of 1 b.rec b.flex c)),
                    stands_whole p 1 b.rec b.flex s c (safe s) (bears_whole p devs c headed_now 1 b.rec b.flex log is refl refl says version all.0 after each_record) alive,
                    inr (ap (λ (q : PoolState). Some q) (ap (λ (g : ℕ). merged (state_of g b.rec b.flex c)) (sym generation_one) ∙ new_stood b c new)),
                    for_no_other p devs s c headers_here leaves,
                  )
                ]

          -- and when it is made
          module _ (ready : Ready pool_area flex_area p 1 (next 1 text (λ k. text)) (paths devs) (first_of b.rec) 1 (Some log) s) (borne : (d : Path) → IsOf (paths devs) d → BearsRecord pool_area 1 text (s d)) where
            same_text : (t : Bool) → cond t text text ≡ text
            same_text true = refl
            same_text false = refl

            past : (k : ℕ) → (old : PoolRec) × SpellsPool (next 1 text (λ j. text) k) old
            past k = (b.rec, record { is = is; spelled = same_text (nat_eq k 1) })

            abbrev committed : Committed p devs b.generation b.rec b.flex s
            committed = record {
              up = 1;
              h = next 1 text (λ k. text);
              log = log;
              is = is;
              serial = refl;
              rows = refl;
              top = same_text (nat_eq b.generation 1);
              ready = subst (λ (g : ℕ). Ready pool_area flex_area p 1 (next 1 text (λ k. text)) (paths devs) (first_of b.rec) g (Some log) s) (sym generation_one) ready;
              borne = λ k d at. subst (λ (g : ℕ). BearsRecord pool_area g text (s d.0)) (sym generation_one) (borne d.0 (record { index = k; is = path_at devs k d at }));
              headers = headers_here;
              past = past;
              says = says;
              version = version;
            }

            bare : IsBare p 1 b.flex
            bare = subst (λ (x : Books). IsBare p 1 x.flex) (sym new.are) (record {
              own = refl;
              filesystems = refl;
              mappings = refl;
              cell_from = omega arith;
              cell_until = omega arith;
              serial_from = omega arith;
              serial_until = omega arith;
            })

            tail : IsTail b.tail.slot b.tail.next log
            tail = subst (λ (x : Books). IsTail x.tail.slot x.tail.next log) (sym new.are) (record { in_slot = refl; behind = ap (λ (t : List ℕ). (64 + length t + 511) / 512 + 0) spelled.spelled })

            pub made_ready : AreReady b s
            made_ready = record {
              records = committed;
              tail = tail;
              upto = λ e. absurd (not_committed (sym (ap (λ (x : Books). x.has_committed) new.are) ∙ e));
              places = safe s;
              bare = subst (λ (g : ℕ). IsBare p g b.flex) (sym generation_one) bare;
              first = omega (arith, generation_one);
              last = omega (arith, generation_one);
            }
              where
                not_committed : false ≡ true → ⊥
                not_committed e = cc
