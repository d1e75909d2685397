-- At each moment of a commit a crash leaves the pool before it or after it.
use Rattle.std.proofs.Common.{◌≡◌, ◌⊎◌, inl, inr, ℕ, suc, ◌+◌, ◌<◌, Bool, true, false, cond, nat_eq, List, [], ◌∷◌, length, map, Option, Some, None, refl, sym, ◌∙◌, ap, subst, arith}
use Rattle.std.specs.List.{slice_get, AllByRecursion}
use Rattle.std.proofs.lemmas.Bool.{cases_Bool}
use Rattle.std.proofs.lemmas.Bool.Decides.{nat_tests}
use Rattle.st_fields.specs.Slot.{Found}
use Rattle.st_units.specs.declared.rows.DevRow.{DevRow}
use Rattle.st_poolrec.specs.declared.record.PoolRec.{PoolRec}
use Rattle.st_poolrec.specs.Record as pools
use Rattle.st_flexrec.specs.declared.rows.CellRow.{CellRow}
use Rattle.st_flexlog.specs.declared.state.FlexState.{FlexState}
use Rattle.st_flexlog.specs.Said.{Says}
use Rattle.st_seg.specs.Blocks.{blocks_of}
use Rattle.st_model.specs.declared.state.PoolState.{PoolState}
use Rattle.st_model.specs.Merged.{merged}
use Rattle.st_rack.specs.Story.{Content}
use Rattle.st_rack.specs.Device.{Path, State, Image, held}
use Rattle.st_rack.specs.Calls.{Devices}
use Rattle.st_slots.specs.Reading.{read_slot}
use Rattle.st_deltalog.specs.Log.{Log, serial_in}
use Rattle.st_commit.specs.Standing.{keep, standing_of, stands, records, LeftNow, OneOf}
use Rattle.st_commit.specs.Ready.{BearsRecord, IsOf, Moves, NoOther, Ready, WasThere, next}
use Rattle.st_commit.proofs.Roles.{slots_left_on}
use Rattle.st_image.specs.Looks.{pool_area, flex_area}
use Rattle.st_image.specs.Left.{LeftOf}
use Rattle.st_image.specs.Bears.{BearsWhole, SpellsPool, first_of, path_in, paths}
use Rattle.st_image.specs.Stands.{cell_rows, state_of, StandsFor, Gone}
use Rattle.st_image.specs.Calm.{ForNoOther}
use Rattle.st_image.specs.Frame.{Moved, record_ranges}
use Rattle.st_image.specs.Kept.{as_pair}
use Rattle.st_image.specs.Committed.{HasOwnHeader, Committed}
use Rattle.st_image.proofs.Committing.{IsRecord, path_at, header_at, commit_left, for_no_other, bears_whole}
use Rattle.st_books.specs.Survived.{IsEither, unless_gone}
use Rattle.st_books.specs.Ready.{AreSafe, rows_of}
use Rattle.st_books.proofs.Moving.{moves_moved, header_stays, cells_left}

eq_self : (n : ℕ) → nat_eq n n ≡ true
eq_self n = grind (arith, nat_tests)

-- what is kept of a slot was found in it
kept_found : (p : ℕ) (o : Found) (x : ℕ × List ℕ) → keep p o ≡ Some x → o ≡ Some x
kept_found p None x e = absurd (cc)
kept_found p (Some y) x e = elim (cases_Bool (nat_eq (serial_in y.1) p)) [
  | inl hit ↦ sym (ap (λ (b : Bool). cond b (Some y) None) hit) ∙ e
  | inr miss ↦ absurd (none x (sym (ap (λ (b : Bool). cond b (Some y) None) miss) ∙ e))
]
  where
    none : (x : ℕ × List ℕ) → None ≡ Some x → ⊥
    none x e = cc

by_rows : (P : CellRow → Type 0) (rows : List CellRow) → ((k : ℕ) (row : CellRow) → slice_get rows k ≡ Some row → P row) → AllByRecursion P rows
by_rows P [] each = tt
by_rows P (row ∷ rows) each = (each 0 row refl, by_rows P rows (λ k r is. each (suc k) r is))

-- records that an image bears are a pool's, or say that it is gone
pub stands_whole : (p g : ℕ) (rec : PoolRec) (st : FlexState) (s : State) (c : Image) → AreSafe rec st s → BearsWhole p (rows_of rec) g rec st c → rec.gone ≡ false → StandsFor p (rows_of rec) c (Some (merged (state_of g rec st c)))
stands_whole p g rec st s c safe bears alive =
    inl (g, rec, st, record { bears = bears; alive = alive; places = by_rows (λ row. row.place < length (blocks_of rec.segments)) (cell_rows st.mappings) (λ k row is. (safe k row is).0) }, refl)

module _ (p g : ℕ) (rec : PoolRec) (st : FlexState) (a : State) (pool : Committed p (rows_of rec) g rec st a) (G : ℕ) (step : G ≡ g + 1)
    (to : PoolRec) (said : FlexState) (log : Log) (is : pools.IsPoolRec to) (own : to.serial ≡ p) (rows : to.devs ≡ rec.devs) (says : Says log.start log.body log.deltas said) (version : said.version2 ≡ to.version2) where
  abbrev devs : Devices
  devs = rows_of rec

  abbrev text : List ℕ
  text = pools.record_text to

  abbrev Moving : State → Type 0
  Moving s = Moves pool_area flex_area G (paths devs) a s

  abbrev Standing : State → Type 0
  Standing s = OneOf pool_area flex_area p (paths devs) (first_of rec) (standing_of g (pool.h g) (Some pool.log)) (standing_of G text (Some log)) s

  abbrev Others : State → Type 0
  Others s = NoOther pool_area (paths devs) G text a s

  same_rows : rows_of to ≡ devs
  same_rows = ap (λ (ds : List DevRow). map as_pair ds) rows

  same_first : first_of to ≡ first_of rec
  same_first = ap (λ (ds : List DevRow). path_in (slice_get ds 0)) rows

  pub headers_stay : (s : State) → Moving s → (k : ℕ) (d : Path × ℕ) → slice_get devs k ≡ Some d → HasOwnHeader p d.1 (s d.0)
  headers_stay s moves k d at = header_stays p d.1 G (paths devs) d.0 a s moves (pool.headers k d at)

  module _ (s : State) (moves : Moving s) (one : Standing s) (others : Others s) (c : Image) (leaves : LeftOf p devs s c) where
    headers : (k : ℕ) (d : Path × ℕ) → slice_get devs k ≡ Some d → HasOwnHeader p d.1 (s d.0)
    headers = headers_stay s moves

    fairly : LeftNow (paths devs) (records pool_area flex_area) s c
    fairly = commit_left p devs s c headers leaves

    -- a record that was there at the start is one of the pool's history
    was_record : (k : ℕ) (d : Path × ℕ) → slice_get devs k ≡ Some d → (r : ℕ) → r < 2 → (x : ℕ × List ℕ) → keep p (Some x) ≡ Some x → WasThere pool_area r (a d.0) x → (old : PoolRec) × SpellsPool x.1 old
    was_record k d at r lt x kept was =
        let reads : keep p (read_slot pool_area r was.content) ≡ Some x = ap (keep p) was.reads ∙ kept in
        let here : IsOf (paths devs) d.0 = record { index = k; is = path_at devs k d at } in
        elim was.known [
          | inl meant ↦ subst (λ (b : List ℕ). (old : PoolRec) × SpellsPool b old) (pool.ready.slots d.0 here r lt was.content meant x reads).1 (pool.past x.0)
          | inr holds ↦ subst (λ (b : List ℕ). (old : PoolRec) × SpellsPool b old) (pool.ready.held d.0 here r lt x (ap (λ (f : Content). keep p (read_slot pool_area r f)) (sym holds) ∙ reads)).1 (pool.past x.0)
        ]

    each_record : (k : ℕ) (d : Path × ℕ) → slice_get devs k ≡ Some d → (r : ℕ) → r < 2 → IsRecord p (read_slot pool_area r (c d.0))
    each_record k d at r lt x kept =
        let found = kept_found p (read_slot pool_area r (c d.0)) x kept in
        elim (others c (slots_left_on pool_area flex_area (paths devs) s c fairly) d.0 (record { index = k; is = path_at devs k d at }) r lt x found) [
          | inl new ↦ (to, record { is = is; spelled = ap (λ (y : ℕ × List ℕ). y.1) new })
          | inr was ↦ was_record k d at r lt x (sym (ap (keep p) found) ∙ kept) was
        ]

    -- the records before, or the next ones
    pub bears_one : BearsWhole p devs g rec st c ⊎ BearsWhole p devs G to said c
    bears_one =
        let all = one c fairly in
        let headed = header_at p devs s c headers leaves in
        elim all.1 [
          | inl before ↦ inl (bears_whole p devs c headed g rec st pool.log pool.is pool.serial pool.rows pool.says pool.version all.0 (before ∙ ap (λ (b : List ℕ). standing_of g b (Some pool.log)) pool.top) each_record)
          | inr after ↦ inr (bears_whole p devs c headed G to said log is own same_rows says version all.0
              (ap (λ (q : Path). stands pool_area flex_area p (paths devs) q c) same_first ∙ after) each_record)
        ]

    module _ (safe : AreSafe rec st a) (safe_next : AreSafe to said a) (alive : rec.gone ≡ false) where
      pub survived_one : (found : Option PoolState) × StandsFor p devs c found × IsEither (merged (state_of g rec st (held a))) (unless_gone to (merged (state_of G to said (held a)))) found × ForNoOther p devs c
      survived_one = elim bears_one [
        | inl bears ↦ (
          Some (merged (state_of g rec st c)),
          stands_whole p g rec st a c safe bears alive,
          inl (ap (λ (q : PoolState). Some (merged q)) (cells_left p rec st a s (moves_moved G (paths devs) a s moves) safe c leaves g)),
          for_no_other p devs s c headers leaves,
        )
        | inr bears ↦ after bears (cases_Bool to.gone)
      ]
        where
          bears_to : BearsWhole p devs G to said c → BearsWhole p (rows_of to) G to said c
          bears_to bears = subst (λ (ds : Devices). BearsWhole p ds G to said c) (sym same_rows) bears

          held_next : state_of G to said c ≡ state_of G to said (held a)
          held_next = cells_left p to said a s (subst (λ (ds : Devices). Moved (record_ranges true (paths ds)) a s) (sym same_rows) (moves_moved G (paths devs) a s moves)) safe_next c
              (subst (λ (ds : Devices). LeftOf p ds s c) (sym same_rows) leaves) G

          after : BearsWhole p devs G to said c → (to.gone ≡ true) ⊎ (to.gone ≡ false)
              → (found : Option PoolState) × StandsFor p devs c found × IsEither (merged (state_of g rec st (held a))) (unless_gone to (merged (state_of G to said (held a)))) found × ForNoOther p devs c
          after bears (inl gone) = (
            None,
            Gone G to bears.record_of gone,
            inr (sym (ap (λ (b : Bool). cond b None (Some (merged (state_of G to said (held a))))) gone)),
            for_no_other p devs s c headers leaves,
          )
          after bears (inr there) = (
            Some (merged (state_of G to said c)),
            subst (λ (ds : Devices). StandsFor p ds c (Some (merged (state_of G to said c)))) same_rows (stands_whole p G to said a c safe_next (bears_to bears) there),
            inr (ap (λ (q : PoolState). Some (merged q)) held_next ∙ sym (ap (λ (b : Bool). cond b None (Some (merged (state_of G to said (held a))))) there)),
            for_no_other p devs s c headers leaves,
          )

  -- after the commit
  module _ (s : State) (moves : Moving s) (up : ℕ) (ready : Ready pool_area flex_area p up (next G text pool.h) (paths devs) (first_of rec) G (Some log) s)
      (borne : (d : Path) → IsOf (paths devs) d → BearsRecord pool_area G text (s d)) where
    pub next_top : next G text pool.h G ≡ text
    next_top = ap (λ (b : Bool). cond b text (pool.h G)) (eq_self G)

    pub next_past : (k : ℕ) → (old : PoolRec) × SpellsPool (next G text pool.h k) old
    next_past k = elim (cases_Bool (nat_eq k G)) [
      | inl hit ↦ subst (λ (b : Bool). (old : PoolRec) × SpellsPool (cond b text (pool.h k)) old) (sym hit) (to, record { is = is; spelled = refl })
      | inr miss ↦ subst (λ (b : Bool). (old : PoolRec) × SpellsPool (cond b text (pool.h k)) old) (sym miss) (pool.past k)
    ]

    pub at_old : (k : ℕ) (d : Path × ℕ) → slice_get (rows_of to) k ≡ Some d → slice_get devs k ≡ Some d
    at_old k d at = subst (λ (ds : Devices). slice_get ds k ≡ Some d) same_rows at

    pub ready_to : Ready pool_area flex_area to.serial up (next G text pool.h) (paths (rows_of to)) (first_of to) G (Some log) s
    ready_to = subst (λ (q : Path). Ready pool_area flex_area to.serial up (next G text pool.h) (paths (rows_of to)) q G (Some log) s) (sym same_first)
        (subst (λ (ds : Devices). Ready pool_area flex_area to.serial up (next G text pool.h) (paths ds) (first_of rec) G (Some log) s) (sym same_rows)
        (subst (λ (k : ℕ). Ready pool_area flex_area k up (next G text pool.h) (paths devs) (first_of rec) G (Some log) s) (sym own) ready))

    abbrev pub committed_next : Committed to.serial (rows_of to) G to said s
    committed_next = record {
      up = up;
      h = next G text pool.h;
      log = log;
      is = is;
      serial = refl;
      rows = refl;
      top = next_top;
      ready = ready_to;
      borne = λ k d at. borne d.0 (record { index = k; is = path_at devs k d (at_old k d at) });
      headers = λ k d at. subst (λ (q : ℕ). HasOwnHeader q d.1 (s d.0)) (sym own) (headers_stay s moves k d (at_old k d at));
      past = next_past;
      says = says;
      version = version;
    }
