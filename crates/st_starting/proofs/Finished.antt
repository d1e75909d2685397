-- From what was found, and what a repair did, to what a start promises.
use Rattle.std.proofs.Common.{◌≡◌, inl, ℕ, ◌+◌, ◌*◌, ◌^◌, ◌≤◌, Bool, true, false, List, [], Option, Some, None, Result, Ok, Err, OnOk, refl, sym, subst, arith}
use Rattle.std.specs.List.{slice_get}
use Rattle.st_poolrec.specs.declared.record.PoolRec.{PoolRec}
use Rattle.st_poolrec.specs.Record as pools
use Rattle.st_flexrec.specs.declared.rows.CellRow.{CellRow}
use Rattle.st_flexlog.specs.declared.state.FlexState.{FlexState}
use Rattle.st_flexlog.specs.declared.state.Mapping.{Mapping}
use Rattle.st_model.specs.Merged.{merged}
use Rattle.st_rack.specs.Device.{Path, State, Image, held}
use Rattle.st_rack.specs.Calls.{Devices, Has, Rises}
use Rattle.st_rack.specs.Moments.{Keeps}
use Rattle.st_deltalog.specs.Log.{Log}
use Rattle.st_deltalog.specs.Bearing.{IsSettled, IsTail}
use Rattle.st_commit.specs.Ready.{IsOf}
use Rattle.st_image.specs.Looks.{pool_area, has_header}
use Rattle.st_image.specs.Bears.{HasRow, paths}
use Rattle.st_image.specs.Stands.{Gone, StandsFor, cell_rows, state_of}
use Rattle.st_image.specs.Committed.{Committed}
use Rattle.st_image.proofs.Committing.{row_at}
use Rattle.st_image.proofs.Unique.{one_newest}
use Rattle.st_books.specs.declared.books.Books.{Books}
use Rattle.st_books.specs.Spelled.{IsBare}
use Rattle.st_books.specs.Ready.{AreReady, AreThere, stood}
use Rattle.st_starting.specs.declared.finding.Finding.{Finding}
use Rattle.st_starting.specs.declared.finding.Newest.{Newest}
use Rattle.st_starting.specs.declared.outcome.Start.{Start}
use Rattle.st_starting.specs.declared.outcome.Start.TheVariants as starts
use Rattle.st_starting.specs.Alike.{StandsAlike}
use Rattle.st_starting.specs.Found.{AreBorne, HasEnded, IsStart, TellsOfNone, sized}
use Rattle.st_starting.specs.inner.Finding.{IsFinding, IsNewest, IsNewestOr, NewestOn, Writes}
use Rattle.st_slots.specs.Places.{Lies}
use Rattle.st_slots.specs.declared.spot.SlotFault.{SlotFault}
use Rattle.st_books.proofs.Lying.{records_lie}
use Rattle.st_starting.proofs.Devices.{none_some, paths_sized, sized_has, sized_in}
use Rattle.st_starting.proofs.Restrict.{bears_there}
use Rattle.st_starting.proofs.Moments.{bare_places, bare_state, have_rows}
use Rattle.st_starting.proofs.Taken.{bears_until, row_all}
use Rattle.st_starting.proofs.Mended.{Repaired, Done, committed_after, gone_alike, tells_of_none, whole_alike}

-- books that are borne are the newest record
pub borne_on : (p : ℕ) (rack : Devices) (list : List Path) (c : Image) (g : ℕ) (rec : PoolRec) (st : FlexState) → AreBorne p rack list c g rec st → NewestOn p rack list c g rec
borne_on p rack list c g rec st borne = record { bears = borne.here.bears; on = borne.on; headed = headed }
  where
    headed : (k : ℕ) (d : Path × ℕ) → slice_get (sized rack list) k ≡ Some d → has_header p d.1 (c d.0) ≡ true
    headed k d at =
        let row = row_at rec.devs k d (subst (λ (ds : Devices). slice_get ds k ≡ Some d) (sym borne.on) at) in
        let has : HasRow p rack c row.0 = row_all (HasRow p rack c) rec.devs k row.0 borne.here.rows row.1 in
        subst (λ (q : Path × ℕ). has_header p q.1 (c q.0) ≡ true) row.2 has.header

pub ended_on : (p : ℕ) (rack : Devices) (list : List Path) (c : Image) (g : ℕ) (rec : PoolRec) → ((d : Path) → IsOf list d → (n : ℕ) × Has rack d n) → HasEnded p rack list c g rec → NewestOn p rack list c g rec
ended_on p rack list c g rec there ended = record { bears = ended.bears; on = ended.on; headed = λ k d at. (let own = sized_in rack list there k d at in ended.headed own.0 d own.1) }

pub record_fits : (n : ℕ) → 64 + n ≤ 32768 → 64 + n ≤ 512 * 64
record_fits n le = omega (arith, le)

pub newest_until : (p : ℕ) (rack : Devices) (list : List Path) (c : Image) (g : ℕ) (rec : PoolRec) → NewestOn p rack list c g rec → (1 ≤ g) × (g ≤ 2 ^ 48)
newest_until p rack list c g rec on = bears_until p rack c g rec on.bears

-- the slots lie on each device
pub on_lie : (p : ℕ) (rack : Devices) (list : List Path) (there : (d : Path) → IsOf list d → (n : ℕ) × Has rack d n) (c : Image) (g : ℕ) (rec : PoolRec) → NewestOn p rack list c g rec → (d : Path) → IsOf list d → Lies rack d pool_area
on_lie p rack list there c g rec on d of =
    records_lie rec on.bears.is rack (subst (λ (ds : Devices). AreThere rack ds) (sym on.on) (sized_has rack list there)) d (subst (λ (ds : Devices). IsOf (paths ds) d) (sym on.on) (subst (λ (l : List Path). IsOf l d) (sym (paths_sized rack list)) of))

module _ (p : ℕ) (rack : Devices) (list : List Path) (c : Image) (f : Finding) (found : IsFinding p rack list c f) (none : f.newest ≡ None) where
  writes_none : Writes f.start None
  writes_none = subst (λ (o : Option Newest). Writes f.start o) none found.writes

  pub unwritten_ready : (b : Books) → f.start ≡ starts.Ready b → ⊥
  unwritten_ready b e = subst (λ (s : Start). Writes s None) e writes_none

  pub unwritten_gone : (n : ℕ) → f.start ≡ starts.Gone n → ⊥
  unwritten_gone n e = subst (λ (s : Start). Writes s None) e writes_none

-- what follows of an `Ok`
pub on_ok : (P : Type 0) (Q : Type 0) (r : Result (Unit {0}) SlotFault) → (P → Q) → OnOk r P → OnOk r Q
on_ok P Q (Ok u) each is = each is
on_ok P Q (Err x) each is = tt

module _ (p : ℕ) (rack : Devices) (list : List Path) (rises : Rises rack) (there : (d : Path) → IsOf list d → (n : ℕ) × Has rack d n) (c : Image) where
  -- what the devices stand for
  pub borne_stands : (g : ℕ) (rec : PoolRec) (st : FlexState) → AreBorne p rack list c g rec st → StandsFor p (sized rack list) c (Some (merged (state_of g rec st c)))
  borne_stands g rec st borne =
      let on = borne_on p rack list c g rec st borne in
      inl (
        g,
        rec,
        st,
        record {
          bears = record { record_of = bears_there p c rack (sized rack list) rises (sized_in rack list there) g rec on.bears on.on on.headed; rows = have_rows p (sized rack list) c rec on.on on.headed; flexed = borne.flexed; version = borne.version };
          alive = borne.here.alive;
          places = bare_places rec st borne.bare.mappings;
        },
        refl,
      )

  pub books_stand : (b : Books) (m : Image) → AreBorne p rack list c b.generation b.rec b.flex → StandsFor p (sized rack list) c (Some (stood b m))
  books_stand b m borne =
      subst (λ (o : _). StandsFor p (sized rack list) c (Some (merged o))) (bare_state b.generation b.rec b.flex c m borne.bare.mappings) (borne_stands b.generation b.rec b.flex borne)

  pub ended_stands : (g : ℕ) (rec : PoolRec) → HasEnded p rack list c g rec → StandsFor p (sized rack list) c None
  ended_stands g rec ended =
      let on = ended_on p rack list c g rec there ended in
      Gone g rec (bears_there p c rack (sized rack list) rises (sized_in rack list there) g rec on.bears on.on on.headed) ended.gone

module _ {D : Type 0} (moment : D → ℕ) (state_at : D → ℕ → State) (p : ℕ) (from : 1 ≤ p) (rack : Devices) (list : List Path) (rises : Rises rack) (there : (d : Path) → IsOf list d → (n : ℕ) × Has rack d n)
    (old new : D) (settled : (d : Path) → IsOf list d → IsSettled (state_at old (moment old) d)) (f : Finding) (found : IsFinding p rack list (held (state_at old (moment old))) f) (n : Newest) (is : f.newest ≡ Some n) where
  abbrev U : Devices
  U = sized rack list

  abbrev s1 : State
  s1 = state_at old (moment old)

  abbrev s2 : State
  s2 = state_at new (moment new)

  pub the_newest : IsNewest p rack list (held s1) n
  the_newest = subst (λ (o : Option Newest). IsNewestOr p rack list (held s1) o) is found.newest

  abbrev r0 : PoolRec
  r0 = the_newest.rec

  writes : Writes f.start (Some n)
  writes = subst (λ (o : Option Newest). Writes f.start o) is found.writes

  -- the record that was found is the one that is written
  module _ (g : ℕ) (rec : PoolRec) (on : NewestOn p rack list (held s1) g rec) where
    same : (n.generation ≡ g) × (r0 ≡ rec)
    same = one_newest p rack (held s1) n.generation g r0 rec the_newest.on.bears on.bears

    repaired_so : Repaired moment state_at pool_area (paths U) n.generation (pools.record_text r0) old new → Repaired moment state_at pool_area (paths U) g (pools.record_text rec) old new
    repaired_so did = subst (λ (x : ℕ × PoolRec). Repaired moment state_at pool_area (paths U) x.0 (pools.record_text x.1) old new) (λ i. (same.0 i, same.1 i)) did

    done_so : Done pool_area (paths U) n.generation (pools.record_text r0) s1 s2 → Done pool_area (paths U) g (pools.record_text rec) s1 s2
    done_so done = subst (λ (x : ℕ × PoolRec). Done pool_area (paths U) x.0 (pools.record_text x.1) s1 s2) (λ i. (same.0 i, same.1 i)) done

  module _ (did : Repaired moment state_at pool_area (paths U) n.generation (pools.record_text r0) old new) where
    borne_of : (b : Books) → f.start ≡ starts.Ready b → AreBorne p rack list (held s1) b.generation b.rec b.flex
    borne_of b e = subst (λ (s : Start). IsStart p rack list (held s1) s) e found.start

    ended_of : (g : ℕ) → f.start ≡ starts.Gone g → (rec : PoolRec) × HasEnded p rack list (held s1) g rec
    ended_of g e = subst (λ (s : Start). IsStart p rack list (held s1) s) e found.start

    pub alike : Keeps moment state_at (StandsAlike p U s1) old new
    alike = by f.start refl
      where
        by : (s : Start) → f.start ≡ s → Keeps moment state_at (StandsAlike p U s1) old new
        by (starts.Ready b) e =
            let borne = borne_of b e in
            let on = borne_on p rack list (held s1) b.generation b.rec b.flex borne in
            whole_alike moment state_at p from rack list rises there old new settled b.generation b.rec on (repaired_so b.generation b.rec on did) b.flex borne.here.alive borne.flexed borne.version borne.bare.mappings
        by starts.Nothing e = absurd (subst (λ (s : Start). Writes s (Some n)) e writes)
        by (starts.Gone g) e =
            let ended = ended_of g e in
            let on = ended_on p rack list (held s1) g ended.0 there ended.1 in
            gone_alike moment state_at p from rack list rises there old new settled g ended.0 on (repaired_so g ended.0 on did) ended.1.gone
        by starts.Broken e = absurd (subst (λ (s : Start). Writes s (Some n)) e writes)

    module _ (done : Done pool_area (paths U) n.generation (pools.record_text r0) s1 s2) where
      no_cells : (ms : List Mapping) → ms ≡ [] → (k : ℕ) (row : CellRow) → slice_get (cell_rows ms) k ≡ Some row → ⊥
      no_cells ms none k row at = none_some row (subst (λ (l : List Mapping). slice_get (cell_rows l) k ≡ Some row) none at)

      pub ready : (b : Books) → f.start ≡ starts.Ready b → AreReady b s2
      ready b e =
          let borne = borne_of b e in
          let on = borne_on p rack list (held s1) b.generation b.rec b.flex borne in
          let first = found.books b e in
          let base = committed_after moment state_at p from rack list rises there old new settled b.generation b.rec on (repaired_so b.generation b.rec on did) b.flex borne.here.alive first.tail.at borne.version borne.bare.mappings (done_so b.generation b.rec on done) in
          let serial : p ≡ b.rec.serial = sym borne.here.bears.serial in
          let both = subst (λ (x : ℕ × Devices). (one : Committed x.0 x.1 b.generation b.rec b.flex s2) × IsTail b.tail.slot b.tail.next one.log) (λ i. (serial i, sym borne.on i)) (base.0, subst (λ (l : Log). IsTail b.tail.slot b.tail.next l) (sym base.1) first.tail.tail) in
          let bounds = bears_until p rack (held s1) b.generation b.rec borne.here.bears in
          record {
            records = both.0;
            tail = both.1;
            upto = λ did_so. absurd (not_yet b.has_committed did_so first.committed);
            places = λ k row at. absurd (no_cells b.flex.mappings borne.bare.mappings k row at);
            bare = subst (λ (q : ℕ). IsBare q b.generation b.flex) serial borne.bare;
            first = bounds.0;
            last = bounds.1;
          }
        where
          not_yet : (t : Bool) → t ≡ true → t ≡ false → ⊥
          not_yet t did_so never = cc

      pub gone : (g : ℕ) → f.start ≡ starts.Gone g → (k : ℕ) (d : Path × ℕ) → slice_get U k ≡ Some d → TellsOfNone p d.1 (s2 d.0).holds
      gone g e k d at =
          let ended = ended_of g e in
          let on = ended_on p rack list (held s1) g ended.0 there ended.1 in
          tells_of_none moment state_at p from rack list rises there old new settled g ended.0 on (repaired_so g ended.0 on did) ended.1.gone (done_so g ended.0 on done)
          (λ j q q_at x seen. (let own = sized_in rack list there j q q_at in ended.1.own own.0 q own.1 x seen)) k d at
