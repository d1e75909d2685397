-- A rack that was opened is divided, and the board made.
use Rattle.std.proofs.Common.{◌≡◌, ℕ, zero, suc, ◌+◌, ◌<◌, ◌≤◌, Bool, true, false, cond, min, length, List, [], ◌∷◌, ◌++◌, take, map, Option, Some, None, refl, sym, ◌∙◌, ap, subst, arith}
use Rattle.std.specs.Prelude.{filter, nat_lt, ◌-◌, option_map}
use Rattle.std.specs.List.{slice_get, sum_by, AllByRecursion}
use Rattle.std.proofs.lemmas.List.Sums.{sum_by-cons}
use Rattle.st_units.specs.declared.rows.DevRow.{DevRow}
use Rattle.st_units.specs.Roomy.{Roomy}
use Rattle.st_units.specs.Causes.{Rose}
use Rattle.st_model.specs.declared.state.EngineState.{EngineState}
use Rattle.st_model.specs.declared.state.PoolState.{PoolState}
use Rattle.st_model.specs.declared.state.TableState.{TableState}
use Rattle.st_model.specs.Look.{flight_of, is_started}
use Rattle.st_model.specs.Parts.{started, table_of}
use Rattle.st_model.specs.Shown.{started_pools}
use Rattle.st_model.specs.Valid.{IsValid}
use Rattle.st_rack.specs.Device.{Path, State, Image, held}
use Rattle.st_rack.specs.Calls.{Devices, Has, IsFit, Rises, sectors_of}
use Rattle.st_rack.specs.Left.{FairlyLeaves, LeavesFairly}
use Rattle.st_rack.specs.Moments.{Keeps}
use Rattle.st_image.specs.Rack.{IsForeign, RackStands}
use Rattle.st_image.specs.Survivors as survivors
use Rattle.st_assemble.specs.declared.taking.Found.{Found}
use Rattle.st_assemble.specs.Found.{row_of}
use Rattle.st_judge.specs.declared.rows.FoundRow.{FoundRow}
use Rattle.st_parting.specs.Found.{IsFoundOn}
use Rattle.st_parting.proofs.Newest.{none_some, some_same}
use Rattle.st_parting.proofs.Parting.{know}
use Rattle.st_finishing.specs.Finishing.{StandsStill, heads, with_next}
use Rattle.st_opening.specs.Opened.{IsOpened, LeavesAlike}
use Rattle.st_dividing.specs.Divided.{AreRowsApart, AreTold, Divides, found_as}
use Rattle.st_boarding.proofs.Boards.{keeps_table, lacks_others}
use Rattle.st_boarding.proofs.Rows.{rows_apart}
use Rattle.st_onestate.specs.Once.{TheState}
use Rattle.st_onestate.proofs.Once.{is_the_state}
use Rattle.st_sound.specs.Valid.{FoundIsValid}
use Rattle.st_table.specs.Stands.{Stands}
use Rattle.st_table.specs.Table.{TableView}
use Rattle.st_tabling.specs.Telling.{IsIdle, TellsOf}
use Rattle.st_pool.specs.Halts.{HaltedView}
use Rattle.st_pool.specs.View.{now}
use Rattle.st_board.specs.Holds.{Holds}
use Rattle.st_board.specs.View.{BoardView, faults_of, last, slack_of}
use Rattle.st_begin.specs.Begun.{HasBegun, IsAtRest, IsBack, IsBoardOf, IsRejoined}

all_of : (P : PoolState → Type 0) (ps : List PoolState) → ((k : ℕ) (p : PoolState) → slice_get ps k ≡ Some p → P p) → AllByRecursion P ps
all_of P [] each = tt
all_of P (p ∷ ps) each = (each 0 p refl, all_of P ps (λ k x at. each (suc k) x at))

none_started : (ps : List PoolState) → AllByRecursion (λ (p : PoolState). IsIdle p.mode) ps → started_pools ps ≡ []
none_started [] h = refl
none_started (p ∷ ps) h = ap (λ (b : Bool). cond b (p ∷ started_pools ps) (started_pools ps)) h.0.0 ∙ none_started ps h.1

few_rows : (ps : List PoolState) → length (map row_of ps) ≡ length ps
few_rows [] = refl
few_rows (p ∷ ps) = let rest = few_rows ps in omega (arith, rest)

few_devices : (ds : Devices) → length (map survivors.row_of ds) ≡ length ds
few_devices [] = refl
few_devices (d ∷ ds) = let rest = few_devices ds in omega (arith, rest)

-- one device more
pub one_row : (ds : Devices) (i : ℕ) (row : DevRow) → option_map survivors.row_of (slice_get ds i) ≡ Some row → map survivors.row_of (take i ds) ++ row ∷ [] ≡ map survivors.row_of (take (i + 1) ds)
one_row ds i row at = by ds i at ∙ ap (λ (k : ℕ). map survivors.row_of (take k ds)) (next i)
  where
    next : (k : ℕ) → suc k ≡ k + 1
    next k = omega arith

    by : (xs : Devices) (k : ℕ) → option_map survivors.row_of (slice_get xs k) ≡ Some row → map survivors.row_of (take k xs) ++ row ∷ [] ≡ map survivors.row_of (take (suc k) xs)
    by [] k e = absurd cc
    by (x ∷ xs) zero e = let same : survivors.row_of x ≡ row = cc in ap (λ (r : DevRow). r ∷ []) (sym same)
    by (x ∷ xs) (suc k) e = ap (λ (l : List DevRow). survivors.row_of x ∷ l) (by xs k e)

-- ---- a state that was found

module _ (devs : Devices) (s : State) (found : Found) (e : EngineState) (rest : IsAtRest devs s found e) where
  abbrev n : ℕ
  n = rest.still.0

  on : IsFoundOn devs s (with_next e n)
  on = rest.still.2

  pub idle : AllByRecursion (λ (p : PoolState). IsIdle p.mode) e.pools
  idle = all_of (λ (p : PoolState). IsIdle p.mode) e.pools (λ k p at. ((know devs s (with_next e n) on k p at).idle, (know devs s (with_next e n) on k p at).flight))

  pub stands_lower : RackStands devs (held s) (with_next e n)
  stands_lower = on.stands

  pub tells : (rows : _) → rows ≡ map survivors.row_of devs → TellsOf e rows found.pools found.next
  tells rows is = record { valid = rest.valid; devices = is ∙ sym on.stands.devices; known = rest.pools; next_is = rest.next; idle = idle }

  pub apart : AreRowsApart devs found.pools
  apart = subst (λ (l : List FoundRow). AreRowsApart devs l) (sym rest.pools) (rows_apart devs s (with_next e n) on)

  pub few : length found.pools ≤ 16
  few = let count : length e.pools ≤ 16 = rest.valid.count in let same : length found.pools ≡ length (map row_of e.pools) = ap length rest.pools in let rows = few_rows e.pools in omega (arith, count, same, rows)

  pub next_is : (t : TableState) → t ≡ record (table_of (with_next e n)) { next = found.next } → t ≡ table_of e
  next_is t is = is ∙ (λ i. record (table_of e) { next = rest.next i })

-- ---- the board

module _ {D : Type 0} (devs : D → Devices) (moment : D → ℕ) (state_at : D → ℕ → State) (faults spare : D → ℕ) (old rest : D) (found : Found) (e : EngineState)
    (at_rest : IsAtRest (devs old) (now moment state_at old) found e) (halted : Roomy (HaltedView D)) (divides : Divides devs moment state_at faults spare old rest halted.items)
    (told : AreTold devs moment state_at faults spare old found.pools halted.items) where
  told_rows : AreTold devs moment state_at faults spare old (map row_of e.pools) halted.items
  told_rows = subst (λ (l : List FoundRow). AreTold devs moment state_at faults spare old l halted.items) at_rest.pools told

  pub holds : (table : TableView) (t : TableState) → Stands table (table_of e) → t ≡ table_of e → 16 ≤ length halted.items + halted.room → Holds devs moment state_at faults spare table rest halted 0 t
  holds table t stands is room = subst (λ (x : TableState). Holds devs moment state_at faults spare table rest halted 0 x) (sym is) (record {
    whole = e;
    valid = at_rest.valid;
    is = refl;
    tells = stands;
    keeps = keeps_table devs moment state_at faults spare old rest (with_next e at_rest.still.0) e halted.items at_rest.still.2 at_rest.still.3 refl refl at_rest.still.1 divides told_rows;
    lacking = lacks_others devs moment state_at faults spare old rest (with_next e at_rest.still.0) e halted.items at_rest.still.2 at_rest.still.3 refl refl at_rest.still.1 divides told_rows;
    counted = omega arith;
    places =
        let places = divides.places in
        let count = divides.count in
        let all : length e.devices ≡ length (map survivors.row_of (devs old)) = ap length at_rest.still.2.stands.devices in
        let rows = few_devices (devs old) in
        omega (arith, places, count, all, rows);
    room = room;
  })

  none_counted : (rows : List FoundRow) (hs : List (HaltedView D)) → length hs ≡ length rows → ((k : ℕ) (row : FoundRow) (h : HaltedView D) → slice_get rows k ≡ Some row → slice_get hs k ≡ Some h → h ≡ found_as (devs old) row h.rack) → sum_by (λ (h : HaltedView D). h.faults) hs ≡ 0
  none_counted rows [] size each = refl
  none_counted [] (h ∷ hs) size each = absurd (omega (arith, size))
  none_counted (row ∷ rows) (h ∷ hs) size each =
      let here : h.faults ≡ 0 = ap (λ (x : HaltedView D). x.faults) (each 0 row h refl refl) in
      let more = none_counted rows hs (omega (arith, size)) (λ k r x at_r at_x. each (suc k) r x at_r at_x) in
      let sum : sum_by (λ (x : HaltedView D). x.faults) (h ∷ hs) ≡ h.faults + sum_by (λ (x : HaltedView D). x.faults) hs = sum_by-cons (λ (x : HaltedView D). x.faults) h hs in
      omega (arith, here, more, sum)

  pub no_faults : sum_by (λ (h : HaltedView D). h.faults) halted.items ≡ 0
  no_faults = none_counted found.pools halted.items told.count told.each

  pub board_of : (b : BoardView D) → b.state ≡ table_of e → b.spare ≡ true → b.free ≡ rest → b.halted ≡ halted.items → b.past ≡ 0 → IsBoardOf devs moment state_at faults spare old e b
  board_of b stands shown free parts past = record {
    stands = stands;
    shown = shown;
    none = (λ i. min (past i + sum_by (λ (h : HaltedView D). h.faults) (parts i)) last) ∙ ap (λ (k : ℕ). min (0 + k) last) no_faults;
    past = past;
    divided = subst (λ (f : D). Divides devs moment state_at faults spare old f b.halted) (sym free) (subst (λ (l : List (HaltedView D)). Divides devs moment state_at faults spare old rest l) (sym parts) divides);
  }

-- ---- the whole

module _ {D : Type 0} (devs : D → Devices) (moment : D → ℕ) (state_at : D → ℕ → State) (faults spare : D → ℕ) (old opened : D) (same_devs : devs opened ≡ devs old)
    (during : Keeps moment state_at (LeavesAlike (devs old) (now moment state_at old)) old opened) (later : faults old ≤ faults opened) where
  alike_end : LeavesAlike (devs old) (now moment state_at old) (now moment state_at opened)
  alike_end = during.all (moment opened) during.later (omega arith)

  pub back : (r : D) → IsRejoined devs moment state_at faults opened r → IsBack devs moment state_at faults old r
  back r rejoined = record {
    opened = opened;
    during = during;
    rejoined = rejoined;
    devices = λ p. rejoined.devices p ∙ ap (λ (ds : Devices). sectors_of ds p) same_devs;
    alike = λ c leaves. alike_end c (λ p m has. subst (λ (x : _). LeavesFairly (λ l. heads l p) x (c p)) (rejoined.same p m (ap (λ (ds : Devices). sectors_of ds p) same_devs ∙ has)) (leaves p m has));
    counts = λ less. (let more = rejoined.counts less in omega (arith, later, more));
  }

  pub back_itself : IsBack devs moment state_at faults old opened
  back_itself = back opened (record { devices = λ p. refl; same = λ p n has. refl; counts = λ less. (omega arith) })

  module _ (found : Found) (is : IsOpened (devs old) (now moment state_at old) (now moment state_at opened) found) (valid : IsValid is.state) where
    pub at_rest : IsAtRest (devs opened) (now moment state_at opened) found is.state
    at_rest = record {
      pools = is.pools;
      next = is.next;
      valid = valid;
      still = subst (λ (ds : Devices). Rattle.st_finishing.specs.Finishing.FoundStill is.state ds (now moment state_at opened)) (sym same_devs) is.still;
    }

    slack_at : (b : BoardView D) → b.past ≡ 0 → faults b.free ≡ faults opened → min (faults old) last ≤ slack_of faults b
    slack_at b past counted = by (nat_lt (faults b.free) last)
      where
        by : (c : Bool) → min (faults old) last ≤ cond c (faults b.free - b.past) last
        by true = omega (arith, past, counted, later)
        by false = omega arith

    pub begun : (b : BoardView D) → IsBoardOf devs moment state_at faults spare opened is.state b → HasBegun devs moment state_at faults spare old b
    begun b board = record {
      state = is.state;
      stood = is.stood;
      valid = valid;
      idle = none_started is.state.pools (idle (devs opened) (now moment state_at opened) found is.state at_rest);
      opened = opened;
      same_devs = same_devs;
      during = during;
      board = board;
      slack = slack_at b board.past board.divided.counted;
    }

-- ---- the state that a rack tells

pub table_is : {D : Type 0} (devs : D → Devices) (moment : D → ℕ) (state_at : D → ℕ → State) (o r : D) (x : TheState (devs o) (held (now moment state_at o))) → o ≡ r → (e : EngineState) → RackStands (devs r) (held (now moment state_at r)) e
    → (t : TableState) (next : ℕ) → t ≡ record (table_of x.0) { next = next } → t ≡ record (table_of e) { next = next }
table_is devs moment state_at o r x same e stands t next is =
    is ∙ ap (λ (y : EngineState). record (table_of y) { next = next }) (is_the_state (devs o) (held (now moment state_at o)) e x (subst (λ (y : _). RackStands (devs y) (held (now moment state_at y)) e) (sym same) stands))
