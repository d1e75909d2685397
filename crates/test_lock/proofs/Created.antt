-- what a creation gives back is what release asks
use Rattle.std.proofs.Common.{ℕ, ◌≡◌, ◌≤◌, inl, inr, length, arith, Bool, true, false, cond, List, [], ◌∷◌, Option, Some, None, Result, Ok, Err, refl, ap, sym, ◌∙◌, subst}
use Rattle.std.specs.Prelude.{IfSome, IfOk, OnErr, option_map}
use Rattle.std.specs.List.{AllByRecursion, sum_by}
use Rattle.std.proofs.lemmas.List.Sums.{sum_by-cons}
use Rattle.st_units.specs.declared.cause.Cause.TheVariants.{OutOfMemory}
use Rattle.st_units.specs.declared.memory.NoMemory.{NoMemory}
use Rattle.st_model.specs.declared.call.Call.{Call}
use Rattle.st_model.specs.declared.call.Call.TheVariants.{CreatePool}
use Rattle.st_model.specs.declared.entry.Entry.{Entry}
use Rattle.st_model.specs.declared.entry.Env.TheVariants.{Plain, NoMem}
use Rattle.st_model.specs.declared.entry.Origin.TheVariants.{Line}
use Rattle.st_model.specs.declared.reply.Reply.{Reply}
use Rattle.st_model.specs.declared.state.EngineState.{EngineState}
use Rattle.st_model.specs.declared.state.PoolState.{PoolState}
use Rattle.st_model.specs.Answer.{refused}
use Rattle.st_model.specs.Look.{Text}
use Rattle.st_model.specs.Parts.{own, pool_at, started, table_of, shown_table}
use Rattle.st_model.specs.Pieces.{ArePools, every}
use Rattle.st_model.specs.Shown.{pool_info}
use Rattle.st_model.specs.Step.{IsLicensed, is_built, step}
use Rattle.st_model.specs.Wanted.{want_of}
use Rattle.st_model.proofs.Built.{built-MayRun}
use Rattle.st_model.proofs.Codes.{plain-no_failure}
use Rattle.st_history.proofs.Short.{built-not_short}
use Rattle.st_history.specs.Failures.{is_failure, failures_of}
use Rattle.st_history.specs.History.{IsNotPrepare}
use Rattle.st_book.specs.Stands.{ComesBack, PartStands}
use Rattle.st_book.specs.View as book
use Rattle.st_plain.specs.Parts.{PartIs, IsAnswered, CellIsShown, TableIsShown}
use Rattle.st_plain.specs.Views.{CellView, TableView, pools_of}
use Rattle.st_lock.specs.Held.{Rose, faults_in}
use Rattle.st_lock.specs.Seats.{LockSeat, state_at}
use Rattle.test_lock.specs.Creating.{IsCreation, IsModels, HasMade}
use Rattle.test_lock.specs.Refusing.{Holds}
use Rattle.test_lock.proofs.Refusals.{each_own, in_state, refused-step}

abbrev pub viewed : TableView → book.TableView
viewed t = record { state = t.state; slack = 0 }

is-built : (call : Call) → IsCreation call → is_built call ≡ true
is-built call c = subst (λ k. is_built k ≡ true) (sym c.is) refl

-- the part of a creation's ticket
pub part-is : (call : Call) (s : EngineState) (cells : List PoolState) (t : TableView) → IsCreation call → PartStands (want_of call) s cells (Some (viewed t)) → PartIs s cells t.state
part-is call s cells t c h =
    let stands : PartStands (want_of (CreatePool c.name c.devices)) s cells (Some (viewed t)) = subst (λ k. PartStands (want_of k) s cells (Some (viewed t))) c.is h in
    record { pools = stands.pools; board = (let same = stands.board in cc) }

pub no-table : (call : Call) (s : EngineState) (cells : List PoolState) → IsCreation call → PartStands (want_of call) s cells None → ⊥
no-table call s cells c h =
    let stands : PartStands (want_of (CreatePool c.name c.devices)) s cells None = subst (λ k. PartStands (want_of k) s cells None) c.is h in
    let board = stands.board in
    absurd cc

pub shown-still : (is_in : Text → Bool) (s : EngineState) (cells : List CellView) → ArePools is_in s (pools_of cells) → AllByRecursion (CellIsShown s) cells
shown-still is_in s cells are = here cells (each_own (pools_of cells) are.apart)
  where
    here : (cs : List CellView) → AllByRecursion (λ (p : PoolState). pool_at p.name (pools_of cells) ≡ Some p) (pools_of cs) → AllByRecursion (CellIsShown s) cs
    here [] h = tt
    here (c ∷ cs) h = (inr (in_state (is_in c.pool.name) (own c.pool.name s) c.pool (sym h.0 ∙ are.found c.pool.name)), here cs h.1)

-- the entry of a creation that was answered, or refused memory
pub made : (s : EngineState) (call : Call) (line : ℕ) (e : Entry) (answer : Result Reply NoMemory) (before cells : List CellView) (held table : TableView) → e.call ≡ call → e.from ≡ Line line
    → IfOk answer (λ reply. (e.reply ≡ reply) × (e.env ≡ Plain)) → OnErr answer ((e.reply ≡ refused OutOfMemory) × (e.env ≡ NoMem))
    → IfOk answer (λ reply. IsAnswered s call reply cells table) → OnErr answer (cells ≡ before) → OnErr answer (table ≡ held)
    → PartIs s (pools_of before) held.state → HasMade s call line e cells table
made s call line e (Ok reply) before cells held table is from plain none answered same same_table part = record {
  models = record { call_is = is; from = from; env = inl plain.1; replied = plain.0 ∙ (answered.answer ∙ ap (λ z. (step s call z).0) (sym plain.1)) };
  part = subst (λ z. PartIs (step s call z).1 (pools_of cells) table.state) (sym plain.1) answered.part;
  infos = answered.infos;
  table_info = answered.table_info;
}
made s call line e (Err x) before cells held table is from plain none answered same same_table part =
    let now : PartIs s (pools_of cells) table.state = rw (same, same_table) part in
    let after : s ≡ (step s call NoMem).1 = ap (λ (a : Reply × EngineState). a.1) (sym (refused-step s call)) in
    record {
      models = record { call_is = is; from = from; env = inr none.1; replied = none.0 ∙ (ap (λ (a : Reply × EngineState). a.0) (sym (refused-step s call)) ∙ ap (λ z. (step s call z).0) (sym none.1)) };
      part = subst (λ z. PartIs (step s call z).1 (pools_of cells) table.state) (sym none.1) (subst (λ z. PartIs z (pools_of cells) table.state) after now);
      infos = shown-still every s cells now.pools;
      table_info = inr now.board;
    }

licensed : (s : EngineState) (call : Call) (line : ℕ) (e : Entry) → IsCreation call → IsModels s call line e → IsLicensed s e.call e.env
licensed s call line e c m = elim m.env [
  | inl k ↦ rw (m.call_is, k) (built-MayRun s call (is-built call c)).plain
  | inr k ↦ rw (m.call_is, k) (built-MayRun s call (is-built call c)).no_memory
]

calm : (s : EngineState) (call : Call) (line : ℕ) (e : Entry) → IsCreation call → IsModels s call line e → is_failure e ≡ false
calm s call line e c m = elim m.env [
  | inl k ↦
      let code = plain-no_failure s call (is-built call c) in
      let reply : e.reply ≡ (step s call Plain).0 = m.replied ∙ ap (λ z. (step s call z).0) k in
      rw reply code
  | inr k ↦
      let reply : e.reply ≡ refused OutOfMemory = m.replied ∙ (ap (λ z. (step s call z).0) k ∙ ap (λ (a : Reply × EngineState). a.0) (refused-step s call)) in
      rw reply refl
]

stands-after : (s : EngineState) (call : Call) (line : ℕ) (e : Entry) (cells : List CellView) (t : TableView) → IsCreation call → HasMade s call line e cells t → PartStands (want_of call) (step s e.call e.env).1 (pools_of cells) (Some (viewed t))
stands-after s call line e cells t c m =
    let now : PartStands (want_of (CreatePool c.name c.devices)) (step s call e.env).1 (pools_of cells) (Some (viewed t)) = record { pools = m.part.pools; board = ap Some m.part.board } in
    let named : PartStands (want_of call) (step s call e.env).1 (pools_of cells) (Some (viewed t)) = subst (λ k. PartStands (want_of k) (step s call e.env).1 (pools_of cells) (Some (viewed t))) (sym c.is) now in
    subst (λ k. PartStands (want_of call) (step s k e.env).1 (pools_of cells) (Some (viewed t))) (sym m.models.call_is) named

pub made-back : (s : EngineState) (base : ℕ) (call : Call) (line : ℕ) (e : Entry) (es : List Entry) (cells : List CellView) (t : TableView) → IsCreation call → base ≤ 0 → es ≡ e ∷ [] → HasMade s call line e cells t
    → ComesBack (want_of call) s base es (pools_of cells) (Some (viewed t))
made-back s base call line e es cells t c low alone m =
    let back : ComesBack (want_of call) s base (e ∷ []) (pools_of cells) (Some (viewed t)) = record {
      steps = (licensed s call line e c m.models, subst (λ k. e.reply ≡ (step s k e.env).0) (sym m.models.call_is) m.models.replied, tt);
      one = (subst IsNotPrepare (sym m.models.from) tt, λ short. absurd (built-not_short s e.call (subst (λ k. is_built k ≡ true) (sym m.models.call_is) (is-built call c)) short));
      of = ap want_of m.models.call_is;
      part = stands-after s call line e cells t c m;
      slack = low;
    } in
    subst (λ z. ComesBack (want_of call) s base z (pools_of cells) (Some (viewed t))) (sym alone) back

pub made-spares : (s : EngineState) (cells : List CellView) → AllByRecursion (CellIsShown s) cells → AllByRecursion (λ (c : CellView). c.spare ≡ false → option_map pool_info (pool_at c.pool.name (started s)) ≡ Some (pool_info c.pool)) cells
made-spares s [] h = tt
made-spares s (c ∷ cs) h = (
  λ k. elim h.0 [
    | inl e ↦ absurd (let no : true ≡ false = sym e ∙ k in cc)
    | inr e ↦ ap (option_map pool_info) e
  ],
  made-spares s cs h.1,
)

pub made-spare : (s : EngineState) (t : TableView) → TableIsShown s t → t.spare ≡ false → shown_table (table_of s) ≡ shown_table t.state
made-spare s t h k = elim h [
  | inl e ↦ absurd (let no : true ≡ false = sym e ∙ k in cc)
  | inr e ↦ ap shown_table (sym e)
]

no_sum : (cells : List CellView) → sum_by (λ (c : CellView). 0) cells ≡ 0
no_sum [] = refl
no_sum (c ∷ cs) = let rest = no_sum cs in let all = sum_by-cons (λ (x : CellView). 0) c cs in omega arith

no_faults : (table : Option TableView) (cells : List CellView) → faults_in (λ (t : TableView). 0) (λ (c : CellView). 0) table cells ≡ 0
no_faults None cells = let s = no_sum cells in omega arith
no_faults (Some t) cells = let s = no_sum cells in omega arith

-- an entry that isn't answered with a fault leaves the faults of plain cells as they were
pub calm-rose : (v : LockSeat) (ticket : ℕ) (call : Call) (e : Entry) (es : List Entry) (pools : List PoolState) (board : Option book.TableView) (before cells : List CellView) (held table : Option TableView) → es ≡ e ∷ [] → is_failure e ≡ false
    → Holds v ticket call pools board (faults_in (λ (t : TableView). 0) (λ (c : CellView). 0) held before) → Rose v ticket (faults_in (λ (t : TableView). 0) (λ (c : CellView). 0) table cells) (failures_of es)
calm-rose v ticket call e es pools board before cells held table alone quiet h = record {
  number = h.number;
  noted = h.noted;
  rose = λ short.
      let was = h.whole short in
      let none_before = no_faults held before in
      let none_after = no_faults table cells in
      let none : failures_of es ≡ 0 = ap failures_of alone ∙ ap (λ b. length (cond b (e ∷ []) [])) quiet in
      omega arith;
}

pub made-rose : (v : LockSeat) (ticket : ℕ) (call : Call) (line : ℕ) (e : Entry) (es : List Entry) (pools : List PoolState) (board : Option book.TableView) (before cells : List CellView) (held table : Option TableView) → IsCreation call → es ≡ e ∷ [] → IsModels (state_at v) call line e
    → Holds v ticket call pools board (faults_in (λ (t : TableView). 0) (λ (c : CellView). 0) held before) → Rose v ticket (faults_in (λ (t : TableView). 0) (λ (c : CellView). 0) table cells) (failures_of es)
made-rose v ticket call line e es pools board before cells held table c alone m h = calm-rose v ticket call e es pools board before cells held table alone (calm (state_at v) call line e c m) h

pub answered-in : {P : Reply → Type 0} (Q : Reply → Type 0) (answer : Result Reply NoMemory) → ((r : Reply) → P r → Q r) → IfOk answer P → IfOk answer Q
answered-in Q (Ok r) f h = f r h
answered-in Q (Err x) f h = tt

pub part-of : (call : Call) (s : EngineState) (cells : List PoolState) (table : Option TableView) (t : TableView) → IsCreation call → table ≡ Some t → PartStands (want_of call) s cells (option_map viewed table) → PartIs s cells t.state
part-of call s cells table t c is h = part-is call s cells t c (subst (λ (o : Option TableView). PartStands (want_of call) s cells (option_map viewed o)) is h)

pub table-there : (call : Call) (s : EngineState) (cells : List PoolState) (table : Option TableView) → IsCreation call → table ≡ None → PartStands (want_of call) s cells (option_map viewed table) → ⊥
table-there call s cells table c is h = no-table call s cells c (subst (λ (o : Option TableView). PartStands (want_of call) s cells (option_map viewed o)) is h)

-- the base is no more than the slack of a plain table
pub no-base : (base : ℕ) (table : Option TableView) (t : TableView) → table ≡ Some t → IfSome (option_map viewed table) (λ (w : book.TableView). base ≤ w.slack) → base ≤ 0
no-base base table t is h = subst (λ (o : Option TableView). IfSome (option_map viewed o) (λ (w : book.TableView). base ≤ w.slack)) is h

-- no device keeps plain cells, so nothing is asked of them
pub all-kept : (cells : List CellView) → AllByRecursion (λ (c : CellView). Unit {0}) cells
all-kept [] = tt
all-kept (c ∷ cs) = (tt, all-kept cs)

pub table-kept : (table : Option TableView) → IfSome table (λ (t : TableView). Unit {0})
table-kept None = tt
table-kept (Some t) = tt
