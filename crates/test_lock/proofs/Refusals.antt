-- what a call that is refused memory owes at its release
use Rattle.std.proofs.Common.{ℕ, ◌≡◌, ◌≤◌, ◌<◌, ◌^◌, length, arith, Bool, true, false, cond, List, [], ◌∷◌, ◌++◌, map, Option, Some, None, refl, ap, sym, ◌∙◌, subst}
use Rattle.std.specs.Prelude.{IfSome, option_map, bytes_eq}
use Rattle.std.specs.List.{AllByRecursion, IsDistinct}
use Rattle.std.specs.Cmp.Lexicographic.{nat_list_eq_equiv}
use Rattle.st_units.specs.declared.cause.Cause.TheVariants.{OutOfMemory}
use Rattle.st_grants.proofs.Sound.{some_and}
use Rattle.st_wants.specs.declared.row.LockRow.{LockRow}
use Rattle.st_wants.specs.declared.want.Want.{Want}
use Rattle.st_wants.specs.Wants.{takes_table}
use Rattle.st_model.specs.declared.call.Call.{Call}
use Rattle.st_model.specs.declared.call.Call.TheVariants.{CreatePool, DestroyPool, StopPool, StartPool, RenamePool, AddDataDevs, InitCache, AddCacheDevs, CreateFilesystems, DestroyFilesystems, SnapshotFilesystem, RenameFilesystem, SetSizeLimit, SetFsLimit, SetOverprovisioning, FsWrite, FsRead, Check, PoolReport, PoolReports, EngineStateReport, SetMerge, PowerCycle}
use Rattle.st_model.specs.declared.entry.Entry.{Entry}
use Rattle.st_model.specs.declared.entry.Env.TheVariants.{NoMem}
use Rattle.st_model.specs.declared.reply.Reply.{Reply}
use Rattle.st_model.specs.declared.state.EngineState.{EngineState}
use Rattle.st_model.specs.declared.state.PoolState.{PoolState}
use Rattle.st_model.specs.declared.state.TableState.{TableState}
use Rattle.st_model.specs.Answer.{refused}
use Rattle.st_model.specs.Look.{Text}
use Rattle.st_model.specs.Parts.{own, pool_at, started, table_of, shown_table}
use Rattle.st_model.specs.Pieces.{AreNamedApart, ArePools}
use Rattle.st_model.specs.Shown.{pool_info}
use Rattle.st_model.specs.Step.{outcome, step}
use Rattle.st_model.specs.Wanted.{want_of}
use Rattle.st_book.specs.Stands.{PartStands, ComesBack}
use Rattle.st_book.specs.View.{TableView}
use Rattle.st_history.specs.Failures.{failures_of}
use Rattle.st_book.specs.Noted.{grant_with, IsNoted}
use Rattle.st_lock.specs.Held.{Rose}
use Rattle.st_lock.specs.Seats.{LockSeat, IsLater, own_row, state_at}
use Rattle.st_lock.proofs.Granting.{noted_last}
use Rattle.test_lock.specs.Refusing.{Awaits, Holds, refused_entry}

pub refused-outcome : (s : EngineState) (call : Call) → outcome s call NoMem ≡ Some (refused OutOfMemory, s)
refused-outcome s (CreatePool name devices) = refl
refused-outcome s (DestroyPool name) = refl
refused-outcome s (StopPool name) = refl
refused-outcome s (StartPool id) = refl
refused-outcome s (RenamePool name new) = refl
refused-outcome s (AddDataDevs pool devices) = refl
refused-outcome s (InitCache pool devices) = refl
refused-outcome s (AddCacheDevs pool devices) = refl
refused-outcome s (CreateFilesystems pool filesystems) = refl
refused-outcome s (DestroyFilesystems pool names) = refl
refused-outcome s (SnapshotFilesystem pool origin name) = refl
refused-outcome s (RenameFilesystem pool name new) = refl
refused-outcome s (SetSizeLimit pool name limit) = refl
refused-outcome s (SetFsLimit pool limit) = refl
refused-outcome s (SetOverprovisioning pool value) = refl
refused-outcome s (FsWrite pool name sector payload) = refl
refused-outcome s (FsRead pool name sector sectors) = refl
refused-outcome s (Check pool) = refl
refused-outcome s (PoolReport pool) = refl
refused-outcome s (PoolReports pools) = refl
refused-outcome s EngineStateReport = refl
refused-outcome s (SetMerge pool name value) = refl
refused-outcome s PowerCycle = refl

pub refused-step : (s : EngineState) (call : Call) → step s call NoMem ≡ (refused OutOfMemory, s)
refused-step s call = rw (refused-outcome s call) refl

pub comes-back : (w : Want) (s : EngineState) (base n : ℕ) (call : Call) (cells : List PoolState) (table : Option TableView) → want_of call ≡ w → PartStands w s cells table → IfSome table (λ (v : TableView). base ≤ v.slack) → ComesBack w s base (refused_entry call n ∷ []) cells table
comes-back w s base n call cells table is part slack = record {
  steps = (rw (refused-outcome s call) refl, ap (λ (a : Reply × EngineState). a.0) (sym (refused-step s call)), tt);
  one = (tt, λ short. refl);
  of = is;
  part = subst (λ (z : EngineState). PartStands w z cells table) (ap (λ (a : Reply × EngineState). a.1) (sym (refused-step s call))) part;
  slack = slack;
}

-- each of pools that are apart is found by its name
others : (x : PoolState) (ys zs : List PoolState) → AllByRecursion (λ n. bytes_eq x.name n ≡ false) (map (λ (p : PoolState). p.name) zs) → AllByRecursion (λ (p : PoolState). pool_at p.name ys ≡ Some p) zs → AllByRecursion (λ (p : PoolState). pool_at p.name (x ∷ ys) ≡ Some p) zs
others x ys [] ne h = tt
others x ys (z ∷ zs) ne h = (ap (λ b. cond b (Some x) (pool_at z.name ys)) ne.0 ∙ h.0, others x ys zs ne.1 h.1)

pub each_own : (ps : List PoolState) → AreNamedApart ps → AllByRecursion (λ (p : PoolState). pool_at p.name ps ≡ Some p) ps
unfolding IsDistinct
each_own [] h = tt
each_own (p ∷ ps) h = (ap (λ b. cond b (Some p) (pool_at p.name ps)) (nat_list_eq_equiv.refl p.name), others p ps ps h.0 (each_own ps h.1))

pub in_state : (b : Bool) (o : Option PoolState) (p : PoolState) → Some p ≡ cond b o None → o ≡ Some p
in_state true o p h = sym h
in_state false o p h = absurd cc

pub spares : {A : Type 0} (state : A → PoolState) (named : A → Text) (name_is : (a : A) → named a ≡ (state a).name) (has_spare : A → Bool) (is_in : Text → Bool) (s : EngineState) (items : List A) → ArePools is_in s (map state items)
    → AllByRecursion (λ (a : A). has_spare a ≡ false → option_map pool_info (pool_at (named a) (started s)) ≡ Some (pool_info (state a))) items
spares {A} state named name_is has_spare is_in s items are = here items (each_own (map state items) are.apart)
  where
    here : (as' : List A) → AllByRecursion (λ (p : PoolState). pool_at p.name (map state items) ≡ Some p) (map state as') → AllByRecursion (λ (a : A). has_spare a ≡ false → option_map pool_info (pool_at (named a) (started s)) ≡ Some (pool_info (state a))) as'
    here [] h = tt
    here (a ∷ rest) h = (
      λ k.
          let n : Text = (state a).name in
          let found : own n s ≡ Some (state a) = in_state (is_in n) (own n s) (state a) (sym h.0 ∙ are.found n) in
          ap (λ m. option_map pool_info (pool_at m (started s))) (name_is a) ∙ ap (option_map pool_info) found,
      here rest h.1,
    )

pub spare : {B : Type 0} (stands : B → TableState) (slack : B → ℕ) (has_spare : B → Bool) (w : Want) (s : EngineState) (cells : List PoolState) (table : Option B) → PartStands w s cells (option_map (λ (t : B). record { state = stands t; slack = slack t }) table)
    → IfSome table (λ (t : B). has_spare t ≡ false → shown_table (table_of s) ≡ shown_table (stands t))
spare stands slack has_spare w s cells None h = tt
spare stands slack has_spare w s cells (Some t) h = λ k. here (takes_table w) h.board
  where
    here : (b : Bool) → Some (stands t) ≡ cond b (Some (table_of s)) None → shown_table (table_of s) ≡ shown_table (stands t)
    here true e = let same : stands t ≡ table_of s = cc in ap shown_table (sym same)
    here false e = absurd cc

pub slack_too : {B : Type 0} (stands : B → TableState) (slack : B → ℕ) (base : ℕ) (table : Option B) → IfSome table (λ (t : B). base ≤ slack t) → IfSome (option_map (λ (t : B). record { state = stands t; slack = slack t }) table) (λ (v : TableView). base ≤ v.slack)
slack_too stands slack base None h = tt
slack_too stands slack base (Some t) h = h

pub back_with : (w : Want) (s : EngineState) (base n : ℕ) (call : Call) (e : Entry) (es : List Entry) (cells : List PoolState) (table : Option TableView) → e ≡ refused_entry call n → es ≡ e ∷ [] → want_of call ≡ w → PartStands w s cells table → IfSome table (λ (v : TableView). base ≤ v.slack) → ComesBack w s base es cells table
back_with w s base n call e es cells table is alone of part slack =
    let all : es ≡ refused_entry call n ∷ [] = alone ∙ ap (λ (x : Entry). x ∷ []) is in
    subst (λ z. ComesBack w s base z cells table) (sym all) (comes-back w s base n call cells table of part slack)

none_failed : (call : Call) (n : ℕ) → failures_of (refused_entry call n ∷ []) ≡ 0
none_failed call n = refl

pub rose_with : (v : LockSeat) (t n k faults : ℕ) (call : Call) (e : Entry) (es : List Entry) → e ≡ refused_entry call k → es ≡ e ∷ [] → IsNoted (grant_with v.number t n) v.own → (length v.seen < 2 ^ 62 → faults ≡ n) → Rose v t faults (failures_of es)
rose_with v t n k faults call e es is alone noted whole =
    let all : es ≡ refused_entry call k ∷ [] = alone ∙ ap (λ (x : Entry). x ∷ []) is in
    let none : failures_of es ≡ 0 = ap failures_of all ∙ none_failed call k in
    record { number = n; noted = noted; rose = λ short. let same = whole short in omega arith }

-- what a grant gives is what the ticket's holder needs to release it
pub holds-of : (old new : LockSeat) (t u faults cut : ℕ) (call : Call) (cells : List PoolState) (table : Option TableView) → Awaits old t call → IsLater old new → new.own ≡ old.own ++ grant_with old.number u cut ∷ []
    → IfSome (own_row t old) (λ r. own_row u new ≡ Some (record r { live = true })) → IfSome (own_row t old) (λ r. PartStands r.want (state_at new) cells table) → IfSome table (λ (w : TableView). new.opening.base ≤ w.slack)
    → (length new.seen < 2 ^ 62 → cut ≡ faults) → Holds new u call cells table faults
holds-of old new t u faults cut call cells table waits later own row part slack whole =
    let told = some_and (λ (r : LockRow). (r.live ≡ false) × (r.want ≡ want_of call)) (own_row t old) waits in
    let live = rw told.1 at row in
    let stands = rw told.1 at part in
    record {
      row = rw live (refl, told.2.1);
      heard = later.heard;
      valid = later.valid;
      part = subst (λ w. PartStands w (state_at new) cells table) told.2.1 stands;
      slack = slack;
      number = cut;
      noted = subst (λ n. IsNoted (grant_with n u cut) new.own) (sym later.number) (subst (λ es. IsNoted (grant_with old.number u cut) es) (sym own) (noted_last old.own (grant_with old.number u cut)));
      whole = λ short. sym (whole short);
    }

-- one entry put into an empty list
pub alone_in : (xs ys : List Entry) (e : Entry) → length xs ≡ 0 → ys ≡ xs ++ e ∷ [] → ys ≡ e ∷ []
alone_in [] ys e none is = is
alone_in (x ∷ xs) ys e none is = absurd (omega (arith, none))
