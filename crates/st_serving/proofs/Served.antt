-- what a call that was answered owes at its release
use Rattle.std.proofs.Common.{ℕ, ◌≡◌, ◌+◌, ◌≤◌, ◌<◌, ◌^◌, length, arith, Bool, true, false, cond, List, [], ◌∷◌, ◌++◌, map, Option, Some, None, refl, ap, sym, ◌∙◌, subst}
use Rattle.std.specs.Prelude.{IfSome, option_map}
use Rattle.std.specs.List.{AllByRecursion}
use Rattle.st_grants.proofs.Sound.{some_and}
use Rattle.st_wants.specs.declared.row.LockRow.{LockRow}
use Rattle.st_wants.specs.declared.want.Want.{Want}
use Rattle.st_model.specs.declared.call.Call.{Call}
use Rattle.st_model.specs.declared.entry.Entry.{Entry}
use Rattle.st_model.specs.declared.info.PoolInfo.{PoolInfo}
use Rattle.st_model.specs.declared.info.TableInfo.{TableInfo}
use Rattle.st_model.specs.declared.state.EngineState.{EngineState}
use Rattle.st_model.specs.declared.state.PoolState.{PoolState}
use Rattle.st_model.specs.declared.state.TableState.{TableState}
use Rattle.st_model.specs.Step.{step}
use Rattle.st_model.specs.Wanted.{want_of}
use Rattle.st_history.specs.Failures.{failures_of}
use Rattle.st_book.specs.Stands.{PartStands, PartShows, ComesBack}
use Rattle.st_book.specs.View.{TableView}
use Rattle.st_book.specs.Noted.{grant_with, IsNoted}
use Rattle.st_lock.specs.Held.{Rose}
use Rattle.st_lock.specs.Seats.{LockSeat, IsLater, own_row, state_at}
use Rattle.st_lock.proofs.Granting.{noted_last}
use Rattle.st_serving.specs.Serving.{Awaits, Holds, IsAnswer}

pub slack_too : {B : Type 0} (stands : B → TableState) (slack : B → ℕ) (base : ℕ) (table : Option B) → IfSome table (λ (t : B). base ≤ slack t) → IfSome (option_map (λ (t : B). record { state = stands t; slack = slack t }) table) (λ (v : TableView). base ≤ v.slack)
slack_too stands slack base None h = tt
slack_too stands slack base (Some t) h = h

-- what comes back with one answered entry
pub answered_back : (w : Want) (s : EngineState) (base : ℕ) (call : Call) (e : Entry) (cells : List PoolState) (table : Option TableView) → want_of call ≡ w → IsAnswer s call e → PartStands w (step s e.call e.env).1 cells table
    → IfSome table (λ (v : TableView). base ≤ v.slack) → ComesBack w s base (e ∷ []) cells table
answered_back w s base call e cells table is answer part slack = record {
  steps = (answer.licensed, answer.replied, tt);
  one = (answer.from, answer.long);
  of = ap want_of answer.call_is ∙ is;
  part = part;
  slack = slack;
}

-- so a ticket that holds may give it back
pub holds_back : (v : LockSeat) (t faults : ℕ) (call : Call) (before cells : List PoolState) (had table : Option TableView) (e : Entry) → Holds v t call before had faults → IsAnswer (state_at v) call e
    → PartStands (want_of call) (step (state_at v) e.call e.env).1 cells table → IfSome table (λ (w : TableView). v.opening.base ≤ w.slack)
    → IfSome (own_row t v) (λ r. ComesBack r.want (state_at v) v.opening.base (e ∷ []) cells table)
holds_back v t faults call before cells had table e h answer part slack =
    let told = some_and (λ (r : LockRow). (r.live ≡ true) × (r.want ≡ want_of call)) (own_row t v) h.row in
    rw told.1 (subst (λ w. ComesBack w (state_at v) v.opening.base (e ∷ []) cells table) (sym told.2.1) (answered_back (want_of call) (state_at v) v.opening.base call e cells table refl answer part slack))

-- the faults are those that were noted, and those of the entry
pub holds_rose : (v : LockSeat) (t faults after more : ℕ) (call : Call) (cells : List PoolState) (table : Option TableView) → Holds v t call cells table faults → (faults < 2 ^ 63 → after ≡ faults + more) → Rose v t after more
holds_rose v t faults after more call cells table h rises = record {
  number = h.number;
  noted = h.noted;
  rose = λ short.
      let was = h.whole short in
      let now = rises (h.few short) in
      omega (arith, was, now);
}

-- ---- a grant

-- what a part shows, by what its call wants
pub shown_of : (old : LockSeat) (t : ℕ) (call : Call) (s : EngineState) (infos : List PoolInfo) (info : Option TableInfo) → Awaits old t call → IfSome (own_row t old) (λ r. PartShows r.want s infos info) → PartShows (want_of call) s infos info
shown_of old t call s infos info waits h =
    let told = some_and (λ (r : LockRow). (r.live ≡ false) × (r.want ≡ want_of call)) (own_row t old) waits in
    let shows = rw told.1 at h in
    subst (λ w. PartShows w s infos info) told.2.1 shows

pub holds_of : (old new : LockSeat) (t u faults cut : ℕ) (call : Call) (cells : List PoolState) (table : Option TableView) → Awaits old t call → IsLater old new → new.own ≡ old.own ++ grant_with old.number u cut ∷ []
    → IfSome (own_row t old) (λ r. own_row u new ≡ Some (record r { live = true })) → IfSome (own_row t old) (λ r. PartStands r.want (state_at new) cells table) → IfSome table (λ (w : TableView). new.opening.base ≤ w.slack)
    → (length new.seen < 2 ^ 62 → cut ≡ faults) → (length new.seen < 2 ^ 62 → faults < 2 ^ 63) → Holds new u call cells table faults
holds_of old new t u faults cut call cells table waits later own row part slack whole few =
    let told = some_and (λ (r : LockRow). (r.live ≡ false) × (r.want ≡ want_of call)) (own_row t old) waits in
    let live = rw told.1 at row in
    let stands = rw told.1 at part in
    record {
      row = rw live (refl, told.2.1);
      heard = later.heard;
      valid = later.valid;
      part = subst (λ w. PartStands w (state_at new) cells table) told.2.1 stands;
      slack = slack;
      number = cut;
      noted = subst (λ n. IsNoted (grant_with n u cut) new.own) (sym later.number) (subst (λ es. IsNoted (grant_with old.number u cut) es) (sym own) (noted_last old.own (grant_with old.number u cut)));
      whole = λ short. sym (whole short);
      few = few;
    }

-- one entry put into an empty list
pub alone_in : (xs ys : List Entry) (e : Entry) → xs ≡ [] → ys ≡ xs ++ e ∷ [] → ys ≡ e ∷ []
alone_in xs ys e none is = is ∙ ap (λ (es : List Entry). es ++ e ∷ []) none
