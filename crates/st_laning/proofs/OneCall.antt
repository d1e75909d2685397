-- one call, from its arrival to its release
use Rattle.std.proofs.Common.{◌≡◌, ℕ, ◌+◌, ◌<◌, ◌≤◌, ◌^◌, ◌-◌, List, [], ◌∷◌, ◌++◌, length, Bool, true, Option, refl, sym, ap, ◌∙◌, subst, arith, append_assoc, length-append}
use Rattle.st_units.specs.Roomy.{Roomy}
use Rattle.st_wants.specs.declared.want.Want.{Want}
use Rattle.st_model.specs.declared.call.Call.{Call}
use Rattle.st_model.specs.declared.entry.Entry.{Entry}
use Rattle.st_model.specs.declared.entry.Origin.TheVariants.{Line}
use Rattle.st_model.specs.declared.state.EngineState.{EngineState}
use Rattle.st_model.specs.declared.state.PoolState.{PoolState}
use Rattle.st_model.specs.Wanted.{want_of}
use Rattle.st_history.specs.declared.log.Event.{Event}
use Rattle.st_history.specs.declared.log.Event.TheVariants.{Arrive, Grant, Release}
use Rattle.st_book.specs.View.{TableView}
use Rattle.st_alone.specs.Alone.{HomeView, IsAfter, IsTaken, OutView, state_at, state_in}
use Rattle.st_laning.specs.inner.Running.{RanCall, events_of}

module _ (home : HomeView) (seat : ℕ) (call : Call) (out : OutView) (room : Roomy Entry) (taken : IsTaken home seat call out room) where
  pub runs_in : (s : EngineState) → s ≡ state_in out → s ≡ state_at home
  runs_in s is = is ∙ taken.granted_is.state

  pub after_in : (s : EngineState) (e : Entry) (cells : List PoolState) (table : Option TableView) → s ≡ state_in out → IsAfter s (want_of call) e cells table → IsAfter (state_in out) out.want e cells table
  after_in s e cells table is h = subst (λ (x : EngineState). IsAfter x out.want e cells table) is (subst (λ (w : Want). IsAfter s w e cells table) (sym taken.granted_is.want_is) h)

  pub ran : (runs : Call → Bool) (n : ℕ) (e : Entry) (after : HomeView) (held : Roomy Entry) (place : ℕ) → held.items ≡ e ∷ [] → runs call ≡ true → e.call ≡ call → e.from ≡ Line n → after.opening ≡ out.opening → after.base ≡ out.base
      → after.tickets ≡ out.ticket + 1 → after.log ≡ out.log ++ Release out.seat out.ticket held ∷ [] → place ≡ length out.log → RanCall runs seat n call home after place
  ran runs n e after held place alone built is from opening base tickets log at =
      let granted = taken.granted_is in
      let by_seat : Release out.seat out.ticket held ≡ Release seat home.tickets held = (λ i. Release (granted.seat_is i) (granted.ticket i) held) in
      let size : length out.log ≡ length (home.log ++ Arrive seat home.tickets (want_of call) ∷ Grant seat home.tickets ∷ []) = ap length granted.log in
      let both = length-append home.log (Arrive seat home.tickets (want_of call) ∷ Grant seat home.tickets ∷ []) in
      record {
        entry = e;
        entries = held;
        alone = alone;
        built = built;
        call_is = is;
        from_is = from;
        opening = opening ∙ granted.opening;
        base = base ∙ granted.base;
        log = log ∙ (ap (λ (l : List Event). l ++ Release out.seat out.ticket held ∷ []) granted.log
            ∙ (append_assoc home.log (Arrive seat home.tickets (want_of call) ∷ Grant seat home.tickets ∷ []) (Release out.seat out.ticket held ∷ [])
            ∙ ap (λ (r : Event). home.log ++ Arrive seat home.tickets (want_of call) ∷ Grant seat home.tickets ∷ r ∷ []) by_seat));
        tickets = tickets ∙ ap (λ (t : ℕ). t + 1) granted.ticket;
        released = at ∙ omega (arith, size, both);
      }

-- what comes back counts its failure
pub counted : (faults before after failed : ℕ) → (faults ≡ before) × (faults < 2 ^ 63) → (before < 2 ^ 64 - 1 → after ≡ before + failed) → after ≡ faults + failed
counted faults before after failed out ran = let same = out.0 in let few = out.1 in let low : before < 2 ^ 64 - 1 = omega (arith, same, few) in let now = ran low in omega (arith, same, now)
