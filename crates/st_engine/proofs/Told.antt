-- what a seat's own events tell of a call that was served
use Rattle.std.proofs.Common.{◌≡◌, ℕ, List, [], ◌∷◌, ◌++◌, inl, inr, Bool, true, Option, Some, None, refl, sym, ap, subst, ◌∙◌, append_assoc}
use Rattle.std.specs.Prelude.{IsSomeAnd}
use Rattle.st_wants.specs.declared.row.LockRow.{LockRow}
use Rattle.st_model.specs.declared.call.Call.{Call}
use Rattle.st_model.specs.declared.call.Call.TheVariants.{CreatePool, DestroyPool, StopPool, StartPool, RenamePool, EngineStateReport}
use Rattle.st_model.specs.declared.entry.Entry.{Entry}
use Rattle.st_model.specs.declared.entry.Origin.{Origin}
use Rattle.st_model.specs.declared.reply.Reply.{Reply}
use Rattle.st_model.specs.Sound.{IsSound}
use Rattle.st_model.specs.Wanted.{want_of}
use Rattle.st_history.specs.declared.log.Event.TheVariants.{Arrive, Release}
use Rattle.st_book.specs.declared.noted.Noted.{Noted}
use Rattle.st_book.specs.Noted.{grant_with}
use Rattle.st_lock.specs.Seats.{IsLater, LockSeat, plain}
use Rattle.st_lock.proofs.Turns.{later_trans}
use Rattle.st_serving.specs.Serving.{HasReleased, HasServed}
use Rattle.st_running.specs.Calls.{runs}
use Rattle.st_engine.specs.Called.{Called, IsEntryOf, Released, Served}

-- each of the engine's calls can be made
pub is_sound : (call : Call) → runs call ≡ true → IsSound call
is_sound (CreatePool name devices) r = refl
is_sound (DestroyPool name) r = refl
is_sound (StopPool name) r = refl
is_sound (StartPool id) r = refl
is_sound (RenamePool name new) r = refl
is_sound EngineStateReport r = refl
is_sound _ r = absurd cc

pub some_more : {X : Type 0} (P Q : X → Type 0) (o : Option X) → ((x : X) → P x → Q x) → IsSomeAnd o P → IsSomeAnd o Q
some_more P Q None f h = h
some_more P Q (Some x) f h = f x h

-- an arrival, a grant and a release, one after the other
pub served : (call : Call) (from : Origin) (reply : Reply) (call' : Call) (from' : Origin) (v0 v1 v2 v3 : LockSeat) (t u faults : ℕ) → call' ≡ call → from' ≡ from → IsLater v0 v1 → IsLater v1 v2
    → v1.own ≡ v0.own ++ plain (Arrive v0.number t (want_of call)) ∷ [] → v2.own ≡ v1.own ++ grant_with v1.number t faults ∷ [] → u ≡ t
    → Released call' from' reply u v2 v3 → Served call from reply v0 v3
served call from reply call' from' v0 v1 v2 v3 t u faults called made one two arrived granted same done =
    let number : v2.number ≡ v0.number = two.number ∙ one.number in
    let released = done.released in
    let entry = done.entry in
    let last : v3.own ≡ v2.own ++ plain (Release v0.number t released.entries) ∷ [] =
    released.own ∙ ap (λ (n : ℕ). v2.own ++ plain (Release n u released.entries) ∷ []) number ∙ ap (λ (k : ℕ). v2.own ++ plain (Release v0.number k released.entries) ∷ []) same in
    let middle : v2.own ≡ v1.own ++ grant_with v0.number t faults ∷ [] = granted ∙ ap (λ (n : ℕ). v1.own ++ grant_with n t faults ∷ []) one.number in
    let first : v1.own ≡ v0.own ++ plain (Arrive v0.number t (want_of entry.call)) ∷ [] = arrived ∙ ap (λ (c : Call). v0.own ++ plain (Arrive v0.number t (want_of c)) ∷ []) (sym (done.of.call_is ∙ called)) in
    let A : Noted = plain (Arrive v0.number t (want_of entry.call)) in
    let G : Noted = grant_with v0.number t faults in
    let E : Noted = plain (Release v0.number t released.entries) in
    record {
      later = later_trans v0 v2 v3 (later_trans v0 v1 v2 one two) done.later;
      entry = entry;
      served = record {
        ticket = t;
        faults = faults;
        entries = released.entries;
        one = released.one;
        own = last ∙ ap (λ (xs : List Noted). xs ++ E ∷ []) (middle ∙ ap (λ (xs : List Noted). xs ++ G ∷ []) first) ∙ append_assoc (v0.own ++ A ∷ []) (G ∷ []) (E ∷ []) ∙ append_assoc v0.own (A ∷ []) (G ∷ E ∷ []);
      };
      of = record { call_is = done.of.call_is ∙ called; from_is = done.of.from_is ∙ made; reply_is = done.of.reply_is };
    }
