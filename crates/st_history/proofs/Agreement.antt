-- a call leaves what a want names that is compatible with its own
use Rattle.std.proofs.Common.{◌≡◌, Bool, true, false, not, ◌||◌, List, [], ◌∷◌, refl, sym, ap, ◌∙◌, subst}
use Rattle.std.specs.List.{AllByRecursion}
use Rattle.st_wants.specs.declared.want.Mode.{Mode}
use Rattle.st_wants.specs.declared.want.Mode.TheVariants.{Read, Write}
use Rattle.st_wants.specs.declared.want.Want.{Want}
use Rattle.st_wants.specs.declared.want.Want.TheVariants as wants
use Rattle.st_wants.specs.Names.{is_named}
use Rattle.st_wants.specs.Wants.{compatible, mode_of, share_a_name}
use Rattle.st_wants.proofs.Sharing.{not_shared}
use Rattle.st_model.proofs.Reading.{reads-keep}
use Rattle.st_model.proofs.StepLocal.{step-local}
use Rattle.st_model.specs.declared.call.Call.{Call}
use Rattle.st_model.specs.declared.call.Call.TheVariants.{Check, FsWrite}
use Rattle.st_model.specs.declared.entry.Entry.{Entry}
use Rattle.st_model.specs.declared.entry.Env.{Env}
use Rattle.st_model.specs.declared.state.EngineState.{EngineState}
use Rattle.st_model.specs.Local.{Leaves}
use Rattle.st_model.specs.Look.{Text}
use Rattle.st_model.specs.Parts.{Agree}
use Rattle.st_model.specs.Step.{step}
use Rattle.st_model.specs.Wanted.{want_of}
use Rattle.st_history.specs.History.{state_after, AreOneCall, IsOf, MakesRoom}

pub agree_self : (w : Want) (s : EngineState) → Agree w s s
agree_self (wants.Some names mode) s = record { pools = λ n e. refl; table = refl }
agree_self (wants.All mode) s = refl

pub agree_trans : (w : Want) (s t u : EngineState) → Agree w s t → Agree w t u → Agree w s u
agree_trans (wants.Some names mode) s t u h g = record { pools = λ n e. h.pools n e ∙ g.pools n e; table = h.table ∙ g.table }
agree_trans (wants.All mode) s t u h g = h ∙ g

pub agree_sym : (w : Want) (s t : EngineState) → Agree w s t → Agree w t s
agree_sym (wants.Some names mode) s t h = record { pools = λ n e. sym (h.pools n e); table = sym h.table }
agree_sym (wants.All mode) s t h = sym h

-- a call that reads
agree_read : (w : Want) (s : EngineState) (call : Call) (env : Env) → mode_of (want_of call) ≡ Read → Agree w s (step s call env).1
agree_read w s call env h = subst (λ (t : EngineState). Agree w s t) (sym (reads-keep s call env h)) (agree_self w s)

not_true : (b : Bool) → (false || not b) ≡ true → b ≡ false
not_true true h = absurd cc
not_true false h = refl

-- a call on pools leaves all others
agree_others : (names others : List Text) (mode : Mode) (s t : EngineState) → Leaves (is_named names) s t → share_a_name others names ≡ false → Agree (wants.Some others mode) s t
agree_others names others mode s t leaves apart = record {
  pools = λ n e. sym (leaves.cells n (not_shared others names n apart e));
  table = sym leaves.table;
}

-- a call leaves what a want names that is compatible with its own
pub call_agrees : (w v : Want) (s : EngineState) (call : Call) (env : Env) → want_of call ≡ v → compatible w v ≡ true → Agree w s (step s call env).1
call_agrees w (wants.Some names Read) s call env is ok = agree_read w s call env (ap mode_of is)
call_agrees w (wants.All Read) s call env is ok = agree_read w s call env (ap mode_of is)
call_agrees (wants.Some others Read) (wants.Some names Write) s call env is ok =
    agree_others names others Read s (step s call env).1 ((step-local call env names Write is).others s) (not_true (share_a_name others names) ok)
call_agrees (wants.Some others Write) (wants.Some names Write) s call env is ok =
    agree_others names others Write s (step s call env).1 ((step-local call env names Write is).others s) (not_true (share_a_name others names) ok)
call_agrees (wants.All Read) (wants.Some names Write) s call env is ok = absurd cc
call_agrees (wants.All Write) (wants.Some names Write) s call env is ok = absurd cc
call_agrees (wants.Some others Read) (wants.All Write) s call env is ok = absurd cc
call_agrees (wants.Some others Write) (wants.All Write) s call env is ok = absurd cc
call_agrees (wants.All Read) (wants.All Write) s call env is ok = absurd cc
call_agrees (wants.All Write) (wants.All Write) s call env is ok = absurd cc

-- each of the entries calls for the want
abbrev pub AllWant : Want → List Entry → Type 0
AllWant want entries = AllByRecursion (λ (e : Entry). want_of e.call ≡ want) entries

makes_room-want : (c e : Call) (want : Want) → MakesRoom c e → want_of e ≡ want → want_of c ≡ want
makes_room-want (Check pool) (FsWrite other name sector payload) want makes h = ap (λ (p : Text). wants.Some (p ∷ []) Write) makes ∙ h
makes_room-want _ _ want makes h = absurd makes

-- a release's entries want what its ticket asked for
pub entries_of_want : (s : EngineState) (want : Want) (entries : List Entry) → AreOneCall s entries → IsOf want entries → AllWant want entries
entries_of_want s want [] one is = absurd one
entries_of_want s want (e ∷ []) one is = (is, tt)
entries_of_want s want (c ∷ e ∷ []) one is = (makes_room-want c.call e.call want one.2 is, (is, tt))
entries_of_want s want (c ∷ d ∷ e ∷ es) one is = absurd one

-- and leave what a want names that is compatible with it
pub entries_agree : (w v : Want) (s : EngineState) (entries : List Entry) → AllWant v entries → compatible w v ≡ true → Agree w s (state_after s entries)
entries_agree w v s [] all ok = agree_self w s
entries_agree w v s (e ∷ es) all ok =
    let next : EngineState = (step s e.call e.env).1 in
    agree_trans w s next (state_after next es) (call_agrees w v s e.call e.env all.0 ok) (entries_agree w v next es all.1 ok)
