-- what runs for a ticket runs alike in all valid states that agree on what it wants
use Rattle.std.proofs.Common.{◌≡◌, ◌<◌, Bool, true, false, not, ◌||◌, cond, List, [], ◌∷◌, Some, None, refl, ap, sym, ◌∙◌, subst}
use Rattle.std.specs.Prelude.{Option, is_some, IsSomeAnd}
use Rattle.st_units.specs.declared.rows.DevRow.{DevRow}
use Rattle.st_wants.specs.declared.want.Want.{Want}
use Rattle.st_wants.specs.declared.want.Want.TheVariants as wants
use Rattle.st_wants.specs.declared.want.Mode.TheVariants.{Write}
use Rattle.st_wants.specs.Names.{is_named}
use Rattle.std.specs.Cmp.Lexicographic.{nat_list_eq_equiv}
use Rattle.st_model.proofs.OnTable.{none_called, apart_holds}
use Rattle.st_model.proofs.StepLocal.{step-local}
use Rattle.st_model.specs.declared.call.Call.{Call}
use Rattle.st_model.specs.declared.call.Call.TheVariants.{FsWrite}
use Rattle.st_model.specs.declared.entry.Entry.{Entry}
use Rattle.st_model.specs.declared.entry.Env.{Env}
use Rattle.st_model.specs.declared.entry.Env.TheVariants.{Plain}
use Rattle.st_model.specs.declared.reply.Reply.{Reply}
use Rattle.st_model.specs.declared.state.EngineState.{EngineState}
use Rattle.st_model.specs.declared.state.PoolState.{PoolState}
use Rattle.st_model.specs.declared.state.TableState.{TableState}
use Rattle.st_model.specs.Look.{Text, is_called, is_started, holds}
use Rattle.st_model.specs.Parts.{Agree, AgreeOn, own, pool_at, table_of}
use Rattle.st_model.specs.Step.{outcome, step}
use Rattle.st_model.specs.Sums.{room}
use Rattle.st_model.specs.Valid.{IsValid, Apart}
use Rattle.st_model.specs.ValidPool.{EachPair}
use Rattle.st_model.specs.Wanted.{want_of}
use Rattle.st_model.specs.Shown.{started_pools, halted_pools}
use Rattle.st_history.proofs.Agreement.{agree_sym, entries_of_want, AllWant}
use Rattle.st_history.specs.History.{state_after, AreSteps, AreOneCall, IsShort, IsNoSpace}
use Rattle.st_history.specs.Over.{EntriesGoOver}

abbrev or_else : Option PoolState → Option PoolState → Option PoolState
or_else None o = o
or_else (Some p) o = Some p

is_held : (a b : Bool) → a ≡ true → (a || b) ≡ true
is_held true b e = refl
is_held false b e = absurd cc

-- a pool is found among the started ones, or else among the others
pool_found : (rows : List DevRow) (n : Text) (ps : List PoolState) → EachPair (Apart rows) ps → pool_at n ps ≡ or_else (pool_at n (started_pools ps)) (pool_at n (halted_pools ps))
pool_found rows n [] h = refl
pool_found rows n (p ∷ ps) h =
    let rest = pool_found rows n ps h.1 in
    let cases : (b c : Bool) → is_called n p ≡ c → cond c (Some p) (pool_at n ps) ≡ or_else (pool_at n (cond b (p ∷ started_pools ps) (started_pools ps))) (pool_at n (cond (not b) (p ∷ halted_pools ps) (halted_pools ps))) = elim [
      | true ↦ elim [ true ↦ (λ e. rw e refl) | false ↦ (λ e. rw e rest) ]
      | false ↦ elim [
        | true ↦ (λ e.
            let held : holds n p ≡ true = is_held (is_called n p) _ e in
            let none : pool_at n (started_pools ps) ≡ None = none_called n ps (apart_holds rows n p ps held h.0) in
            rw (none, e) refl)
        | false ↦ (λ e. rw e rest)
      ]
    ] in
    cases (is_started p.mode) (is_called n p) refl

pools_agree : (n : Text) (s t : EngineState) → IsValid s → IsValid t → own n s ≡ own n t → table_of s ≡ table_of t → pool_at n s.pools ≡ pool_at n t.pools
pools_agree n s t v w h table =
    let halted : halted_pools s.pools ≡ halted_pools t.pools = ap (λ (x : TableState). x.stopped) table in
    let there : or_else (pool_at n (started_pools s.pools)) (pool_at n (halted_pools s.pools)) ≡ or_else (pool_at n (started_pools t.pools)) (pool_at n (halted_pools t.pools)) = rw (h, halted) refl in
    pool_found s.devices n s.pools v.apart ∙ (there ∙ sym (pool_found t.devices n t.pools w.apart))

-- what is the same of one step
pub record StepsOver (want : Want) (s t : EngineState) (call : Call) (env : Env) : Type 0 where
  pub licence : is_some (outcome s call env) ≡ is_some (outcome t call env)
  pub reply : (step s call env).0 ≡ (step t call env).0
  pub agree : Agree want (step s call env).1 (step t call env).1

step_over : (w : Want) (s t : EngineState) (call : Call) (env : Env) → want_of call ≡ w → Agree w s t → StepsOver w s t call env
step_over (wants.Some names mode) s t call env is h =
    let alike = step-local call env names mode is in
    record { licence = alike.licences s t h; reply = alike.replies s t h; agree = alike.agree s t h }
step_over (wants.All mode) s t call env is h = record {
  licence = ap (λ (z : EngineState). is_some (outcome z call env)) h;
  reply = ap (λ (z : EngineState). (step z call env).0) h;
  agree = ap (λ (z : EngineState). (step z call env).1) h;
}

steps_over : (w : Want) (s t : EngineState) (es : List Entry) → Agree w s t → AllWant w es → AreSteps s es → AreSteps t es × Agree w (state_after s es) (state_after t es)
steps_over w s t [] h all steps = (tt, h)
steps_over w s t (e ∷ es) h all steps =
    let one = step_over w s t e.call e.env all.0 h in
    let rest = steps_over w (step s e.call e.env).1 (step t e.call e.env).1 es one.agree all.1 steps.2 in
    ((sym one.licence ∙ steps.0, steps.1 ∙ one.reply, rest.0), rest.1)

short_over : (w : Want) (s t : EngineState) (call : Call) → IsValid s → IsValid t → Agree w s t → want_of call ≡ w → IsShort s call → IsShort t call
short_over w s t (FsWrite pool name sector payload) v u h is short =
    let call : Call = FsWrite pool name sector payload in
    let here : AgreeOn (is_named (pool ∷ [])) s t = subst (λ z. Agree z s t) (sym is) h in
    let named : is_named (pool ∷ []) pool ≡ true = ap (λ b. b || false) (nat_list_eq_equiv.refl pool) in
    let one = step_over (wants.Some (pool ∷ []) Write) s t call Plain refl here in
    (subst (λ (r : Reply). IsNoSpace r.cause) one.reply short.0, subst (λ o. IsSomeAnd o (λ (p : PoolState). p.allocated < room p)) (pools_agree pool s t v u (here.pools pool named) here.table) short.1)
short_over w s t _ v u h is short = absurd short

one_over : (w : Want) (s t : EngineState) (es : List Entry) → IsValid s → IsValid t → Agree w s t → AllWant w es → AreOneCall s es → AreOneCall t es
one_over w s t [] v u h all one = absurd one
one_over w s t (e ∷ []) v u h all one = (one.0, λ short. one.1 (short_over w t s e.call u v (agree_sym w s t h) all.0 short))
one_over w s t (c ∷ e ∷ []) v u h all one = (one.0, one.1, one.2, short_over w s t e.call v u h all.1.0 one.3, one.4)
one_over w s t (c ∷ d ∷ e ∷ es) v u h all one = absurd one

pub entries-go_over : EntriesGoOver
entries-go_over w s t es v u h steps one of =
    let all = entries_of_want s w es one of in
    let went = steps_over w s t es h all steps in
    (went.0, one_over w s t es v u h all one, went.1)
