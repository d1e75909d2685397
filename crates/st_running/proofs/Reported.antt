-- a report of the engine on its part
use Rattle.std.proofs.Common.{◌≡◌, inl, inr, ℕ, ◌==◌, Bool, true, false, List, [], ◌∷◌, cond, Option, Some, None, is_some, refl, sym, ap, subst, ◌∙◌, arith}
use Rattle.std.proofs.lemmas.Slice.Eq.{bytes_eq-Decides}
use Rattle.std.specs.Prelude.{option_map, unwrap_or}
use Rattle.std.specs.List.{AllByRecursion}
use Rattle.std.specs.Str.{bytes_eq}
use Rattle.st_units.specs.declared.cause.Cause.TheVariants.{OutOfMemory}
use Rattle.st_model.specs.declared.call.Call.TheVariants.{EngineStateReport}
use Rattle.st_model.specs.declared.entry.Env.TheVariants.{Plain}
use Rattle.st_model.specs.declared.info.PoolInfo.{PoolInfo}
use Rattle.st_model.specs.declared.info.TableInfo.{TableInfo}
use Rattle.st_model.specs.declared.reply.Reply.{Reply}
use Rattle.st_model.specs.declared.state.EngineState.{EngineState}
use Rattle.st_model.specs.Answer.{refused}
use Rattle.st_model.specs.Local.{Outcome}
use Rattle.st_model.specs.Look.{Text}
use Rattle.st_model.specs.Parts.{own, pool_at}
use Rattle.st_model.specs.Shown.{pool_info}
use Rattle.st_model.specs.Step.{outcome, step}
use Rattle.st_model.specs.Wanted.{want_of}
use Rattle.st_model.specs.steps.EngineStateReport.{report_plain}
use Rattle.st_book.specs.Stands.{PartStands}
use Rattle.st_rack.specs.Device.{State}
use Rattle.st_rack.specs.Calls.{Devices}
use Rattle.st_pool.specs.declared.reply.PoolReply.{PoolReply}
use Rattle.st_pool.specs.Answered.{is_device_fault}
use Rattle.st_pool.specs.View.{PoolView}
use Rattle.st_board.specs.Ran.{more}
use Rattle.st_board.specs.View.{pools_of}
use Rattle.st_running.specs.Part.{HasRunOn, IsPart, IsReport, faults_out}
use Rattle.st_running.proofs.Faults.{fault_told}

plain_out : (s : EngineState) → outcome s EngineStateReport Plain ≡ Some ((step s EngineStateReport Plain).0, s)
unfolding report_plain
plain_out s = refl

-- what is answered, and that the state stays
pub stays : (s : EngineState) (answer : PoolReply) → IsReport s answer → (outcome s EngineStateReport answer.env ≡ Some (answer.reply, s)) × (answer.twin ≡ answer.reply) × (answer.low ≡ false) × (is_device_fault answer.env ≡ false)
stays s answer (inl is) = rw is (plain_out s, refl, refl, refl)
stays s answer (inr is) = rw is (refl, refl, refl, refl)

module _ {D : Type 0} (devs : D → Devices) (moment : D → ℕ) (state_at : D → ℕ → State) (faults : D → ℕ) where
  -- where no pool is found, there is none
  no_cells : (P : PoolView D → Type 0) (cells : List (PoolView D)) → ((n : Text) → pool_at n (pools_of cells) ≡ None) → AllByRecursion P cells
  no_cells P [] h = tt
  no_cells P (c ∷ cells) h = absurd (there (bytes_eq c.pool.name c.pool.name) ((bytes_eq-Decides c.pool.name c.pool.name).1 refl) (h c.pool.name))
    where
      there : (b : Bool) → b ≡ true → cond b (Some c.pool) (pool_at c.pool.name (pools_of cells)) ≡ None → ⊥
      there true e k = cc
      there false e k = cc

  pub reported : (s : EngineState) (answer : PoolReply) (cells : List (PoolView D)) (infos : List PoolInfo) (info : Option TableInfo) (short : Bool)
      → IsPart devs moment state_at faults s EngineStateReport cells None infos info short → IsReport s answer
      → HasRunOn devs moment state_at faults s EngineStateReport answer cells None cells None
  reported s answer cells infos info short h is =
      let out = stays s answer is in
      let licensed = ap is_some out.0 in
      let after : step s EngineStateReport answer.env ≡ (answer.reply, s) = ap (λ (o : Outcome). unwrap_or o (refused OutOfMemory, s)) out.0 in
      let told = fault_told s EngineStateReport answer.env refl licensed ∙ ap (λ (x : Reply × EngineState). x.0.code == 27) after in
      let calm : more (answer.reply.code == 27) ≡ 0 = ap more (sym told ∙ out.3) in
      record {
        licensed = licensed;
        replied = ap (λ (x : Reply × EngineState). x.0) (sym after);
        twin = out.1;
        low = out.2;
        part = subst (λ (t : EngineState). PartStands (want_of EngineStateReport) t (pools_of cells) None) (ap (λ (x : Reply × EngineState). x.1) (sym after)) h.part;
        kept = (h.kept, tt);
        shown = no_cells (λ (c : PoolView D). c.spare ≡ false → option_map pool_info (own c.pool.name s) ≡ Some (pool_info c.pool)) cells h.part.pools.found;
        table_shown = tt;
        counts = λ few. (let same : faults_out cells None ≡ faults_out cells None = refl {A = ℕ} in omega (arith, calm));
        slack = λ base low. low;
      }
