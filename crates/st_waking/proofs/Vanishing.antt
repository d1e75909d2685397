-- The pool was found to be no more.
use Rattle.std.proofs.Common.{◌≡◌, ℕ, ◌<◌, ◌≤◌, ◌+◌, ◌-◌, min, nat_lt, Bool, true, false, cond, remove, unwrap_or, List, [], Some, is_some, refl, sym, ap, subst, ◌∙◌, arith}
use Rattle.std.specs.List.{sum_by}
use Rattle.std.proofs.lemmas.Grind.{common_steps}
use Rattle.st_units.specs.declared.cause.Cause.TheVariants.{OutOfMemory, PoolVanished}
use Rattle.st_model.specs.declared.call.Call.TheVariants.{StartPool}
use Rattle.st_model.specs.declared.call.PoolId.{PoolId}
use Rattle.st_model.specs.declared.call.PoolId.TheVariants.{ByName}
use Rattle.st_model.specs.declared.entry.Env.{Env}
use Rattle.st_model.specs.declared.reply.Reply.{Reply}
use Rattle.st_model.specs.declared.state.EngineState.{EngineState}
use Rattle.st_model.specs.declared.state.PoolState.{PoolState}
use Rattle.st_model.specs.declared.state.TableState.{TableState}
use Rattle.st_model.specs.Answer.{refused}
use Rattle.st_model.specs.Local.{Outcome}
use Rattle.st_model.specs.Parts.{table_of}
use Rattle.st_model.specs.Pieces.{ArePools, every}
use Rattle.st_model.specs.Step.{outcome, step}
use Rattle.st_model.specs.Valid.{IsValid}
use Rattle.st_model.proofs.Validity.{step-keeps}
use Rattle.st_rack.specs.Device.{State}
use Rattle.st_rack.specs.Calls.{Devices}
use Rattle.st_table.specs.Stands.{Stands}
use Rattle.st_beside.specs.Beside.{beside}
use Rattle.st_cells.proofs.Cells.{dropped}
use Rattle.st_pool.specs.declared.reply.PoolReply.{PoolReply}
use Rattle.st_pool.specs.Answered.{answered, is_device_fault}
use Rattle.st_pool.specs.Halts.{Halts, HaltedView}
use Rattle.st_pool.specs.Starts.{Vanishes}
use Rattle.st_pool.specs.View.{PoolView, engine_of}
use Rattle.st_board.specs.Changes.{IsFreedOn, without}
use Rattle.st_board.specs.Ran.{AreAll, HasRun, more}
use Rattle.st_board.specs.View.{BoardView, faults_with, last, pools_of}
use Rattle.st_startbeside.specs.Starts.{StartBeside}
use Rattle.st_leaving.proofs.Freed.{freed_on}
use Rattle.st_ran.proofs.Sums.{sum_taken}
use Rattle.st_lent.specs.Lent.{HasVanished}
use Rattle.st_waking.specs.declared.ready.Ready.{Ready}
use Rattle.st_waking.specs.Taken.{IsSet}
use Rattle.st_waking.proofs.Coming.{old_shown}
use Rattle.st_waking.proofs.Taking.{all_others, beside_is, calm, down, here, sizes, whole}

-- what the free devices have counted stays above what is past
slack_more : (f g n m past count : ℕ) → m ≡ min (f + g) last → n ≡ min (past + count) last → count ≤ g → cond (nat_lt f last) (f - past) last ≤ cond (nat_lt m last) (m - n) last
slack_more f g n m past count m_is n_is le = by (nat_lt f last) refl (nat_lt m last) refl
  where
    by : (b : Bool) → nat_lt f last ≡ b → (c : Bool) → nat_lt m last ≡ c → cond b (f - past) last ≤ cond c (m - n) last
    by true e true k = grind (arith, common_steps)
    by true e false k = grind (arith, common_steps)
    by false e true k = grind (arith, common_steps)
    by false e false k = omega arith

module _ {D : Type 0} (devs : D → Devices) (moment : D → ℕ) (state_at : D → ℕ → State) (faults : D → ℕ) (s : EngineState) (id : PoolId) (cells : List (PoolView D)) (was : BoardView D)
    (all : AreAll devs moment state_at faults s cells was) (r : Ready) (p : PoolState) (h : HaltedView D) (set : IsSet devs s id was.halted r p h) (halts : Halts devs moment state_at p h)
    (law : StartBeside) (env : Env) (rack : D) (gone : Vanishes devs moment state_at faults p h env rack) where
  abbrev after : EngineState
  after = without p s

  out : outcome s (StartPool id) env ≡ Some (refused PoolVanished, after)
  out = beside_is devs moment state_at faults s id cells was all r p h set halts law env ∙ ap (beside p s) gone.answers

  step_is : step s (StartPool id) env ≡ (refused PoolVanished, after)
  step_is = ap (λ (o : Outcome). unwrap_or o (refused OutOfMemory, s)) out

  valid_after : IsValid after
  valid_after = subst (λ (x : Reply × EngineState). IsValid x.1) step_is (step-keeps s (StartPool id) env all.valid)

  freed : IsFreedOn devs moment state_at s p rack
  freed = freed_on devs moment state_at s p rack all.valid (here devs moment state_at faults s id cells was all r p h set) (whole devs moment state_at faults s id cells was all r p h set (devs rack)) gone.own gone.freed
      (λ d n has. sizes devs moment state_at faults s id cells was all r p h set d n (subst (λ (ds : Devices). Rattle.st_rack.specs.Calls.Has ds d n) gone.same_devs has))

  pub has_vanished : (t u : TableState) (n : ℕ) → t ≡ was.state → u ≡ table_of (step s (StartPool id) env).1 → n ≡ h.serial → HasVanished devs moment state_at t u n rack
  has_vanished t u n t_is u_is n_is = record {
    state = s;
    pool = p;
    goes = record { before = all.valid; here = here devs moment state_at faults s id cells was all r p h set; after = valid_after };
    was = sym (t_is ∙ all.table);
    is = sym (u_is ∙ ap (λ (x : Reply × EngineState). table_of x.1) step_is);
    serial = sym (n_is ∙ set.serial);
    halted = down devs moment state_at faults s id cells was all r p h set;
    freed = freed;
  }

  -- the table tells of it
  pub tells_gone : (u : TableState) → u ≡ table_of (step s (StartPool id) env).1 → Stands r.tables.gone u
  tells_gone u u_is = subst (Stands r.tables.gone) (sym (u_is ∙ ap (λ (x : Reply × EngineState). table_of x.1) step_is)) set.tell.gone

  calm_now : is_device_fault env ≡ false
  calm_now = calm (ByName p.name) (engine_of p (devs h.rack)) (record (engine_of p (devs h.rack)) { pools = [] }) (refused PoolVanished) env gone.answers (λ k. omega (arith, k))

  module _ (b : BoardView D) (b_is : b ≡ record { state = table_of (step s (StartPool id) env).1; spare = true; free = b.free; halted = remove was.halted r.place; past = min (was.past + h.faults) last })
      (risen : faults b.free ≡ min (faults was.free + faults rack) last) where
    all_after : AreAll devs moment state_at faults after cells b
    all_after = record {
      valid = valid_after;
      pools = subst (ArePools every after) (all_others devs moment state_at faults s id cells was all r p h set) (dropped s (pools_of cells) p all.valid (here devs moment state_at faults s id cells was all r p h set) all.pools);
      table = ap (λ (x : BoardView D). x.state) b_is ∙ ap (λ (x : Reply × EngineState). table_of x.1) step_is;
      kept = all.kept;
    }

    abbrev halted_faults : HaltedView D → ℕ
    halted_faults x = x.faults

    counts : faults_with cells was < last → faults_with cells b ≡ faults_with cells was + more (is_device_fault env)
    counts few =
        let left = sum_taken halted_faults was.halted r.place h set.at in
        let none : more (is_device_fault env) ≡ 0 = ap more calm_now in
        let board : faults_with cells b ≡ min (min (was.past + h.faults) last + sum_by halted_faults (remove was.halted r.place)) last + sum_by (λ (c : PoolView D). c.faults) cells = ap (λ (x : BoardView D). faults_with cells x) b_is in
        omega (arith, left, none, board, few)

    pub has_gone : HasRun devs moment state_at faults s (StartPool id) (answered env (refused PoolVanished)) cells was cells b
    has_gone = record {
      licensed = ap is_some out;
      replied = ap (λ (x : Reply × EngineState). x.0) (sym step_is);
      twin = refl;
      low = refl;
      all = subst (λ (x : Reply × EngineState). AreAll devs moment state_at faults x.1 cells b) (sym step_is) all_after;
      shown = old_shown s cells all.valid all.pools;
      table_shown = λ none. absurd (let there : b.spare ≡ true = ap (λ (x : BoardView D). x.spare) b_is in cc);
      counts = counts;
      slack = slack_more (faults was.free) (faults rack) b.past (faults b.free) was.past h.faults risen (ap (λ (x : BoardView D). x.past) b_is) gone.counted;
    }

  -- as the function has it
  pub went : (answer : PoolReply) (b : BoardView D) → answer ≡ answered env (refused PoolVanished)
      → b ≡ record { state = table_of (step s (StartPool id) env).1; spare = true; free = b.free; halted = remove was.halted r.place; past = min (was.past + h.faults) last }
      → faults b.free ≡ min (faults was.free + faults rack) last → HasRun devs moment state_at faults s (StartPool id) answer cells was cells b
  went answer b answer_is b_is risen = subst (λ (a : PoolReply). HasRun devs moment state_at faults s (StartPool id) a cells was cells b) (sym answer_is) (has_gone b b_is risen)
