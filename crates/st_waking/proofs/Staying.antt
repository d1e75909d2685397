-- The pool stays halted.
use Rattle.std.proofs.Common.{◌≡◌, ℕ, ◌<◌, ◌≤◌, ◌+◌, min, Bool, true, false, remove, unwrap_or, List, [], ◌∷◌, ◌++◌, Some, is_some, refl, sym, ap, subst, ◌∙◌, arith}
use Rattle.std.specs.List.{sum_by}
use Rattle.st_units.specs.declared.cause.Cause.TheVariants.{DeviceFault, OutOfMemory}
use Rattle.st_model.specs.declared.call.Call.TheVariants.{StartPool}
use Rattle.st_model.specs.declared.call.PoolId.{PoolId}
use Rattle.st_model.specs.declared.entry.Env.{Env}
use Rattle.st_model.specs.declared.entry.Env.TheVariants.{FaultWrite, NoMem}
use Rattle.st_model.specs.declared.reply.Reply.{Reply}
use Rattle.st_model.specs.declared.state.EngineState.{EngineState}
use Rattle.st_model.specs.declared.state.PoolState.{PoolState}
use Rattle.st_model.specs.declared.state.TableState.{TableState}
use Rattle.st_model.specs.Answer.{refused}
use Rattle.st_model.specs.Local.{Outcome}
use Rattle.st_model.specs.Parts.{shown_table}
use Rattle.st_model.specs.Step.{outcome, step}
use Rattle.st_rack.specs.Device.{State}
use Rattle.st_rack.specs.Calls.{Devices}
use Rattle.st_pool.specs.declared.reply.PoolReply.{PoolReply}
use Rattle.st_pool.specs.Answered.{answered, counted, is_device_fault}
use Rattle.st_pool.specs.Halts.{Halts, HaltedView}
use Rattle.st_pool.specs.View.{PoolView}
use Rattle.st_board.specs.Holds.{stopped_at}
use Rattle.st_board.specs.Ran.{AreAll, HasRun, more}
use Rattle.st_board.specs.View.{BoardView, faults_with, last, slack_of}
use Rattle.st_ran.proofs.Sums.{sum_last, sum_taken}
use Rattle.st_lent.specs.Lent.{IsTheOne}
use Rattle.st_waking.specs.declared.ready.Ready.{Ready}
use Rattle.st_waking.specs.Taken.{IsSet}
use Rattle.st_waking.proofs.Coming.{old_shown}
use Rattle.st_waking.proofs.Taking.{fault_is, stopped_here}

counted_one : (b : Bool) (n : ℕ) → n < last → counted b n ≡ n + more b
counted_one true n h = omega (arith, h)
counted_one false n h = omega (arith, h)

few_more : (b : Bool) → more b ≤ 1
few_more true = omega arith
few_more false = omega arith

module _ {D : Type 0} (devs : D → Devices) (moment : D → ℕ) (state_at : D → ℕ → State) (faults : D → ℕ) (s : EngineState) (id : PoolId) (cells : List (PoolView D)) (was : BoardView D)
    (all : AreAll devs moment state_at faults s cells was) (r : Ready) (p : PoolState) (h : HaltedView D) (set : IsSet devs s id was.halted r p h) where
  -- what comes back is the pool that is out
  pub the_one : (t : TableState) (n : ℕ) (back : HaltedView D) → t ≡ was.state → n ≡ h.serial → Halts devs moment state_at p back → IsTheOne devs moment state_at n t back
  the_one t n back t_is n_is halts = record {
    pool = p;
    here = ap (λ (k : ℕ). stopped_at k t.stopped) (n_is ∙ set.serial) ∙ (ap (λ (x : TableState). stopped_at p.serial x.stopped) (t_is ∙ all.table) ∙ stopped_here devs moment state_at faults s id cells was all r p h set);
    can = set.can;
    halts = halts;
  }

  module _ (env : Env) (reply : Reply) (out : outcome s (StartPool id) env ≡ Some (reply, s)) (back : HaltedView D) (count : back.faults ≡ counted (is_device_fault env) h.faults)
      (b : BoardView D) (b_is : b ≡ record was { halted = remove was.halted r.place ++ back ∷ [] }) where
    step_is : step s (StartPool id) env ≡ (reply, s)
    step_is = ap (λ (o : Outcome). unwrap_or o (refused OutOfMemory, s)) out

    all_after : AreAll devs moment state_at faults s cells b
    all_after = record { valid = all.valid; pools = all.pools; table = ap (λ (x : BoardView D). x.state) b_is ∙ all.table; kept = all.kept }

    abbrev halted_faults : HaltedView D → ℕ
    halted_faults x = x.faults

    counts : faults_with cells was < last → faults_with cells b ≡ faults_with cells was + more (is_device_fault env)
    counts few =
        let left = sum_taken halted_faults was.halted r.place h set.at in
        let again = sum_last halted_faults (remove was.halted r.place) back in
        let risen = count ∙ counted_one (is_device_fault env) h.faults (omega (arith, left, few)) in
        let board : faults_with cells b ≡ min (was.past + sum_by halted_faults (remove was.halted r.place ++ back ∷ [])) last + sum_by (λ (c : PoolView D). c.faults) cells = ap (λ (x : BoardView D). faults_with cells x) b_is in
        let one = few_more (is_device_fault env) in
        omega (arith, left, again, risen, board, few, one)

    has_stayed : HasRun devs moment state_at faults s (StartPool id) (answered env reply) cells was cells b
    has_stayed = record {
      licensed = ap is_some out;
      replied = ap (λ (x : Reply × EngineState). x.0) (sym step_is);
      twin = refl;
      low = refl;
      all = subst (λ (x : Reply × EngineState). AreAll devs moment state_at faults x.1 cells b) (sym step_is) all_after;
      shown = old_shown s cells all.valid all.pools;
      table_shown = λ none. ap shown_table (sym (ap (λ (x : BoardView D). x.state) b_is ∙ all.table));
      counts = counts;
      slack = (let same : slack_of faults b ≡ slack_of faults was = ap (λ (x : BoardView D). slack_of faults x) b_is in omega (arith, same));
    }

  pub has_failed : (back : HaltedView D) → back.faults ≡ counted true h.faults → (b : BoardView D) → b ≡ record was { halted = remove was.halted r.place ++ back ∷ [] }
      → HasRun devs moment state_at faults s (StartPool id) (answered FaultWrite (refused DeviceFault)) cells was cells b
  has_failed back count b b_is = has_stayed FaultWrite (refused DeviceFault) (fault_is devs moment state_at faults s id cells was all r p h set) back count b b_is

  pub has_not_begun : (back : HaltedView D) → back.faults ≡ h.faults → (b : BoardView D) → b ≡ record was { halted = remove was.halted r.place ++ back ∷ [] }
      → HasRun devs moment state_at faults s (StartPool id) (answered NoMem (refused OutOfMemory)) cells was cells b
  has_not_begun back count b b_is = has_stayed NoMem (refused OutOfMemory) refl back count b b_is

  -- as the function has it
  pub failed_so : (back : HaltedView D) → back.faults ≡ counted true h.faults → (answer : PoolReply) (b : BoardView D) → answer ≡ answered FaultWrite (refused DeviceFault) → b ≡ record was { halted = remove was.halted r.place ++ back ∷ [] }
      → HasRun devs moment state_at faults s (StartPool id) answer cells was cells b
  failed_so back count answer b answer_is b_is = subst (λ (a : PoolReply). HasRun devs moment state_at faults s (StartPool id) a cells was cells b) (sym answer_is) (has_failed back count b b_is)

  pub refused_so : (back : HaltedView D) → back.faults ≡ h.faults → (answer : PoolReply) (b : BoardView D) → answer ≡ answered NoMem (refused OutOfMemory) → b ≡ record was { halted = remove was.halted r.place ++ back ∷ [] }
      → HasRun devs moment state_at faults s (StartPool id) answer cells was cells b
  refused_so back count answer b answer_is b_is = subst (λ (a : PoolReply). HasRun devs moment state_at faults s (StartPool id) a cells was cells b) (sym answer_is) (has_not_begun back count b b_is)
