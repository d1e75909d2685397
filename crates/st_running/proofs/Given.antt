-- what a call leaves may come back
use Rattle.std.proofs.Common.{◌≡◌, ℕ, ◌+◌, ◌==◌, ◌≤◌, Bool, true, false, [], ◌∷◌, length, cond, Option, Some, None, refl, sym, ap, ◌∙◌}
use Rattle.std.specs.Prelude.{IfSome, option_map}
use Rattle.st_model.specs.declared.call.Call.{Call}
use Rattle.st_model.specs.declared.call.Call.TheVariants.{FsWrite}
use Rattle.st_model.specs.declared.entry.Entry.{Entry}
use Rattle.st_model.specs.declared.reply.Reply.{Reply}
use Rattle.st_model.specs.declared.state.EngineState.{EngineState}
use Rattle.st_model.specs.Step.{IsLicensed, step}
use Rattle.st_model.specs.Wanted.{want_of}
use Rattle.st_history.specs.Failures.{failures_of, is_failure}
use Rattle.st_history.specs.History.{AreSteps, IsShort}
use Rattle.st_book.specs.Stands.{PartStands}
use Rattle.st_book.specs.View.{TableView}
use Rattle.st_rack.specs.Device.{State}
use Rattle.st_rack.specs.Calls.{Devices}
use Rattle.st_pool.specs.declared.reply.PoolReply.{PoolReply}
use Rattle.st_board.specs.Ran.{more}
use Rattle.st_board.specs.View.{BoardView, pools_of, slack_of}
use Rattle.st_running.specs.Calls.{runs}
use Rattle.st_running.specs.Gives.{CountsItsFaults, IsEntryOf, MayComeBack}
use Rattle.st_running.specs.Part.{as_table, faults_out}

-- none of the engine's calls is a write
not_short : (s : EngineState) (call : Call) → runs call ≡ true → IsShort s call → ⊥
not_short s (FsWrite pool name sector payload) r short = absurd cc
not_short s _ r short = short

slack_too : {D : Type 0} (faults : D → ℕ) (base : ℕ) (left : Option (BoardView D)) → IfSome left (λ (b : BoardView D). base ≤ slack_of faults b) → IfSome (option_map (as_table faults) left) (λ (v : TableView). base ≤ v.slack)
slack_too faults base None h = tt
slack_too faults base (Some b) h = h

pub one_failure : (e : Entry) → failures_of (e ∷ []) ≡ more (is_failure e)
one_failure e = here (is_failure e)
  where
    here : (b : Bool) → length (cond b (e ∷ []) []) ≡ more b
    here true = refl
    here false = refl

module _ {D : Type 0} (devs : D → Devices) (moment : D → ℕ) (state_at : D → ℕ → State) (faults : D → ℕ) where
  steps : (s : EngineState) (call : Call) (answer : PoolReply) (e : Entry) → IsLicensed s call answer.env → answer.reply ≡ (step s call answer.env).0 → IsEntryOf call answer e → AreSteps s (e ∷ [])
  steps s call answer e licensed replied is = (rw (is.call_is, is.env_is) licensed, is.reply_is ∙ replied ∙ rw (is.call_is, is.env_is) refl, tt)

  pub comes_back : MayComeBack devs moment state_at faults
  comes_back s call answer e base cells after table left r h is low =
      let part : PartStands (want_of call) (step s e.call e.env).1 (pools_of after) (option_map (as_table faults) left) = rw (is.call_is, is.env_is) h.part in
      let whole : runs e.call ≡ true = ap runs is.call_is ∙ r in
      record {
        steps = steps s call answer e h.licensed h.replied is;
        one = (is.from, λ short. absurd (not_short s e.call whole short));
        of = ap want_of is.call_is;
        part = part;
        slack = slack_too faults base left (h.slack base low);
      }

  pub counts_faults : CountsItsFaults devs moment state_at faults
  counts_faults s call answer e cells after table left h is few =
      h.counts few ∙ ap (λ (n : ℕ). faults_out cells table + n) (ap (λ (x : Reply). more (x.code == 27)) (sym is.reply_is) ∙ sym (one_failure e))
