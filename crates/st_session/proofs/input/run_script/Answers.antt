use Rattle.std.proofs.Common.{◌≡◌, ◌⊎◌, inl, inr, List, [], refl, sym, ap, subst}
use Rattle.st_history.specs.History.{History}
use Rattle.st_model.specs.declared.state.EngineState.{EngineState}
use Rattle.st_status.specs.Statuses.{IsAfterInput, IsEarly, IsOfDevices}
use Rattle.st_status.specs.declared.status.Status.{Status}
use Rattle.st_session.proofs.Ends.{after_not_devices, after_not_early, early_of_devices, either, lines_read, unbegun_counted, untouched_counted}
use Rattle.st_session.specs.inner.Ended.{IsOfBeginning}
use Rattle.st_session.proofs.input.run_script.Goals as goal

pub returns-in-Err-clause-out_of_memory : goal.returns-in-Err-clause-out_of_memory
returns-in-Err-clause-out_of_memory g c = λ e. inl (record { none = c.early.ensures.log; unwritten = refl; rack = inl c.early.ensures.rack })

pub returns-in-Err-clause-history : goal.returns-in-Err-clause-history
returns-in-Err-clause-history g c = λ s0 stood. subst (λ (l : List _). History s0 l) (sym c.early.ensures.log) tt

pub returns-in-Err-clause-counts : goal.returns-in-Err-clause-counts
returns-in-Err-clause-counts g c = untouched_counted g.R.Rack.devs g.R.Rack.moment g.R.Rack.state_at g.R.Rack.faults c.args.rack c.early.result.log.items c.early.result.rack c.early.ensures.rack c.early.ensures.log

pub returns-clause-done : goal.returns-clause-done
returns-clause-done g c = λ e.
    either _ (λ p. absurd (subst (λ (s : Status). IsOfBeginning s) e p.0.ended))
    (λ q. record { lines = c.in-Ok.lines; read = lines_read _ _ c.in-Ok.ensures.lines; run = q.run; written = q.done e }) c.run_input.ensures.ended

pub returns-clause-cut_off : goal.returns-clause-cut_off
returns-clause-cut_off g c = λ e.
    either _ (λ p. absurd (subst (λ (s : Status). IsOfBeginning s) e p.0.ended))
    (λ q. record { lines = c.in-Ok.lines; read = lines_read _ _ c.in-Ok.ensures.lines; run = q.run; prefix = q.cut (λ d. absurd cc) }) c.run_input.ensures.ended

pub returns-clause-out_of_memory : goal.returns-clause-out_of_memory
returns-clause-out_of_memory g c = λ e.
    either _ (λ p. inl (record { none = p.0.none; unwritten = ap g.K.Sink.held p.1; rack = inr p.0.back }))
    (λ q. inr (record { lines = c.in-Ok.lines; read = lines_read _ _ c.in-Ok.ensures.lines; run = q.run; prefix = q.cut (λ d. absurd cc) })) c.run_input.ensures.ended

pub returns-clause-early : goal.returns-clause-early
returns-clause-early g c = λ early.
    either _ (λ p. (p.1, p.0.none)) (λ q. absurd (after_not_early _ q.ended early)) c.run_input.ensures.ended

pub returns-clause-untouched : goal.returns-clause-untouched
returns-clause-untouched g c = λ early no_device.
    either _ (λ p. absurd (no_device (early_of_devices _ p.0.ended early))) (λ q. absurd (after_not_early _ q.ended early)) c.run_input.ensures.ended

pub returns-clause-back : goal.returns-clause-back
returns-clause-back g c = λ of.
    either _ (λ p. p.0.back) (λ q. absurd (after_not_devices _ q.ended of)) c.run_input.ensures.ended

pub returns-clause-history : goal.returns-clause-history
returns-clause-history g c = λ s0 stood.
    let R = g.R.Rack in
    either _ (λ p. subst (λ (l : List _). History s0 l) (sym p.0.none) tt)
    (λ q. subst (λ (s : EngineState). History s c.run_input.result.log.items) (c.stands_as_one.ensures _ _ q.run.opening s0 q.run.began.stood stood) q.run.history) c.run_input.ensures.ended

pub returns-clause-counts : goal.returns-clause-counts
returns-clause-counts g c =
    let R = g.R.Rack in
    either _ (λ p. unbegun_counted R.devs R.moment R.state_at R.faults c.args.rack _ _ _ p.0) (λ q. q.counts) c.run_input.ensures.ended

pub returns-clause-no_usage : goal.returns-clause-no_usage
returns-clause-no_usage g c = λ e.
    either _ (λ p. subst (λ (s : Status). IsOfBeginning s) e p.0.ended) (λ q. subst (λ (s : Status). IsAfterInput s) e q.ended) c.run_input.ensures.ended

pub returns-clause-read_fault : goal.returns-clause-read_fault
returns-clause-read_fault g c = λ e.
    either _ (λ p. absurd (subst (λ (s : Status). IsOfBeginning s) e p.0.ended)) (λ q. absurd (subst (λ (s : Status). IsAfterInput s) e q.ended)) c.run_input.ensures.ended

pub returns-clause-limit : goal.returns-clause-limit
returns-clause-limit g c = λ limit e.
    either _ (λ p. absurd (subst (λ (s : Status). IsOfBeginning s) e p.0.ended)) (λ q. absurd (subst (λ (s : Status). IsAfterInput s) e q.ended)) c.run_input.ensures.ended

pub returns-clause-open_fault : goal.returns-clause-open_fault
returns-clause-open_fault g c = λ e.
    either _ (λ p. p.0.open_fault e) (λ q. absurd (subst (λ (s : Status). IsAfterInput s) e q.ended)) c.run_input.ensures.ended

pub returns-clause-foreign : goal.returns-clause-foreign
returns-clause-foreign g c = λ n e.
    either _ (λ p. p.0.foreign n e) (λ q. absurd (subst (λ (s : Status). IsAfterInput s) e q.ended)) c.run_input.ensures.ended
