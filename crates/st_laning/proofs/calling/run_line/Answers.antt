use Rattle.std.proofs.Common.{◌≡◌, ◌+◌, ℕ, Result, rules, refl, sym, ◌∙◌, subst}
use Rattle.std.specs.Prelude.{IfOk, OnErr}
use Rattle.st_units.specs.declared.memory.NoMemory.{NoMemory}
use Rattle.st_running.specs.Calls.{runs}
use Rattle.st_laning.specs.inner.Running.{RanCall}
use Rattle.st_laning.proofs.calling.run_line.Goals as goal

pub returns-in-Err-OutOfMemory-clause-refused : goal.returns-in-Err-OutOfMemory-clause-refused
returns-in-Err-OutOfMemory-clause-refused g c = refl

pub returns-in-Err : goal.returns-in-Err
returns-in-Err g c = search rules

pub returns-then-not-runs-clause-answered : goal.returns-then-not-runs-clause-answered
returns-then-not-runs-clause-answered g c = (c.in-Ok.read.0, c.in-Ok.ensures.form, sym c.runs.ensures ∙ c.if-not-runs.true, refl)

pub run_call-home-requires-clause-sound : goal.run_call-home-requires-clause-sound
run_call-home-requires-clause-sound g c = c.in-Ok.ensures.call.sound

pub run_call-home-requires-clause-runs : goal.run_call-home-requires-clause-runs
run_call-home-requires-clause-runs g c = sym c.runs.ensures ∙ c.if-not-runs.false

pub returns-in-Ok-place-clause-answered : goal.returns-in-Ok-place-clause-answered
returns-in-Ok-place-clause-answered g c = (
  c.in-Ok.read.0,
  c.in-Ok.read.1,
  c.in-Ok.ensures.form,
  subst (λ (r : Result ℕ NoMemory). IfOk r (λ place. RanCall runs (c.in-Ok.read.0 + 1) c.args.number c.in-Ok.read.1 c.args.home c.run_call-home.result.home place)) c.in-Ok-place.is c.run_call-home.ensures.ran,
)

pub returns-in-Err-place-clause-answered : goal.returns-in-Err-place-clause-answered
returns-in-Err-place-clause-answered g c = (
  c.in-Ok.read.0,
  c.in-Ok.read.1,
  c.in-Ok.ensures.form,
  sym c.runs.ensures ∙ c.if-not-runs.false,
  subst (λ (r : Result ℕ NoMemory). OnErr r (c.run_call-home.result.home ≡ c.args.home)) c.in-Err-place.is c.run_call-home.ensures.refused,
)
