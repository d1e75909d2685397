use Rattle.std.proofs.Common.{◌≡◌, ℕ, List, Result, length, ap, sym, ◌∙◌, subst}
use Rattle.std.specs.Prelude.{IfOk}
use Rattle.st_units.specs.declared.memory.NoMemory.{NoMemory}
use Rattle.st_running.specs.Calls.{runs}
use Rattle.st_laning.specs.declared.answers.Answer.{Answer}
use Rattle.st_laning.specs.inner.Running.{AreAnswers}
use Rattle.std.specs.Io.KnownBytes.{Appends}
use Rattle.st_session.specs.Out.{out}
use Rattle.st_session.specs.inner.Printing.{whole}
use Rattle.st_lines.specs.Printing.{Started}
use Rattle.st_session.proofs.Shown.{answers_same, whole-out}
use Rattle.st_session.proofs.input.written_after.Given.{Over}
use Rattle.st_session.proofs.input.written_after.Goals as goal

pub written-status-requires : goal.written-status-requires
written-status-requires g c =
    let all = (subst (λ (r : Result (List Answer) NoMemory). IfOk r (λ (a : List Answer). length a ≡ length c.args.lines.now)) c.in-Ok.is c.requires.all) in
    let same = answers_same c.args.words.lanes c.args.lines.now c.args.ended.log.items c.in-Ok.answers all (subst (λ (r : Result (List Answer) NoMemory). IfOk r (λ (a : List Answer). AreAnswers runs c.args.words.lanes c.args.lines.now c.args.ended.log.items a)) c.in-Ok.is c.requires.answers) in
    rw c.items.ensures same.shown

text : (g : Over) (c : goal.After-drop-answers-inside g) → whole c.args.words.trace c.args.ended.log.items c.items.result.now ≡ out c.args.words.lanes c.args.words.trace c.args.lines.now c.args.ended.log.items
text g c =
    let log = c.args.ended.log.items in
    let all = (subst (λ (r : Result (List Answer) NoMemory). IfOk r (λ (a : List Answer). length a ≡ length c.args.lines.now)) c.in-Ok.is c.requires.all) in
    let same = answers_same c.args.words.lanes c.args.lines.now log c.in-Ok.answers all (subst (λ (r : Result (List Answer) NoMemory). IfOk r (λ (a : List Answer). AreAnswers runs c.args.words.lanes c.args.lines.now c.args.ended.log.items a)) c.in-Ok.is c.requires.answers) in
    ap (whole c.args.words.trace log) c.items.ensures ∙ whole-out c.args.words.lanes c.args.words.trace c.args.lines.now log c.in-Ok.answers all same

pub returns-clause-done : goal.returns-clause-done
returns-clause-done g c = λ e. subst (λ (t : List ℕ). Appends (g.K.Sink.held c.args.sink.now) (g.K.Sink.held c.written-status.new.sink) t) (text g c) (c.written-status.ensures.done e)

pub returns-clause-cut : goal.returns-clause-cut
returns-clause-cut g c = λ unfinished. subst (λ (t : List ℕ). Started (g.K.Sink.held c.args.sink.now) (g.K.Sink.held c.written-status.new.sink) t) (text g c) (c.written-status.ensures.cut unfinished)
