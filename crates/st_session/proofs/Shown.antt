-- the output in the words of the answers is that in the words of the lines
use Rattle.std.proofs.Common.{◌≡◌, ℕ, suc, ◌+◌, List, [], ◌∷◌, length, Bool, Some, refl, subst, arith}
use Rattle.std.specs.Prelude.{slice_get}
use Rattle.st_history.specs.declared.log.Event.{Event}
use Rattle.st_calls.specs.Form.{form}
use Rattle.st_running.specs.Calls.{runs}
use Rattle.st_laning.specs.declared.answers.Answer.{Answer}
use Rattle.st_laning.specs.declared.answers.Answer.TheVariants.{Ran, Fault, NotBuilt, Refused}
use Rattle.st_laning.specs.Entries.{entries_of, entry_of}
use Rattle.st_session.specs.Out.{answer_line, replies_from, is_ok, ok_from, out}
use Rattle.st_session.specs.inner.Printing.{shown_line, shown_ok, IsShown, AreShown, shown_from, shown_oks, whole}
use Rattle.st_laning.specs.inner.Running.{IsAnswer, AreAnswers}

-- what one answer shows is what line n shows
pub record IsSame (lanes n : ℕ) (line : List ℕ) (log : List Event) (answer : Answer) : Type 0 where
  pub text : shown_line n log answer ≡ answer_line n (form lanes line) (entry_of n (entries_of log))
  pub ok : shown_ok n log answer ≡ is_ok (entry_of n (entries_of log))
  pub shown : IsShown n log answer

same_answer : (lanes n : ℕ) (line : List ℕ) (log : List Event) (answer : Answer) → IsAnswer runs lanes n line log answer → IsSame lanes n line log answer
same_answer lanes n line log (Ran place) h = record { text = rw h.found refl; ok = refl; shown = h }
same_answer lanes n line log (Fault fault) h = record { text = rw (h.0, h.1) refl; ok = rw h.1 refl; shown = tt }
same_answer lanes n line log (NotBuilt call) h = record { text = rw (h.1, h.3, h.2) refl; ok = rw h.3 refl; shown = tt }
same_answer lanes n line log Refused h = record { text = rw (h.2, h.4, h.3) refl; ok = rw h.4 refl; shown = tt }

-- each answer from line n on is that line's
abbrev pub AreFrom : ℕ → ℕ → List (List ℕ) → List Event → List Answer → Type 0
AreFrom lanes n lines log answers = (i : ℕ) (line : List ℕ) (answer : Answer) → slice_get lines i ≡ Some line → slice_get answers i ≡ Some answer → IsAnswer runs lanes (n + i) line log answer

pub record AreSame (lanes n : ℕ) (lines : List (List ℕ)) (log : List Event) (answers : List Answer) : Type 0 where
  pub text : shown_from n log answers ≡ replies_from lanes n lines log
  pub oks : shown_oks n log answers ≡ ok_from n lines log
  pub shown : AreShown n log answers

pub all_same : (lanes n : ℕ) (lines : List (List ℕ)) (log : List Event) (answers : List Answer) → length answers ≡ length lines → AreFrom lanes n lines log answers → AreSame lanes n lines log answers
all_same lanes n [] log [] len h = record { text = refl; oks = refl; shown = tt }
all_same lanes n [] log (answer ∷ answers) len h = absurd (omega (arith, len))
all_same lanes n (line ∷ lines) log [] len h = absurd (omega (arith, len))
all_same lanes n (line ∷ lines) log (answer ∷ answers) len h =
    let first = same_answer lanes n line log answer (subst (λ (m : ℕ). IsAnswer runs lanes m line log answer) (omega arith) (h 0 line answer refl refl)) in
    let tail : AreFrom lanes (n + 1) lines log answers = λ i l a lh ah. subst (λ (m : ℕ). IsAnswer runs lanes m l log a) (omega arith) (h (suc i) l a lh ah) in
    let rest = all_same lanes (n + 1) lines log answers (omega (arith, len)) tail in
    record {
      text = rw (first.text, rest.text) refl;
      oks = rw (first.ok, rest.oks) refl;
      shown = (first.shown, rest.shown);
    }

pub answers_same : (lanes : ℕ) (lines : List (List ℕ)) (log : List Event) (answers : List Answer) → length answers ≡ length lines → AreAnswers runs lanes lines log answers → AreSame lanes 1 lines log answers
answers_same lanes lines log answers len h = all_same lanes 1 lines log answers len (λ i l a lh ah. subst (λ (m : ℕ). IsAnswer runs lanes m l log a) (omega arith) (h i l a lh ah))

pub whole-out : (lanes : ℕ) (trace : Bool) (lines : List (List ℕ)) (log : List Event) (answers : List Answer) → length answers ≡ length lines → AreSame lanes 1 lines log answers → whole trace log answers ≡ out lanes trace lines log
unfolding out
whole-out lanes trace lines log answers len same = rw (same.text, same.oks, len) refl
