-- from line to line
use Rattle.std.proofs.Common.{◌≡◌, ℕ, zero, suc, ◌+◌, ◌*◌, ◌==◌, ◌<◌, ◌≤◌, ◌⊎◌, inl, inr, List, [], ◌∷◌, ◌++◌, length, Result, Ok, Err, Some, None, Bool, true, false, cond, refl, sym, ap, ◌∙◌, subst, arith, length-append}
use Rattle.std.proofs.lemmas.Grind.{common_steps}
use Rattle.std.proofs.lemmas.Option.{slice_get_within}
use Rattle.std.specs.Prelude.{IfOk, IsOk, OnErr, slice_get}
use Rattle.std.specs.List.{AllByRecursion}
use Rattle.st_units.specs.Roomy.{Roomy}
use Rattle.st_model.specs.declared.call.Call.{Call}
use Rattle.st_model.specs.declared.entry.Entry.{Entry}
use Rattle.st_model.specs.declared.entry.Origin.TheVariants.{Line}
use Rattle.st_model.specs.Wanted.{want_of}
use Rattle.st_history.specs.declared.log.Event.{Event}
use Rattle.st_calls.specs.Form.{form}
use Rattle.st_alone.specs.Alone.{HomeView}
use Rattle.st_laning.specs.declared.answers.Answer.{Answer}
use Rattle.st_laning.specs.declared.answers.Answer.TheVariants.{Ran, Fault, NotBuilt, Refused}
use Rattle.st_laning.specs.Entries.{entries_of, is_from, entry_of}
use Rattle.st_laning.specs.LaneOrder.{IsLineCall}
use Rattle.st_laning.specs.inner.Running.{events_of, RanCall, Answered, IsAnswer, AreAnswers}
use Rattle.st_laning.specs.inner.Going.{IsGoing}
use Rattle.st_laning.proofs.Laned.{laned_skip, laned_call, laned_start}
use Rattle.st_laning.proofs.Logs.{call_events, entries_of-call, none_from, is_from-line}
use Rattle.st_laning.proofs.Places.{at_append, at_front, at_back, found_first, found_later}

all_end : (P : Entry → Type 0) (xs : List Entry) (e : Entry) → AllByRecursion P xs → P e → AllByRecursion P (xs ++ e ∷ [])
all_end P [] e h g = (g, tt)
all_end P (x ∷ xs) e h g = (h.0, all_end P xs e h.1 g)

-- before the first line
pub going_start : (runs : Call → Bool) (lanes : ℕ) (lines : List (List ℕ)) (began : HomeView) → began.log ≡ [] → began.tickets ≡ 0 → IsGoing runs lanes lines began 0 began
going_start runs lanes lines began log tickets = record {
  opening = refl;
  base = refl;
  short = (let none : length began.log ≡ 0 = ap length log in omega (arith, none));
  built = rw log tt;
  laned = rw (log, tickets) (laned_start lanes lines);
}

going_skip : (runs : Call → Bool) (lanes : ℕ) (lines : List (List ℕ)) (began : HomeView) (i : ℕ) (old new : HomeView) → IsGoing runs lanes lines began i old → new ≡ old → IsGoing runs lanes lines began (i + 1) new
going_skip runs lanes lines began i old new h same = subst (λ (v : HomeView). IsGoing runs lanes lines began (i + 1) v) (sym same) (record {
  opening = h.opening;
  base = h.base;
  short = (let short = h.short in omega (arith, short));
  built = h.built;
  laned = laned_skip lanes lines i old.tickets old.log h.laned;
})

logged : (runs : Call → Bool) (seat n : ℕ) (call : Call) (old new : HomeView) (place : ℕ) (ran : RanCall runs seat n call old new place) → new.log ≡ old.log ++ call_events seat old.tickets (want_of ran.entry.call) ran.entries
logged runs seat n call old new place ran =
    let events : events_of seat old.tickets ran.entries call ≡ call_events seat old.tickets (want_of ran.entry.call) ran.entries = rw ran.call_is refl in
    ran.log ∙ ap (λ more. old.log ++ more) events

going_call : (runs : Call → Bool) (lanes : ℕ) (lines : List (List ℕ)) (began : HomeView) (i : ℕ) (line : List ℕ) (lane : ℕ) (call : Call) (old new : HomeView) (place : ℕ) → IsGoing runs lanes lines began i old → slice_get lines i ≡ Some line
    → form lanes line ≡ Ok (lane, call) → RanCall runs (lane + 1) (i + 1) call old new place → IsGoing runs lanes lines began (i + 1) new
going_call runs lanes lines began i line lane call old new place h at read ran =
    let e = ran.entry in
    let built : runs e.call ≡ true = rw ran.call_is ran.built in
    let events = call_events (lane + 1) old.tickets (want_of e.call) ran.entries in
    let log : new.log ≡ old.log ++ call_events (lane + 1) old.tickets (want_of e.call) ran.entries = logged runs (lane + 1) (i + 1) call old new place ran in
    let line_call : IsLineCall lanes lines (i + 1) lane e.call = record { place = i; numbered = refl; line = line; at = at; read = rw ran.call_is read } in
    let listed : entries_of new.log ≡ entries_of old.log ++ e ∷ [] = ap entries_of log ∙ entries_of-call old.log (lane + 1) old.tickets (want_of e.call) ran.entries e ran.alone in
    record {
      opening = ran.opening ∙ h.opening;
      base = ran.base ∙ h.base;
      short = (
          let size : length new.log ≡ length (old.log ++ events) = ap length log in
          let both = length-append old.log events in
          let short = h.short in
          omega (arith, size, both, short));
      built = subst (λ (es : List Entry). AllByRecursion (λ (x : Entry). runs x.call ≡ true) es) (sym listed) (all_end (λ (x : Entry). runs x.call ≡ true) (entries_of old.log) e h.built built);
      laned = rw (log, ran.tickets) (laned_call lanes lines i old.tickets old.log (want_of e.call) ran.entries e ran.alone ran.from_is lane line_call h.laned);
    }

pub going_more : (runs : Call → Bool) (lanes : ℕ) (lines : List (List ℕ)) (began : HomeView) (i : ℕ) (line : List ℕ) (old new : HomeView) (answer : Answer) → IsGoing runs lanes lines began i old → slice_get lines i ≡ Some line
    → Answered runs lanes (i + 1) line old new answer → IsGoing runs lanes lines began (i + 1) new
going_more runs lanes lines began i line old new (Ran place) h at g = going_call runs lanes lines began i line g.0 g.1 old new place h at g.2 g.3
going_more runs lanes lines began i line old new (Fault fault) h at g = going_skip runs lanes lines began i old new h g.1
going_more runs lanes lines began i line old new (NotBuilt call) h at g = going_skip runs lanes lines began i old new h g.3
going_more runs lanes lines began i line old new Refused h at g = going_skip runs lanes lines began i old new h g.4

-- no line after i has an entry
none_yet : (runs : Call → Bool) (lanes : ℕ) (lines : List (List ℕ)) (began : HomeView) (i m : ℕ) (old : HomeView) → IsGoing runs lanes lines began i old → i < m → entry_of m (entries_of old.log) ≡ None
none_yet runs lanes lines began i m old h lt = none_from m (entries_of old.log) (h.laned.later m lt)

alone_found : (n : ℕ) (e : Entry) (b : Bool) → is_from n e ≡ b → entry_of n (e ∷ []) ≡ cond b (Some e) None
alone_found n e b h = ap (λ (x : Bool). cond x (Some e) None) h

other_number : (i n : ℕ) → n ≤ i → (i + 1 == n) ≡ false
other_number i n h = grind (arith, common_steps)

own_number : (n : ℕ) → (n == n) ≡ true
own_number n = grind (arith, common_steps)

-- the log with line i + 1's call, of which e is the entry
module _ (runs : Call → Bool) (lanes seat i : ℕ) (log : List Event) (ticket : ℕ) (entries : Roomy Entry) (e : Entry) (alone : entries.items ≡ e ∷ []) (from : e.from ≡ Line (i + 1)) where
  abbrev more : List Event
  more = log ++ call_events seat ticket (want_of e.call) entries

  listed : entries_of more ≡ entries_of log ++ e ∷ []
  listed = entries_of-call log seat ticket (want_of e.call) entries e alone

  none_still : (n : ℕ) → n ≤ i → entry_of n (entries_of log) ≡ None → entry_of n (entries_of more) ≡ None
  none_still n low none = ap (entry_of n) listed ∙ found_later (is_from n) (entries_of log) (e ∷ []) none ∙ alone_found n e false (is_from-line n (i + 1) e from ∙ other_number i n low)

  found_now : entry_of (i + 1) (entries_of log) ≡ None → entry_of (i + 1) (entries_of more) ≡ Some e
  found_now none = ap (entry_of (i + 1)) listed ∙ found_later (is_from (i + 1)) (entries_of log) (e ∷ []) none ∙ alone_found (i + 1) e true (is_from-line (i + 1) (i + 1) e from ∙ own_number (i + 1))

  -- what a line was answered stays so
  keeps_answer : (n : ℕ) (line : List ℕ) (answer : Answer) → n ≤ i → IsAnswer runs lanes n line log answer → IsAnswer runs lanes n line more answer
  keeps_answer n line (Ran place) low h = record {
    seat = h.seat;
    ticket = h.ticket;
    entries = h.entries;
    entry = h.entry;
    at = at_front log (call_events seat ticket (want_of e.call) entries) place _ h.at;
    alone = h.alone;
    found = ap (entry_of n) listed ∙ found_first (is_from n) (entries_of log) (e ∷ []) h.entry h.found;
  }
  keeps_answer n line (Fault fault) low h = (h.0, none_still n low h.1)
  keeps_answer n line (NotBuilt call) low h = (h.0, h.1, h.2, none_still n low h.3)
  keeps_answer n line Refused low h = (h.0, h.1, h.2, h.3, none_still n low h.4)

keeps_one : (runs : Call → Bool) (lanes i n : ℕ) (line l : List ℕ) (old new : HomeView) (answer a : Answer) → Answered runs lanes (i + 1) line old new answer → n ≤ i → IsAnswer runs lanes n l old.log a → IsAnswer runs lanes n l new.log a
keeps_one runs lanes i n line l old new (Ran place) a g low h =
    let ran = g.3 in
    subst (λ (log : List Event). IsAnswer runs lanes n l log a) (sym (logged runs (g.0 + 1) (i + 1) g.1 old new place ran)) (keeps_answer runs lanes (g.0 + 1) i old.log old.tickets ran.entries ran.entry ran.alone ran.from_is n l a low h)
keeps_one runs lanes i n line l old new (Fault fault) a g low h = subst (λ (log : List Event). IsAnswer runs lanes n l log a) (sym (ap (λ (v : HomeView). v.log) g.1)) h
keeps_one runs lanes i n line l old new (NotBuilt call) a g low h = subst (λ (log : List Event). IsAnswer runs lanes n l log a) (sym (ap (λ (v : HomeView). v.log) g.3)) h
keeps_one runs lanes i n line l old new Refused a g low h = subst (λ (log : List Event). IsAnswer runs lanes n l log a) (sym (ap (λ (v : HomeView). v.log) g.4)) h

own_answer : (runs : Call → Bool) (lanes i : ℕ) (line : List ℕ) (old new : HomeView) (answer : Answer) → entry_of (i + 1) (entries_of old.log) ≡ None → Answered runs lanes (i + 1) line old new answer → IsAnswer runs lanes (i + 1) line new.log answer
own_answer runs lanes i line old new (Ran place) none g =
    let ran = g.3 in
    let log = logged runs (g.0 + 1) (i + 1) g.1 old new place ran in
    record {
      seat = g.0 + 1;
      ticket = old.tickets;
      entries = ran.entries;
      entry = ran.entry;
      at = ap (λ (l : List Event). slice_get l place) log ∙ at_back old.log (call_events (g.0 + 1) old.tickets (want_of ran.entry.call) ran.entries) place 2 ran.released;
      alone = ran.alone;
      found = ap (λ (l : List Event). entry_of (i + 1) (entries_of l)) log ∙ found_now runs lanes (g.0 + 1) i old.log old.tickets ran.entries ran.entry ran.alone ran.from_is none;
    }
own_answer runs lanes i line old new (Fault fault) none g = (g.0, ap (λ (l : List Event). entry_of (i + 1) (entries_of l)) (ap (λ (v : HomeView). v.log) g.1) ∙ none)
own_answer runs lanes i line old new (NotBuilt call) none g = (g.0, g.1, g.2, ap (λ (l : List Event). entry_of (i + 1) (entries_of l)) (ap (λ (v : HomeView). v.log) g.3) ∙ none)
own_answer runs lanes i line old new Refused none g = (g.0, g.1, g.2, g.3, ap (λ (l : List Event). entry_of (i + 1) (entries_of l)) (ap (λ (v : HomeView). v.log) g.4) ∙ none)

one_answer : (answer a : Answer) (j : ℕ) → slice_get (answer ∷ []) j ≡ Some a → (j ≡ 0) × (answer ≡ a)
one_answer answer a zero h = (refl, cc)
one_answer answer a (suc j) h = absurd cc

same_line : (lines : List (List ℕ)) (i j : ℕ) (line l : List ℕ) → j ≡ i → slice_get lines i ≡ Some line → slice_get lines j ≡ Some l → line ≡ l
same_line lines i j line l e g h = let at : slice_get lines i ≡ Some l = subst (λ (x : ℕ). slice_get lines x ≡ Some l) e h in let both : Some line ≡ Some l = sym g ∙ at in cc

pub answer_more : (runs : Call → Bool) (lanes : ℕ) (lines : List (List ℕ)) (began : HomeView) (i : ℕ) (line : List ℕ) (old new : HomeView) (answer : Answer) (answers : List Answer) → IsGoing runs lanes lines began i old → slice_get lines i ≡ Some line → Answered runs lanes (i + 1) line old new answer
    → length answers ≡ i → AreAnswers runs lanes lines old.log answers → AreAnswers runs lanes lines new.log (answers ++ answer ∷ [])
answer_more runs lanes lines began i line old new answer answers h at g len all j l a lj aj = cases (at_append answers (answer ∷ []) j a aj)
  where
    cases : (slice_get answers j ≡ Some a) ⊎ ((k : ℕ) × (j ≡ length answers + k) × (slice_get (answer ∷ []) k ≡ Some a)) → IsAnswer runs lanes (j + 1) l new.log a
    cases (inl old_at) =
        let within = slice_get_within answers j a old_at in
        keeps_one runs lanes i (j + 1) line l old new answer a g (omega (arith, within, len)) (all j l a lj old_at)
    cases (inr o) =
        let last = one_answer answer a o.0 o.2 in
        let here : j ≡ i = omega (arith, o.1, len, last.0) in
        let own = own_answer runs lanes i line old new answer (none_yet runs lanes lines began i (i + 1) old h (omega arith)) g in
        let number : i + 1 ≡ j + 1 = omega (arith, here) in
        subst (λ (n : ℕ). IsAnswer runs lanes n l new.log a) number
        (subst (λ (x : Answer). IsAnswer runs lanes (i + 1) l new.log x) last.1
        (subst (λ (x : List ℕ). IsAnswer runs lanes (i + 1) x new.log answer) (same_line lines i j line l here at lj) own))

-- one line more, whatever became of it
pub going_next : {E : Type 0} (runs : Call → Bool) (lanes : ℕ) (lines : List (List ℕ)) (began : HomeView) (i : ℕ) (line : List ℕ) (old new : HomeView) (answer : Result Answer E) → IsGoing runs lanes lines began i old → slice_get lines i ≡ Some line
    → IfOk answer (λ (a : Answer). Answered runs lanes (i + 1) line old new a) → OnErr answer (new ≡ old) → IsGoing runs lanes lines began (i + 1) new
going_next runs lanes lines began i line old new (Ok a) h at ok err = going_more runs lanes lines began i line old new a h at ok
going_next runs lanes lines began i line old new (Err e) h at ok err = going_skip runs lanes lines began i old new h err

pub answers_next : {E : Type 0} (runs : Call → Bool) (lanes : ℕ) (lines : List (List ℕ)) (began : HomeView) (i : ℕ) (line : List ℕ) (old new : HomeView) (answer : Result Answer E) (answers more : List Answer) → IsGoing runs lanes lines began i old → slice_get lines i ≡ Some line
    → IfOk answer (λ (a : Answer). Answered runs lanes (i + 1) line old new a) → IsOk answer → IfOk answer (λ (a : Answer). more ≡ answers ++ a ∷ []) → length answers ≡ i → AreAnswers runs lanes lines old.log answers
    → AreAnswers runs lanes lines new.log more × (length more ≡ i + 1)
answers_next runs lanes lines began i line old new (Ok a) answers more h at ok is put len all = (
  subst (λ (l : List Answer). AreAnswers runs lanes lines new.log l) (sym put) (answer_more runs lanes lines began i line old new a answers h at ok len all),
  (let size : length more ≡ length (answers ++ a ∷ []) = ap length put in let both = length-append answers (a ∷ []) in omega (arith, size, both, len)),
)
answers_next runs lanes lines began i line old new (Err e) answers more h at ok is put len all = absurd cc

none_at : (i : ℕ) (answer : Answer) → slice_get [] i ≡ Some answer → ⊥
none_at i answer h = absurd cc

pub no_answers : (runs : Call → Bool) (lanes : ℕ) (lines : List (List ℕ)) (log : List Event) (answers : List Answer) → answers ≡ [] → AreAnswers runs lanes lines log answers
no_answers runs lanes lines log answers none i line answer at there = absurd (none_at i answer (subst (λ (l : List Answer). slice_get l i ≡ Some answer) none there))
