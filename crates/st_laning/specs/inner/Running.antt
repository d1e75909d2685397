-- what a run of lines has made of its book and its answers; `runs` are the calls that it runs
use Rattle.std.specs.Prelude.{ℕ, ◌≡◌, ◌+◌, List, [], ◌∷◌, ◌++◌, length, Bool, false, true, Some, None, Ok, Err, slice_get}
use Rattle.st_units.specs.Roomy.{Roomy}
use Rattle.st_model.specs.declared.call.Call.{Call}
use Rattle.st_model.specs.declared.entry.Entry.{Entry}
use Rattle.st_model.specs.declared.entry.Origin.TheVariants.{Line}
use Rattle.st_model.specs.Wanted.{want_of}
use Rattle.st_history.specs.declared.log.Event.{Event}
use Rattle.st_history.specs.declared.log.Event.TheVariants.{Arrive, Grant, Release}
use Rattle.st_calls.specs.Form.{form}
use Rattle.st_alone.specs.Alone.{HomeView}
use Rattle.st_laning.specs.Entries.{entries_of, entry_of}
use Rattle.st_laning.specs.declared.answers.Answer.{Answer}
use Rattle.st_laning.specs.declared.answers.Answer.TheVariants.{Ran, Fault, NotBuilt, Refused}

-- what a call that is run under its own grant leaves in the log
abbrev pub events_of : ℕ → ℕ → Roomy Entry → Call → List Event
events_of seat ticket entries call = Arrive seat ticket (want_of call) ∷ Grant seat ticket ∷ Release seat ticket entries ∷ []

-- the call of line n ran by that seat
pub record RanCall (runs : Call → Bool) (seat n : ℕ) (call : Call) (old new : HomeView) (place : ℕ) : Type 0 where
  pub entry : Entry
  pub entries : Roomy Entry
  pub alone : entries.items ≡ entry ∷ []
  pub built : runs call ≡ true
  pub call_is : entry.call ≡ call
  pub from_is : entry.from ≡ Line n
  pub opening : new.opening ≡ old.opening
  pub base : new.base ≡ old.base
  pub log : new.log ≡ old.log ++ events_of seat old.tickets entries call
  pub tickets : new.tickets ≡ old.tickets + 1
  pub released : place ≡ length old.log + 2

-- what became of line n
abbrev pub Answered : (Call → Bool) → ℕ → ℕ → List ℕ → HomeView → HomeView → Answer → Type 0
Answered runs lanes n line old new (Ran place) = (lane : ℕ) × (call : Call) × (form lanes line ≡ Ok (lane, call)) × RanCall runs (lane + 1) n call old new place
Answered runs lanes n line old new (Fault fault) = (form lanes line ≡ Err fault) × (new ≡ old)
Answered runs lanes n line old new (NotBuilt call) = (lane : ℕ) × (form lanes line ≡ Ok (lane, call)) × (runs call ≡ false) × (new ≡ old)
Answered runs lanes n line old new Refused = (lane : ℕ) × (call : Call) × (form lanes line ≡ Ok (lane, call)) × (runs call ≡ true) × (new ≡ old)

-- the release at that place holds line n's entry alone
pub record IsRelease (n : ℕ) (log : List Event) (place : ℕ) : Type 0 where
  pub seat : ℕ
  pub ticket : ℕ
  pub entries : Roomy Entry
  pub entry : Entry
  pub at : slice_get log place ≡ Some (Release seat ticket entries)
  pub alone : entries.items ≡ entry ∷ []
  pub found : entry_of n (entries_of log) ≡ Some entry

-- what the answer says of line n and the log is so
abbrev pub IsAnswer : (Call → Bool) → ℕ → ℕ → List ℕ → List Event → Answer → Type 0
IsAnswer runs lanes n line log (Ran place) = IsRelease n log place
IsAnswer runs lanes n line log (Fault fault) = (form lanes line ≡ Err fault) × (entry_of n (entries_of log) ≡ None)
IsAnswer runs lanes n line log (NotBuilt call) = (lane : ℕ) × (form lanes line ≡ Ok (lane, call)) × (runs call ≡ false) × (entry_of n (entries_of log) ≡ None)
IsAnswer runs lanes n line log Refused = (lane : ℕ) × (call : Call) × (form lanes line ≡ Ok (lane, call)) × (runs call ≡ true) × (entry_of n (entries_of log) ≡ None)

-- each line's answer is so, line n's being the answer at place n - 1
abbrev pub AreAnswers : (Call → Bool) → ℕ → List (List ℕ) → List Event → List Answer → Type 0
AreAnswers runs lanes lines log answers = (i : ℕ) (line : List ℕ) (answer : Answer) → slice_get lines i ≡ Some line → slice_get answers i ≡ Some answer → IsAnswer runs lanes (i + 1) line log answer
