-- A book between two calls, and in one.
use Rattle.std.specs.Prelude.{ℕ, ◌≡◌, ◌≤◌, List, [], ◌∷◌, ◌++◌, Option}
use Rattle.st_units.specs.Roomy.{Roomy}
use Rattle.st_wants.specs.declared.want.Want.{Want}
use Rattle.st_wants.specs.Lock.{arrived, granted}
use Rattle.st_history.specs.declared.log.Event.{Event}
use Rattle.st_history.specs.declared.log.Event.TheVariants.{Arrive, Grant}
use Rattle.st_history.specs.History.{IsNotPrepare, IsShort, idle, replay}
use Rattle.st_model.specs.declared.call.Call.{Call}
use Rattle.st_model.specs.declared.entry.Entry.{Entry}
use Rattle.st_model.specs.declared.state.EngineState.{EngineState}
use Rattle.st_model.specs.declared.state.PoolState.{PoolState}
use Rattle.st_model.specs.Step.{IsLicensed, step}
use Rattle.st_model.specs.Valid.{IsValid}
use Rattle.st_model.specs.Wanted.{want_of}
use Rattle.st_book.specs.Stands.{PartStands, Stands}
use Rattle.st_book.specs.View.{BookView, TableView}

-- what contracts see of a book between two calls: the state that it began with, the slack of its table then, its log, and how many
-- tickets were drawn, each of which was released
pub record HomeView : Type 0 where
  pub opening : EngineState
  pub base : ℕ
  pub log : List Event
  pub tickets : ℕ

-- the state after all that ran
abbrev pub state_at : HomeView → EngineState
state_at v = replay v.opening v.log

-- The book stands for its log from the opening state on, the state after it is valid, and no ticket is out.
pub record IsHome (s0 : EngineState) (base : ℕ) (b : BookView) : Type 0 where
  pub stands : Stands s0 base b
  pub valid : IsValid (replay s0 b.log)
  pub quiet : b.lock ≡ idle b.lock.next

-- what contracts see of it in a call: besides, the call's seat, its ticket, and what it wants
pub record OutView : Type 0 where
  pub opening : EngineState
  pub base : ℕ
  pub log : List Event
  pub seat : ℕ
  pub ticket : ℕ
  pub want : Want
  -- with how many faults the call's part went out
  pub faults : ℕ

-- the state in which the call runs
abbrev pub state_in : OutView → EngineState
state_in v = replay v.opening v.log

-- The book stands for its log, and this ticket, which has what it wants, is the only one that is out.
pub record IsOut (s0 : EngineState) (base seat ticket : ℕ) (want : Want) (b : BookView) : Type 0 where
  pub stands : Stands s0 base b
  pub valid : IsValid (replay s0 b.log)
  pub lock : b.lock ≡ granted ticket (arrived seat want (idle ticket))

-- The entry is its call's, as the model answers it in this state for what it met, and these pieces are what the call leaves of what it
-- wanted.
pub record IsAfter (s : EngineState) (want : Want) (e : Entry) (cells : List PoolState) (table : Option TableView) : Type 0 where
  pub wanted : want_of e.call ≡ want
  pub from : IsNotPrepare e.from
  pub long : IsShort s e.call → ⊥
  pub licensed : IsLicensed s e.call e.env
  pub replied : e.reply ≡ (step s e.call e.env).0
  pub part : PartStands want (step s e.call e.env).1 cells table

-- The book between two calls is that of a call which this seat made, with this want: it arrived, with the next ticket, and was granted.
pub record IsGranted (home : HomeView) (seat : ℕ) (want : Want) (out : OutView) : Type 0 where
  pub opening : out.opening ≡ home.opening
  pub base : out.base ≡ home.base
  pub seat_is : out.seat ≡ seat
  pub ticket : out.ticket ≡ home.tickets
  pub want_is : out.want ≡ want
  pub log : out.log ≡ home.log ++ Arrive seat home.tickets want ∷ Grant seat home.tickets ∷ []
  -- the state that the call runs in is that before it
  pub state : state_in out ≡ state_at home
  pub valid : IsValid (state_at home)

-- So it is of this call, and there is room for its entry.
pub record IsTaken (home : HomeView) (seat : ℕ) (call : Call) (out : OutView) (entries : Roomy Entry) : Type 0 where
  pub granted_is : IsGranted home seat (want_of call) out
  pub none : entries.items ≡ []
  pub room : 1 ≤ entries.room
