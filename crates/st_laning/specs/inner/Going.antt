-- what holds while lines run, one after the other, each by its lane's seat
use Rattle.std.specs.Prelude.{ℕ, ◌≡◌, ◌+◌, ◌*◌, ◌<◌, ◌≤◌, List, length, Bool, true, Some, slice_get}
use Rattle.std.specs.List.{AllByRecursion}
use Rattle.st_wants.specs.declared.want.Want.{Want}
use Rattle.st_model.specs.declared.call.Call.{Call}
use Rattle.st_model.specs.declared.entry.Entry.{Entry}
use Rattle.st_model.specs.declared.entry.Origin.TheVariants.{Line}
use Rattle.st_history.specs.declared.log.Event.{Event}
use Rattle.st_history.specs.declared.log.Event.TheVariants.{Arrive}
use Rattle.st_alone.specs.Alone.{HomeView}
use Rattle.st_laning.specs.Entries.{entries_of, count_from, StandsAt}
use Rattle.st_laning.specs.LaneOrder.{IsLineCall, IsOfLine}

-- an entry of a line up to i, by its lane's seat and with a ticket below k
pub record IsKnown (lanes : ℕ) (lines : List (List ℕ)) (i k seat ticket : ℕ) (e : Entry) : Type 0 where
  pub n : ℕ
  pub from : e.from ≡ Line n
  pub low : n ≤ i
  pub below : ticket < k
  pub lane : ℕ
  pub seat_is : seat ≡ lane + 1
  pub call : IsLineCall lanes lines n lane e.call

-- what holds of the log after i lines, of which k were run
pub record IsLaned (lanes : ℕ) (lines : List (List ℕ)) (i k : ℕ) (log : List Event) : Type 0 where
  pub known : (place seat ticket : ℕ) (e : Entry) → StandsAt log place seat ticket e → IsKnown lanes lines i k seat ticket e
  pub arrivals : (place seat ticket : ℕ) (want : Want) → slice_get log place ≡ Some (Arrive seat ticket want) → ticket < k
  pub later : (m : ℕ) → i < m → count_from m (entries_of log) ≡ 0
  pub once : (m : ℕ) → count_from m (entries_of log) ≤ 1
  pub order : (a b p s u t v m n c d : ℕ) (e f : Entry) (want : Want) → IsOfLine lanes lines log a s t m c e → IsOfLine lanes lines log b u v n d f → m < n → slice_get log p ≡ Some (Arrive u v want) → a < p

-- what holds after i lines of the book that began so; `runs` are the calls that are run
pub record IsGoing (runs : Call → Bool) (lanes : ℕ) (lines : List (List ℕ)) (began : HomeView) (i : ℕ) (home : HomeView) : Type 0 where
  pub opening : home.opening ≡ began.opening
  pub base : home.base ≡ began.base
  pub short : length home.log ≤ 3 * i
  pub built : AllByRecursion (λ (e : Entry). runs e.call ≡ true) (entries_of home.log)
  pub laned : IsLaned lanes lines i home.tickets home.log
