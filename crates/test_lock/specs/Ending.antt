-- what a seat has left to end
use Rattle.std.specs.Prelude.{ℕ, ◌≡◌, map, option_map, IfSome}
use Rattle.std.specs.List.{AllByRecursion}
use Rattle.atomic_table.specs.Seated.{TableId}
use Rattle.st_model.specs.declared.state.PoolState.{PoolState}
use Rattle.st_model.specs.declared.state.TableState.{TableState}
use Rattle.st_book.specs.View.{TableView}
use Rattle.st_lock.specs.Held.{faults_in}
use Rattle.st_lock.specs.Seats.{LockSeat}
use Rattle.test_lock.specs.declared.ending.Work.{Work}
use Rattle.test_lock.specs.declared.ending.Work.TheVariants.{Held, Asked, Done}
use Rattle.test_lock.specs.Refusing.{Awaits, Holds}

abbrev pub viewed_by : {T : Type 0} → (T → TableState) → (T → ℕ) → T → TableView
viewed_by stands slack t = record { state = stands t; slack = slack t }

-- The seat may end it: it holds what it is to give back, or its ticket waits.
abbrev pub MayEnd : {C T I J : Type 0} (state : C → PoolState) (stands : T → TableState) (slack : T → ℕ) (cell_faults : C → ℕ) (table_faults : T → ℕ) (cell_kept : C → Type 0) (table_kept : T → Type 0) → LockSeat → Work C T I J → Type 0
MayEnd state stands slack cell_faults table_faults cell_kept table_kept v (Held r) =
    Holds v r.guard.ticket r.job.call (map state r.guard.part.cells.items) (option_map (viewed_by stands slack) r.guard.part.table) (faults_in table_faults cell_faults r.guard.part.table r.guard.part.cells.items)
    × AllByRecursion cell_kept r.guard.part.cells.items × IfSome r.guard.part.table table_kept
MayEnd state stands slack cell_faults table_faults cell_kept table_kept v (Asked w) = Awaits v w.ticket.number w.job.call
MayEnd state stands slack cell_faults table_faults cell_kept table_kept v Done = Unit {0}

-- a seat of this lock, which may end what it has left
pub record IsReady {C T I J : Type 0} (state : C → PoolState) (stands : T → TableState) (slack : T → ℕ) (cell_faults : C → ℕ) (table_faults : T → ℕ) (cell_kept : C → Type 0) (table_kept : T → Type 0) (turn : TableId) (v : LockSeat) (work : Work C T I J) : Type 0 where
  pub here : v.turn ≡ turn
  pub may : MayEnd state stands slack cell_faults table_faults cell_kept table_kept v work

-- a seat of this lock, which has nothing left
pub record IsEnded {C T I J : Type 0} (turn : TableId) (v : LockSeat) (work : Work C T I J) : Type 0 where
  pub here : v.turn ≡ turn
  pub done : work ≡ Done
