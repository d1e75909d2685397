-- A seat may go to another thread and the lock be shared, where cells and table may go, and their infos may go and be
-- shared. A search does not find it by itself: a book holds a snapshot, of which no proof is made ahead.
use denote.RattleType.{RattleType}
use denote.Param.Send.{IsSend, IsSync, view_send, recorded_send, struct_send, view_sync, recorded_sync, struct_sync, sendable}
use denote.Struct.Declared.{shape}
use Rattle.std.specs.contracts.vec.Vec as vec_row
use Rattle.std.specs.contracts.alloc.Global as global_row
use Rattle.std.specs.contracts.impls.GlobalAllocator.TheImpl as global_impl
use Rattle.std.proofs.vec.Vec.TheSendSync as vec
use Rattle.std.proofs.alloc.Global.TheSendSync as heap
use Rattle.std.proofs.Crossing.{frees}
use Rattle.std.proofs.CrossingOver.{crosses}
use Rattle.st_units.proofs.room.RoomyList.TheSendSync as roomy
use Rattle.st_units.proofs.shared.Shared.TheSendSync as shared
use Rattle.st_model.specs.declared.meaning.Cell as cell
use Rattle.st_model.specs.declared.meaning.Named as named
use Rattle.st_model.specs.declared.meaning.Board as board
use Rattle.st_grants.proofs.grants.Grants.TheSendSync as grants
use Rattle.st_history.proofs.log.Event.TheSendSync as event
use Rattle.st_book.specs.contracts.lent.Lent as lent_row
use Rattle.st_book.specs.contracts.noted.Noted as noted_row
use Rattle.st_book.specs.contracts.book.Book as book
use Rattle.st_book.specs.contracts.book.Book.TheInside as book_inside
use Rattle.st_book.proofs.lent.Lent.TheSendSync as lent
use Rattle.st_book.proofs.lists.Lists.TheSendSync as lists
use Rattle.st_turn.proofs.seat.SeatOf.TheSendSync as turn_seat
use Rattle.st_turn.proofs.turn.Turn.TheSendSync as turn
use Rattle.st_lock.specs.contracts.desk.Desk as desk
use Rattle.st_lock.specs.contracts.desk.Opening as opening_row
use Rattle.st_lock.specs.contracts.seat.Seat as seat
use Rattle.st_lock.specs.contracts.seat.Seat.TheInside as seat_inside
use Rattle.st_lock.specs.contracts.lock.AllOrSome as lock
use Rattle.st_lock.specs.contracts.lock.AllOrSome.TheInside as lock_inside
use Rattle.st_lock.proofs.bell.Bell.TheSendSync as bell

lent_list : IsSend (vec_row.the_row lent_row.the_row global_row.the_row global_impl.ghosts)
lent_list = vec.the_send lent_row.the_row global_row.the_row global_impl.ghosts lent.the_send heap.the_send frees

module _ (C T I J : RattleType) (g : cell.Ghosts C.Denot I.Denot) (g' : named.Ghosts C.Denot) (g'' : named.Ghosts I.Denot) (g3 : board.Ghosts T.Denot J.Denot) (c : IsSend C) (t : IsSend T) (i : IsSend I) (i' : IsSync I) (j : IsSend J) (j' : IsSync J) where
  pub book_send : IsSend (book.the_row C T I J g g' g'' g3)
  book_send = view_send (book_inside.the_row C T I J g g' g'' g3) _ _ _ _ (
      recorded_send (book_inside.the_field C T I J g g' g'' g3).row _ _ (book_inside.the_type C T I J g g' g'' g3).to_one (
      struct_send (shape (book_inside.the_type C T I J g g' g'' g3)) (
        grants.the_send,
        (
          roomy.the_send _ event.the_send,
          (
            roomy.the_send _ c,
            (
              roomy.the_send _ (shared.the_send _ i i'),
              (
                roomy.the_send _ (shared.the_send _ i i'),
                (
                  search sendable,
                  (
                    shared.the_send _ j j',
                    (
                      search (sendable, roomy.the_send, lists.the_send),
                      (
                        lent_list,
                        (search crosses, tt),
                      ),
                    ),
                  ),
                ),
              ),
            ),
          ),
        ),
      ))
      )

  pub desk_send : IsSend (desk.the_row C T I J g g' g'' g3)
  desk_send = recorded_send (desk.the_field C T I J g g' g'' g3).row _ _ (desk.the_type C T I J g g' g'' g3).to_one (
      struct_send (shape (desk.the_type C T I J g g' g'' g3)) (book_send, tt))

  pub seat_send : IsSend (seat.the_row C T I J g g' g'' g3)
  seat_send = view_send (seat_inside.the_row C T I J g g' g'' g3) _ _ _ _ (
      recorded_send (seat_inside.the_field C T I J g g' g'' g3).row _ _ (seat_inside.the_type C T I J g g' g'' g3).to_one (
      struct_send (shape (seat_inside.the_type C T I J g g' g'' g3)) (
        turn_seat.the_send (desk.the_row C T I J g g' g'' g3) noted_row.the_row opening_row.the_row desk_send,
        tt,
      )))

  pub lock_sync : IsSync (lock.the_row C T I J g g' g'' g3)
  lock_sync = view_sync (lock_inside.the_row C T I J g g' g'' g3) _ _ _ _ (
      recorded_sync (lock_inside.the_field C T I J g g' g'' g3).row _ _ (lock_inside.the_type C T I J g g' g'' g3).to_one (
      struct_sync (shape (lock_inside.the_type C T I J g g' g'' g3)) (
        search (turn.the_sync, desk_send),
        (bell.the_field_sync, tt),
      )))
