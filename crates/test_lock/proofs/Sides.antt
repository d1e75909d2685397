-- a side may go to another thread, where cells and table may, and their infos may go and be shared
use Rattle.std.proofs.Common.{ℕ, ◌≡◌, List, [], ◌++◌, length, take, drop, arith}
use Rattle.std.specs.List.{All}
use Rattle.std.proofs.lemmas.List.{drop_all}
use Rattle.std.proofs.lemmas.List.Elements.{All-append, All-nil, All-same, All-take}
use denote.RattleType.{RattleType}
use denote.Param.Send.{IsSend, IsSync, recorded_send, struct_send, sendable}
use denote.Struct.Declared.{shape}
use Rattle.st_model.specs.declared.meaning.Cell as cell
use Rattle.st_model.specs.declared.meaning.Named as named
use Rattle.st_model.specs.declared.meaning.Board as board
use Rattle.st_lock.proofs.Sent.{seat_send}
use Rattle.test_lock.specs.contracts.ending.Side as side
use Rattle.test_lock.proofs.ending.Work.TheSendSync as work

module _ (C T I J : RattleType) (g : cell.Ghosts C.Denot I.Denot) (g' : named.Ghosts C.Denot) (g'' : named.Ghosts I.Denot) (g3 : board.Ghosts T.Denot J.Denot) (c : IsSend C) (t : IsSend T) (i : IsSend I) (i' : IsSync I) (j : IsSend J) (j' : IsSync J) where
  pub side_send : IsSend (side.the_row C T I J g g' g'' g3)
  side_send = recorded_send (side.the_field C T I J g g' g'' g3).row _ _ (side.the_type C T I J g g' g'' g3).to_one (
      struct_send (shape (side.the_type C T I J g g' g'' g3)) (
        seat_send C T I J g g' g'' g3 c t i i' j j',
        (search (sendable, work.the_field_send), tt),
      ))

-- what holds of a slice that was lent holds of the list that has it back
pub all_back : {X : Type 0} (P : X → Type 0) (n : ℕ) (new old : List X) → length new ≡ length old → All P new → All P (take n (new ++ drop (length new) old))
all_back P n new old same h = All-take P n (new ++ drop (length new) old) (All-append P new (drop (length new) old) h (All-same P (drop (length new) old) [] (drop_all (length new) old (omega (arith, same))) (All-nil P)))
