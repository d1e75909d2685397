use contract.BorrowLft.{⊑_meet, ⊑_static}
use Rattle.st_lock.proofs.seat.opened_by.Goals as goal

-- the reference lives no longer than what the seat is made of
pub new-requires : goal.new-requires
new-requires g c κs within = let b = within.1.0 in let e = within.1.1.0 in let o = within.1.1.1 in (search (⊑_meet, ⊑_static), (search (⊑_meet, ⊑_static, b, e, o) depth 200 fits 1000000, search (⊑_meet, ⊑_static)))
