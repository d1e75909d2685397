use Rattle.st_making.proofs.Made.{new_stood}
use Rattle.st_making.proofs.laws.new_books_stand.Goals as goal

pub returns : goal.returns
returns x = λ b m new. new_stood b m new
