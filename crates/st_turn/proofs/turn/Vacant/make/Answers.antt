use Rattle.st_turn.proofs.Ends.{first_kept}
use Rattle.st_turn.proofs.turn.Vacant.make.Goals as goal

pub vacant-requires : goal.vacant-requires
vacant-requires g c = let b = g.B.Logged in first_kept b.by b.events b.opens b.fits
