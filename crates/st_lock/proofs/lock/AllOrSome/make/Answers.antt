use Rattle.std.proofs.Common.{sym, subst}
use Rattle.st_lock.specs.Opening.{Fits, opening_of, state_of}
use Rattle.st_lock.proofs.lock.AllOrSome.make.Goals as goal

pub fill-turn-requires-clause-fits : goal.fill-turn-requires-clause-fits
fill-turn-requires-clause-fits g c =
    subst (λ o. Fits (opening_of o) c.in-Ok-make.book) (sym c.in-Ok-make.ensures.table) (record {
      valid = c.requires.opens.valid;
      stands = c.in-Ok-make.ensures.stands (state_of (g.T.Board.stands c.args.table)) c.requires.opens.table c.requires.opens.none;
    })
