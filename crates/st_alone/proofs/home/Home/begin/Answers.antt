use Rattle.std.proofs.Common.{◌≡◌, ℕ, List, refl, sym, ap, ◌∙◌}
use Rattle.st_history.specs.History.{replay}
use Rattle.st_alone.proofs.Taking.{home_at}
use Rattle.st_alone.proofs.home.Home.begin.Goals as goal

pub make-requires-clause-spare : goal.make-requires-clause-spare
make-requires-clause-spare g c κs within = c.requires.spare

pub make-requires-clause-faults : goal.make-requires-clause-faults
make-requires-clause-faults g c κs within = c.requires.faults

pub make-requires-clause-kept : goal.make-requires-clause-kept
make-requires-clause-kept g c κs within = c.requires.kept

pub invariant_of-result : goal.invariant_of-result
invariant_of-result g c =
    rw (c.of-began.ensures, c.copy_of-opening.ensures) (
      home_at c.args.state.value (g.T.Board.slack c.args.table) (g.T.Board.stands c.args.table) c.in-Ok.book c.requires.valid c.requires.stands c.requires.quiet c.in-Ok.ensures.lock c.in-Ok.ensures.log c.in-Ok.ensures.stands,
      ap (replay c.args.state.value) (sym c.in-Ok.ensures.log),
    )

pub returns-in-Ok-clause-new : goal.returns-in-Ok-clause-new
returns-in-Ok-clause-new g c = rw (c.of-began.ensures, c.copy_of-opening.ensures, c.in-Ok.ensures.log, c.in-Ok.ensures.lock) refl

pub returns-in-Err-clause-back : goal.returns-in-Err-clause-back
returns-in-Err-clause-back g c = (c.in-Err.ensures.back, refl)
