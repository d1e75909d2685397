use Rattle.std.proofs.Common.{sym}
use Rattle.st_waking.proofs.Readying.{found_so, none_so}
use Rattle.st_waking.proofs.ready.place_of.Goals as goal

pub returns-clause-some : goal.returns-clause-some
returns-clause-some g c = found_so c.args.name.now c.args.table.now.pools c.args.halted.now c.place_in.result (sym c.place_in.ensures)

pub returns-clause-none : goal.returns-clause-none
returns-clause-none g c = none_so c.args.name.now c.args.table.now.pools c.args.halted.now c.place_in.result (sym c.place_in.ensures)
