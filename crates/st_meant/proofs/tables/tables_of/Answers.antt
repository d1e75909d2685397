use Rattle.st_meant.proofs.Tabling.{known_so}
use Rattle.st_meant.proofs.tables.tables_of.Goals as goal

pub started-requires-clause-known : goal.started-requires-clause-known
started-requires-clause-known c = let may = c.requires.may in known_so c.args.name.now c.args.table.now.pools may.pool may.at

pub renamed-requires-clause-known : goal.renamed-requires-clause-known
renamed-requires-clause-known c = let may = c.requires.may in known_so c.args.name.now c.args.table.now.pools may.pool may.at

pub gone-requires : goal.gone-requires
gone-requires c = let may = c.requires.may in record { known = known_so c.args.name.now c.args.table.now.pools may.pool may.at }
