use Rattle.st_begin.proofs.Beginning.{tells}
use Rattle.st_begin.proofs.boarded.prepare.Goals as goal

pub table_for-requires : goal.table_for-requires
table_for-requires g c =
    let r = c.args.rack.now in let R = g.R.Rack in
    (c.requires.0, tells (R.devs r) (R.state_at r (R.moment r)) c.args.found.now c.requires.0 c.requires.1 c.in_ok-rows.rows c.in_ok-rows.ensures)

pub returns-in-Ok-clause-table : goal.returns-in-Ok-clause-table
returns-in-Ok-clause-table g c e rest =
    let r = c.args.rack.now in let R = g.R.Rack in
    c.in_ok-table.ensures.stands e (tells (R.devs r) (R.state_at r (R.moment r)) c.args.found.now e rest c.in_ok-rows.rows c.in_ok-rows.ensures)
