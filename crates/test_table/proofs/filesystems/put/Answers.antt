use Rattle.test_table.proofs.Three.{now_raised}
use Rattle.test_table.proofs.filesystems.put.Goals as goal

pub returns : goal.returns
returns c = now_raised c.args.table.now c.insert.new.self c.args.row c.in_ok-insert.ensures.ok c.requires.serial
