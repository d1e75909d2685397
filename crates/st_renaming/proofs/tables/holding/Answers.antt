use Rattle.st_table.specs.Table.{holding}
use Rattle.st_renaming.proofs.Tabled.{put_shown}
use Rattle.st_renaming.proofs.tables.holding.Goals as goal

pub returns : goal.returns
returns c =
    put_shown holding c.args.table.now c.in_ok-other.other c.hold.new.self c.args.name.now c.in_ok-given.given c.args.new.now c.shown.result
    c.in_ok-other.ensures c.in_ok-given.ensures c.hold.ensures c.shown.ensures
