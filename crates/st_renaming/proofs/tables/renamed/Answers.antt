use Rattle.st_table.specs.Table.{renamed}
use Rattle.st_renaming.proofs.Tabled.{put_shown}
use Rattle.st_renaming.proofs.tables.renamed.Goals as goal

pub returns : goal.returns
returns c =
    put_shown renamed c.args.table.now c.in_ok-other.other c.rename.new.self c.args.name.now c.in_ok-given.given c.args.new.now c.shown.result
    c.in_ok-other.ensures c.in_ok-given.ensures c.rename.ensures c.shown.ensures
