use Rattle.std.proofs.Common.{◌≡◌, List, false, IfSome, sym, ap, subst, ◌∙◌}
use Rattle.st_table.specs.Table.{TablePool, TableView, is_taken, without}
use Rattle.st_stopping.proofs.tables.halted.Goals as goal

pub halt-requires-clause-new : goal.halt-requires-clause-new
halt-requires-clause-new c =
    let pools = ap (λ (v : TableView). v.pools) c.in_ok-prepare.ensures.ok ∙ ap (λ (v : TableView). v.pools) c.in_ok-other.ensures in
    subst (λ (ps : List TablePool). IfSome c.args.info.new (λ new. is_taken new (without c.args.name.now ps) ≡ false)) (sym pools) c.requires.new
