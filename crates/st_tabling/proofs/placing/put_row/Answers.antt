use Rattle.std.proofs.Common.{◌≡◌, sym, ◌∙◌, ap, subst, List}
use Rattle.std.specs.List.{AllByRecursion}
use Rattle.st_model.specs.Parts.{table_of}
use Rattle.st_table.specs.Stands.{Stands}
use Rattle.st_table.specs.Table.{IsFree, TablePool, TableView, has_serial, is_taken, knows, pool_named, without}
use Rattle.st_tabling.specs.Telling.{MayPlace, with_last}
use Rattle.st_tabling.proofs.Course.{free_then, known_then, stands_then}
use Rattle.st_tabling.proofs.Last.{name_free, serial_free}
use Rattle.st_tabling.proofs.placing.put_row.Goals as goal

pub add-requires-clause-name : goal.add-requires-clause-name
add-requires-clause-name c =
    let may = c.requires in let law = c.tells_as_the_model.ensures in let row = c.args.row.now in
    subst (λ n. is_taken n c.prepare.new.self.pools ≡ Rattle.std.proofs.Common.false) (ap (λ r. r.name) (sym may.2.told) ∙ sym c.in_ok-name.ensures)
    (ap (λ (v : TableView). is_taken may.1.name v.pools) c.in_ok-prepare.ensures.ok ∙ name_free law may.0 may.1 row c.args.table.now may.2)

pub add-requires-clause-serial : goal.add-requires-clause-serial
add-requires-clause-serial c =
    let may = c.requires in let law = c.tells_as_the_model.ensures in let row = c.args.row.now in
    subst (λ n. has_serial n c.prepare.new.self.pools ≡ Rattle.std.proofs.Common.false) (ap (λ r. r.serial) (sym may.2.told))
    (ap (λ (v : TableView). has_serial may.1.serial v.pools) c.in_ok-prepare.ensures.ok ∙ serial_free law may.0 may.1 row c.args.table.now may.2)

pub halt-requires-clause-known : goal.halt-requires-clause-known
halt-requires-clause-known c =
    let may = c.requires in
    known_then c.tells_as_the_model.ensures may.0 may.1 c.args.row.now c.args.table.now may.2 c.in_ok-name.name c.make.result c.in_ok-name.ensures c.make.ensures c.prepare.new.self c.add.new.self c.prepare-2.new.self
    c.in_ok-prepare.ensures.ok c.add.ensures c.in_ok-prepare-2.ensures.ok

pub halt-requires-clause-free : goal.halt-requires-clause-free
halt-requires-clause-free c =
    let may = c.requires in
    free_then c.tells_as_the_model.ensures may.0 may.1 c.args.row.now c.args.table.now may.2 c.in_ok-name.name c.make.result c.in_ok-name.ensures c.make.ensures c.prepare.new.self c.add.new.self c.prepare-2.new.self
    c.in_ok-prepare.ensures.ok c.add.ensures c.in_ok-prepare-2.ensures.ok c.in_ok-info.info c.in_ok-info.ensures

pub returns : goal.returns
returns c s q may =
    stands_then c.tells_as_the_model.ensures s q c.args.row.now c.args.table.now may c.in_ok-name.name c.make.result c.in_ok-name.ensures c.make.ensures c.prepare.new.self c.add.new.self c.prepare-2.new.self
    c.in_ok-prepare.ensures.ok c.add.ensures c.in_ok-prepare-2.ensures.ok c.changes_as_the_model.ensures.placed c.halt.new.self c.in_ok-info.info c.in_ok-info.ensures c.halt.ensures
