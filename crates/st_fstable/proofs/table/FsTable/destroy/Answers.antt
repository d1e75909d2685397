use Rattle.std.proofs.Common.{ap, sym, ◌∙◌, map}
use Rattle.st_fstable.specs.Rows.{passed_on, passed_by, without}
use Rattle.st_fstable.proofs.ByName.{indexed_kept, passed_serial, passed_name, none_passed}
use Rattle.st_fstable.proofs.table.FsTable.destroy.Goals as goal

pub invariant_of-self : goal.invariant_of-self
invariant_of-self c =
    rw c.pass_on.ensures (indexed_kept (passed_on c.in-Some.gone) (passed_serial c.in-Some.gone) (passed_name c.in-Some.gone) c.self.inside.rows.items c.self.inside.names.items c.self.invariant)

pub returns-in-None-clause-rest : goal.returns-in-None-clause-rest
returns-in-None-clause-rest c =
    c.in-None.ensures.rest ∙ sym (ap (λ o. map (passed_by o) (without c.args.serial c.args.self.now)) (sym c.in-None.ensures.row) ∙ none_passed (without c.args.serial c.args.self.now))
