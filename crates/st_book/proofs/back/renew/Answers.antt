use Rattle.std.proofs.Common.{◌≡◌, Some, map, sym, subst, ◌∙◌}
use Rattle.st_model.specs.Shown.{pool_info}
use Rattle.st_model.specs.Pieces.{info_at}
use Rattle.st_book.proofs.Finds.{same_in, pool_info_name}
use Rattle.st_book.proofs.back.renew.Goals as goal

pub returns-in_default-clause-infos : goal.returns-in_default-clause-infos
returns-in_default-clause-infos g c = λ h.
    let own = g.C.Cell.state c.args.cell.now in
    let infos = map g.C.Cell.shows c.args.infos.now.items in
    let name : g.C.Named.named c.args.cell.now ≡ (pool_info own).name = g.met.C.Cell.name_is c.args.cell.now ∙ sym (pool_info_name own) in
    sym (same_in (pool_info own) infos (subst (λ z. info_at z infos ≡ Some (pool_info own)) name (h c.in_default.ensures.none)))
