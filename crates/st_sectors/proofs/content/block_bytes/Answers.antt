use Rattle.std.proofs.Common.{rules, ◌≡◌, nat_eq, Some, None, ◌∙◌}
use Rattle.std.specs.Map.{lookup}
use Rattle.st_model.specs.Content.{cell_at}
use Rattle.st_sectors.proofs.Blocks.{if_ok, lost, unmapped}
use Rattle.st_sectors.proofs.content.block_bytes.Goals as goal

pub returns-in_default : goal.returns-in_default
returns-in_default c =
    let none : cell_at c.args.block c.args.fs.now.map ≡ None = search rules in
    if_ok c.zeros.result _ _ c.zeros.ensures (λ bytes e. e ∙ unmapped c.args.pool.now c.args.fs.now c.args.block none)

pub returns-in-None : goal.returns-in-None
returns-in-None c =
    let cell = c.in-Some.cell.now in
    let at : cell_at c.args.block c.args.fs.now.map ≡ Some cell = search rules in
    let none : lookup (nat_eq cell) c.args.pool.now.cells ≡ None = search rules in
    if_ok c.zeros-in-None.result _ _ c.zeros-in-None.ensures (λ bytes e. e ∙ lost c.args.pool.now c.args.fs.now c.args.block cell at none)
