use Rattle.std.proofs.Common.{◌≡◌, ◌∙◌, ap, sym, refl, Some, find, option_map, bytes_eq, List}
use Rattle.st_model.specs.Look.{Text, is_called}
use Rattle.st_model.specs.Parts.{pool_at}
use Rattle.st_model.proofs.OnTable.{find-map}
use Rattle.st_plain.specs.Views.{CellView, pools_of}
use Rattle.st_plain.proofs.create_pool.own_pool.Goals as goal

found : (n : Text) (cells : List CellView) → pool_at n (pools_of cells) ≡ option_map (λ (v : CellView). v.pool) (find (λ (v : CellView). bytes_eq v.pool.name n) cells)
found n cells = find-map (λ (v : CellView). v.pool) (λ (v : CellView). bytes_eq v.pool.name n) (is_called n) (λ v. refl) cells

pub returns-in-Some : goal.returns-in-Some
returns-in-Some c = ap Some c.pool.ensures ∙ (ap (option_map (λ (v : CellView). v.pool)) c.in-Some.ensures ∙ sym (found c.args.name.now c.args.cells.now))

pub returns-in-None : goal.returns-in-None
returns-in-None c = ap (option_map (λ (v : CellView). v.pool)) c.in-None.ensures ∙ sym (found c.args.name.now c.args.cells.now)
