use Rattle.std.proofs.Common.{List, sym, subst}
use Rattle.st_units.specs.declared.rows.DevRow.{DevRow}
use Rattle.st_model.specs.Sums.{AreSmall}
use Rattle.st_told.proofs.Small.{small_rows}
use Rattle.st_told.proofs.telling.told.Goals as goal

pub cold_cache-requires : goal.cold_cache-requires
cold_cache-requires c = subst (λ (rows : List DevRow). AreSmall rows) (sym c.items.ensures) (small_rows c.args.books.now.rec c.requires.valid)
