use Rattle.std.proofs.Common.{◌≡◌, ap, sym, ◌∙◌, subst, map, List}
use Rattle.st_units.specs.declared.rows.DevRow.{DevRow}
use Rattle.st_table.specs.declared.device.Device.{Device}
use Rattle.st_table.specs.declared.pool.Pool.{Pool}
use Rattle.st_order.specs.Sorted.{IsRising}
use Rattle.st_table.specs.inner.Sound.{table_pool, row_in, path_in, IsSound}
use Rattle.st_order.proofs.Lists.{map-map}
use Rattle.st_table.proofs.Marks.{unmarked_sound}
use Rattle.st_table.proofs.roster.Roster.make.Goals as goal

rises : (ds : List Device) (rows : List DevRow) → map row_in ds ≡ rows → IsRising (map (λ (row : DevRow). row.path) rows) → IsRising (map path_in ds)
rises ds rows e h = subst IsRising (ap (map (λ (row : DevRow). row.path)) (sym e) ∙ map-map (λ (row : DevRow). row.path) row_in ds) h

pub invariant_of-result : goal.invariant_of-result
invariant_of-result c =
    let ds = c.in_ok-unused.field-0.items in
    subst (λ (ps : List Pool). IsSound ds (map table_pool ps)) (sym c.new.ensures.items) (unmarked_sound ds (rises ds c.args.rows.now c.in_ok-unused.ensures.rows c.requires) c.in_ok-unused.ensures.unused)
