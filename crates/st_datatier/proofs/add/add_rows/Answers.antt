use Rattle.std.proofs.Common.{sym, subst, ap, ◌∙◌, arith}
use Rattle.std.specs.List.{All}
use Rattle.std.proofs.lemmas.List.Elements.{All-push}
use Rattle.st_limits.specs.Sums.{IsDeviceSize}
use Rattle.st_datatier.specs.Tier.{data_blocks}
use Rattle.st_datatier.proofs.Growing.{few_left, row_size, one_more_row}
use Rattle.st_datatier.proofs.add.add_rows.Goals as goal

pub add_device-requires-clause-few : goal.add_device-requires-clause-few
add_device-requires-clause-few c = few_left c.args.sectors.now.items _ c.args.rows.now c.loop-row.row-index (omega arith) c.requires.few c.loop-row.invariant.sectors

pub add_device-requires-clause-sizes : goal.add_device-requires-clause-sizes
add_device-requires-clause-sizes c = c.loop-row.invariant.sizes

pub add_device-requires-clause-size : goal.add_device-requires-clause-size
add_device-requires-clause-size c = row_size c.args.rows.now c.loop-row.row-index c.row-item.result (omega arith) c.row-item.is c.requires.more_sizes

pub add_device-requires-clause-blocks : goal.add_device-requires-clause-blocks
add_device-requires-clause-blocks c = c.loop-row.invariant.blocks

pub loop-row-preserved : goal.loop-row-preserved
loop-row-preserved c =
    let i = c.loop-row.invariant in
    let size = row_size c.args.rows.now c.loop-row.row-index c.row-item.result (omega arith) c.row-item.is c.requires.more_sizes in
    record {
      sectors = c.in_ok-add_device.ensures.sectors ∙ one_more_row c.args.sectors.now.items _ c.args.rows.now c.loop-row.row-index c.row-item.result (omega arith) c.row-item.is i.sectors;
      sizes = subst (All IsDeviceSize) (sym c.in_ok-add_device.ensures.sectors) (All-push IsDeviceSize c.loop-row.sectors.items c.row-item.result.sectors i.sizes size);
      blocks = c.in_ok-add_device.ensures.blocks ∙ ap data_blocks (sym c.in_ok-add_device.ensures.sectors);
      taken = c.in_ok-add_device.ensures.taken ∙ i.taken;
    }
