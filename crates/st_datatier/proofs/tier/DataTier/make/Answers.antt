use Rattle.std.proofs.Common.{sym, ap, ◌∙◌}
use Rattle.st_seg.specs.Stock.{added}
use Rattle.st_datatier.specs.Tier.{data_blocks}
use Rattle.st_datatier.proofs.Devices.{no_blocks}
use Rattle.st_datatier.proofs.tier.DataTier.make.Goals as goal

pub add_rows-requires-clause-blocks : goal.add_rows-requires-clause-blocks
add_rows-requires-clause-blocks c = ap added c.make-free.ensures ∙ (sym no_blocks ∙ ap data_blocks (sym c.new-sectors.ensures.items))
