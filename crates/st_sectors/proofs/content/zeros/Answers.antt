use Rattle.std.proofs.Common.{◌∙◌}
use Rattle.st_limits.specs.declared.TheConstants.{BLOCK_BYTES}
use Rattle.st_sectors.proofs.Blocks.{all_alike}
use Rattle.st_sectors.proofs.content.zeros.Goals as goal

pub returns : goal.returns
returns c =
    c.of.ensures
    ∙ all_alike c.resize.new.self.items c.in_ok-zeros.zeros.items BLOCK_BYTES c.in_ok-zeros.zeros.len 0 c.in_ok-zeros.ensures.items c.in_ok-zeros.ensures.len c.in_ok-resize.ensures.items
