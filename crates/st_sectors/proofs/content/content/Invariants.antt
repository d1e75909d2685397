use Rattle.std.proofs.Common.{◌≡◌}
use Rattle.std.specs.List.{flat_map, range_with_len}
use Rattle.st_model.specs.Content.{sector_bytes}
use Rattle.st_sectors.proofs.content.content.Given as goal

abbrev pub invariant-loop-i : goal.invariant-loop-i
invariant-loop-i l = l.bytes ≡ flat_map (sector_bytes l.pool l.fs) (range_with_len l.sector l.i)
