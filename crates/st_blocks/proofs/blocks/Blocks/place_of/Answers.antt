use Rattle.std.proofs.Common.{◌≡◌, ◌<◌, length, get_or, None, sym, ◌∙◌, arith}
use Rattle.st_blocks.proofs.Table.{in_room, any_default}
use Rattle.st_blocks.proofs.blocks.Blocks.place_of.Goals as goal

pub returns-clause-there : goal.returns-clause-there
returns-clause-there c =
    let blocks = c.args.self.now in
    let found = c.index.result.now in
    let lt : c.args.block < length blocks.places.items = omega (arith, c.requires, blocks.places.ok.0) in
    let is : get_or blocks.places.items c.args.block None ≡ found = any_default blocks.places.items c.args.block None found lt ∙ sym c.index.ensures in
    in_room blocks.places.items blocks.room.len c.args.block blocks.within found is
