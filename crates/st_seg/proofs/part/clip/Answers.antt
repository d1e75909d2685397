use Rattle.std.proofs.Common.{◌≡◌, ◌+◌, ◌-◌, min, sym, ap, ◌∙◌, arith}
use Rattle.std.proofs.lemmas.List.{append-nil}
use Rattle.st_seg.specs.Blocks.{blocks_from}
use Rattle.st_seg.proofs.Parts.{part-blocks_from, blocks_from-none}
use Rattle.st_seg.proofs.part.clip.Goals as goal

pub returns-then-blocks-eq0-clause-blocks : goal.returns-then-blocks-eq0-clause-blocks
returns-then-blocks-eq0-clause-blocks c =
    let range = c.args.range.now in
    let part = part-blocks_from c.args.count c.args.skip range.dev range.first range.blocks in
    sym (part ∙ blocks_from-none _ _ _ (omega arith))

pub returns-clause-blocks : goal.returns-clause-blocks
returns-clause-blocks c =
    let range = c.args.range.now in
    let part = part-blocks_from c.args.count c.args.skip range.dev range.first range.blocks in
    let blocks : c.min-blocks.result ≡ min c.args.count (range.blocks - c.args.skip) = omega arith in
    append-nil _ ∙ (ap (blocks_from range.dev (range.first + c.args.skip)) blocks ∙ sym part)
