use Rattle.std.proofs.Common.{◌∙◌, arith}
use Rattle.st_blocks.specs.Blocks.{content_of}
use Rattle.st_blocks.proofs.Put.{read_more}
use Rattle.st_blocks.proofs.blocks.Blocks.read.Goals as goal

pub loop-done-preserved : goal.loop-done-preserved
loop-done-preserved c = record {
  within = omega (arith, c.part_of-len.ensures, c.read_part.ensures.len, c.loop-done.invariant.within);
  len = c.read_part.ensures.len ∙ c.loop-done.invariant.len;
  front = read_more (content_of c.args.self.now) c.args.at c.loop-done.done c.part_of-len.result c.loop-done.buf c.read_part.new.buf c.loop-done.invariant.front c.read_part.ensures.front;
}
