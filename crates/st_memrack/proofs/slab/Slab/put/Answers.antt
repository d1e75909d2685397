use Rattle.std.proofs.Common.{◌*◌}
use Rattle.st_blocks.specs.Blocks.{content_of}
use Rattle.st_memrack.proofs.Bytes.{put_written, put_below, put_above}
use Rattle.st_memrack.proofs.slab.Slab.put.Goals as goal

pub returns-clause-written : goal.returns-clause-written
returns-clause-written c = put_written (512 * c.args.sector) c.args.bytes.now (content_of c.args.self.now.blocks) (content_of c.write.new.self) c.write.ensures.content

pub returns-clause-touched : goal.returns-clause-touched
returns-clause-touched c = record {
  below = put_below (512 * c.args.sector) c.args.bytes.now (content_of c.args.self.now.blocks) (content_of c.write.new.self) c.write.ensures.content;
  above = put_above (512 * c.args.sector) c.args.bytes.now (content_of c.args.self.now.blocks) (content_of c.write.new.self) c.write.ensures.content;
  told = c.tell_write.ensures content_of;
}
