use Rattle.std.proofs.Common.{◌∙◌}
use Rattle.st_sparse.specs.Sectors.{byte_at}
use Rattle.st_sparse.proofs.Over.{read_more}
use Rattle.st_sparse.proofs.sectors.read_kept.Goals as goal

pub loop-k-preserved : goal.loop-k-preserved
loop-k-preserved c = record {
  len = c.read_one.ensures.len ∙ c.loop-k.invariant.len;
  front = read_more (byte_at c.args.kept.now) c.args.sector c.loop-k.k c.loop-k.buf c.read_one.new.buf c.loop-k.invariant.front c.read_one.ensures.front;
}
