use Rattle.std.proofs.Common.{arith}
use Rattle.st_datatier.proofs.Growing.{row_size}
use Rattle.st_datatier.proofs.Passes.{one_more, at_the_end}
use Rattle.st_datatier.proofs.segments.segment_rows.Goals as goal

pub share-own-requires : goal.share-own-requires
share-own-requires c = row_size c.args.rows.now c.loop-number.number c.index-rows-number.result c.loop-number-test.true c.index-rows-number.is c.requires.sizes

pub loop-number-preserved : goal.loop-number-preserved
loop-number-preserved c = one_more c.args.rows.now c.loop-number.number c.index-rows-number.result c.loop-number.segments c.put_segment.new.segments _ c.loop-number.left c.share-own.result c.loop-number-test.true c.index-rows-number.is c.share-own.ensures.value c.in_ok-put_segment.ensures c.loop-number.invariant

pub returns : goal.returns
returns c = at_the_end c.args.rows.now c.loop-number.number c.loop-number.segments _ c.loop-number.left (omega arith) c.loop-number.invariant
