use Rattle.std.proofs.Common.{◌*◌, ◌/◌, ◌<◌, length, get_or, sym, ◌∙◌, add-one, arith}
use Rattle.st_rack.specs.Story.{put_in}
use Rattle.st_sparse.specs.Sectors.{byte_at}
use Rattle.st_sparse.proofs.Tears.{part_at, part_torn, content_more}
use Rattle.st_sparse.proofs.lay.lay_all_in.Goals as goal

pub write_kept-requires-clause-there : goal.write_kept-requires-clause-there
write_kept-requires-clause-there c =
    let l = c.args.since.now in
    let k = c.loop-i.i in
    let d = c.index-since-i.result in
    let lt : k < length l = omega (arith, c.loop-i-test.true) in
    let part = part_at c.args.pick l k d c.index-since-i-in-loop-i.result c.taken.result.now lt c.index-since-i-in-loop-i.is c.taken.ensures in
    λ i h. c.loop-i.invariant.keys (i / 512) ∙ c.requires i (part_torn c.args.pick l k d c.taken.result.now i lt part h)

pub loop-i-preserved : goal.loop-i-preserved
loop-i-preserved c =
    let l = c.args.since.now in
    let k = c.loop-i.i in
    let d = c.index-since-i.result in
    let lt : k < length l = omega (arith, c.loop-i-test.true) in
    let part = part_at c.args.pick l k d c.index-since-i-in-loop-i.result c.taken.result.now lt c.index-since-i-in-loop-i.is c.taken.ensures in
    rw add-one (record {
      bytes =
          (λ j i. c.write_kept.ensures.bytes i j) ∙ (λ j. put_in (512 * (get_or l k d).sector) (part j) (c.loop-i.invariant.bytes j))
          ∙ sym (content_more c.args.pick l k d (byte_at c.args.kept.now) lt);
      keys = λ s. c.write_kept.ensures.keys s ∙ c.loop-i.invariant.keys s;
    })
