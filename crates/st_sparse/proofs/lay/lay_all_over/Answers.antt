use Rattle.std.proofs.Common.{◌≡◌, ◌*◌, ◌<◌, None, ℕ, length, get_or, take, ap, sym, ◌∙◌, add-one, arith}
use Rattle.st_rack.specs.Story.{Content, put_in}
use Rattle.st_rack.specs.Device.{cells}
use Rattle.st_sparse.specs.Since.{content}
use Rattle.st_sparse.proofs.Tears.{part_at, content_more}
use Rattle.st_sparse.proofs.lay.lay_all_over.Goals as goal

pub loop-i-preserved : goal.loop-i-preserved
loop-i-preserved c =
    let l = c.args.since.now in
    let k = c.loop-i.i in
    let d = c.index-since-i.result in
    let n = length c.args.buf.now in
    let at = 512 * c.args.sector in
    let lt : k < length l = omega (arith, c.loop-i-test.true) in
    let part = part_at None l k d c.index-since-i-in-loop-i.result c.taken.result.now lt c.index-since-i-in-loop-i.is c.taken.ensures in
    let same : length c.lay_over.new.buf ≡ length c.loop-i.buf = omega arith in
    rw add-one (record {
      len = same ∙ c.loop-i.invariant.len;
      bytes = λ f given.
          let so_far = c.loop-i.invariant.bytes f given ∙ ap (λ (m : ℕ). cells (content None (take k l) f) at m) (sym c.loop-i.invariant.len) in
          c.lay_over.ensures (content None (take k l) f) so_far
          ∙ (λ j. cells (put_in (512 * (get_or l k d).sector) (part j) (content None (take k l) f)) at (c.loop-i.invariant.len j))
          ∙ ap (λ (g : Content). cells g at n) (sym (content_more None l k d f lt));
    })
