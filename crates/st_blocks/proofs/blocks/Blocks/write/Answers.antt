use Rattle.std.proofs.Common.{◌≡◌, ℕ, ◌+◌, ◌-◌, ◌≤◌, length, take, drop, ◌∙◌, ap, arith}
use Rattle.st_rack.specs.Story.{put_in}
use Rattle.st_blocks.specs.Blocks.{content_of}
use Rattle.st_blocks.proofs.Put.{put_more}
use Rattle.st_blocks.proofs.blocks.Blocks.write.Goals as goal

pub loop-done-preserved : goal.loop-done-preserved
loop-done-preserved c =
    let done = c.loop-done.done in
    let n = c.part_of-len.result in
    let room : done + n ≤ length c.args.bytes.now = omega (arith, c.part_of-len.ensures, c.loop-done.invariant.within) in
    let same : done + n - done ≡ n = omega arith in
    record {
      within = room;
      bytes = put_more (content_of c.args.self.now) (content_of c.loop-done.self) (content_of c.write_part.new.self) c.args.at done n c.args.bytes.now room c.loop-done.invariant.bytes
          (λ i. c.write_part.ensures.content i ∙ ap (λ (m : ℕ). put_in (c.args.at + done) (take m (drop done c.args.bytes.now)) (content_of c.loop-done.self) i) same);
      count = c.write_part.ensures.count ∙ c.loop-done.invariant.count;
    }
