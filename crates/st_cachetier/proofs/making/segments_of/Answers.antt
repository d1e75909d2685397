use Rattle.std.proofs.Common.{◌≡◌, ap, sym, subst, ◌∙◌, arith}
use Rattle.std.specs.List.{All}
use Rattle.std.proofs.lemmas.List.Elements.{All-push}
use Rattle.st_units.specs.declared.rows.DevRow.{DevRow}
use Rattle.st_units.specs.declared.rows.Segment.{Segment}
use Rattle.st_limits.specs.Sums.{usable_blocks}
use Rattle.st_seg.specs.Blocks.{IsSegment, blocks_of}
use Rattle.st_linear.proofs.Devices.{devices_apart}
use Rattle.st_cachetier.specs.Tier.{sectors_of}
use Rattle.st_cachetier.proofs.Blocks.{one_more_block, row_size}
use Rattle.st_cachetier.proofs.making.segments_of.Goals as goal

pub returns-in_err-push-clause-apart : goal.returns-in_err-push-clause-apart
returns-in_err-push-clause-apart c = devices_apart (sectors_of c.args.rows.now) 0

pub returns-clause-apart : goal.returns-clause-apart
returns-clause-apart c = devices_apart (sectors_of c.args.rows.now) 0

pub loop-i-preserved : goal.loop-i-preserved
loop-i-preserved c =
    let i = c.loop-i.invariant in
    let rows = c.args.rows.now in
    let row = c.index-rows-i.result in
    let size = row_size rows c.loop-i.i row c.requires c.loop-i-test.true c.index-rows-i.is in
    let s : Segment = record { dev = c.loop-i.i; first = 0; blocks = c.usable_blocks.result } in
    let count : c.usable_blocks.result ≡ usable_blocks row.sectors = c.usable_blocks.ensures ∙ ap (λ (r : DevRow). usable_blocks r.sectors) (sym c.index-rows-i.is) in
    let fits : IsSegment s = (omega (arith, c.requires.few, c.loop-i-test.true), omega (arith, size.0, count), omega (arith, size.1, count)) in
    record {
      blocks = ap blocks_of c.in_ok-push.ensures.ok ∙ one_more_block rows c.loop-i.i row c.loop-i.segments s c.loop-i-test.true c.index-rows-i.is (λ k. record { dev = c.loop-i.i; first = 0; blocks = count k }) i.blocks;
      each = subst (All IsSegment) (sym c.in_ok-push.ensures.ok) (All-push IsSegment c.loop-i.segments s i.each fits);
    }
