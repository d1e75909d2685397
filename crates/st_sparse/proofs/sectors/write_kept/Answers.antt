use Rattle.std.proofs.Common.{◌≡◌, ◌+◌, ◌-◌, ◌*◌, ◌≤◌, ◌<◌, ℕ, List, length, take, drop, ap, ◌∙◌, arith}
use Rattle.std.proofs.lemmas.List.{take_all}
use Rattle.st_rack.specs.Story.{put_in}
use Rattle.st_sparse.proofs.Kept.{range_kept}
use Rattle.st_sparse.specs.Sectors.{byte_at}
use Rattle.st_sparse.proofs.Over.{one_more}
use Rattle.st_sparse.proofs.sectors.write_kept.Goals as goal

pub write_one-requires-clause-there : goal.write_one-requires-clause-there
write_one-requires-clause-there c =
    let lt : 512 * c.loop-k.k < length c.args.bytes.now = omega (arith, c.requires.whole, c.loop-k-test.true) in
    c.loop-k.invariant.keys (c.args.sector + c.loop-k.k) ∙ range_kept c.args.kept.now c.args.sector (length c.args.bytes.now) c.loop-k.k c.requires.there lt

pub loop-k-preserved : goal.loop-k-preserved
loop-k-preserved c =
    let room : 512 * c.loop-k.k + 512 ≤ length c.args.bytes.now = omega (arith, c.requires.whole, c.loop-k-test.true) in
    let m : 512 * c.loop-k.k + 512 - 512 * c.loop-k.k ≡ 512 = omega arith in
    let is = ap (λ (n : ℕ). take n (drop (512 * c.loop-k.k) c.args.bytes.now)) m in
    record {
      bytes = one_more (byte_at c.args.kept.now) (byte_at c.loop-k.kept) (byte_at c.write_one.new.kept) c.args.sector c.loop-k.k c.args.bytes.now _ room is c.loop-k.invariant.bytes c.write_one.ensures.here c.write_one.ensures.others;
      keys = λ s. c.write_one.ensures.keys s ∙ c.loop-k.invariant.keys s;
    }

pub returns-clause-bytes : goal.returns-clause-bytes
returns-clause-bytes c =
    let le : length c.args.bytes.now ≤ 512 * c.loop-k.k = omega (arith, c.requires.whole, c.loop-k-test.false) in
    λ i. c.loop-k.invariant.bytes i ∙ ap (λ (l : List ℕ). put_in (512 * c.args.sector) l (byte_at c.args.kept.now) i) (take_all (512 * c.loop-k.k) c.args.bytes.now le)
