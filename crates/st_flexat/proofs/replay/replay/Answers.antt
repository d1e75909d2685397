use Rattle.std.proofs.Common.{◌≡◌, ℕ, suc, ◌+◌, ◌-◌, ◌*◌, take, drop, ◌∙◌, ap, subst, arith}
use Rattle.st_flexat.specs.inner.Replaying.{sector_in, ReplayedTo}
use Rattle.st_flexat.proofs.Sectors.{sector_more}
use Rattle.st_flexat.proofs.replay.replay.Goals as goal

pub loop-k-preserved : goal.loop-k-preserved
loop-k-preserved c =
    let k = c.loop-k.k in
    let begun = c.args.begun.now in
    let bytes = c.args.sectors.now in
    let size : 512 * k + 512 - 512 * k ≡ 512 = omega arith in
    let sector : c.copy_from_slice.new.self ≡ sector_in bytes k = c.copy_from_slice.ensures.after ∙ ap (λ (n : ℕ). take n (drop (512 * k) bytes)) size in
    let number : begun.generation + k + 1 ≡ begun.generation + suc k = omega arith in
    let more : suc k ≡ k + 1 = omega arith in
    subst (λ (n : ℕ). ReplayedTo c.args.magic.now begun.generation begun.body bytes n c.in_ok-state-2.state) more
    (sector_more c.args.magic.now begun.generation begun.body bytes c.copy_from_slice.new.self k (begun.generation + k + 1) c.loop-k.state c.in_ok-state-2.state c.loop-k.invariant sector number c.in_ok-state-2.ensures)
